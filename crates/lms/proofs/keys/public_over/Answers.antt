use Rattle.std.proofs.Common.{◌≡◌, ◌++◌, ◌^◌, ℕ, List, length, ap, ◌∙◌, arith}
use Rattle.lms.specs.declared.LmsType.{LmsType}
use Rattle.lms.specs.Parameters.{lms_code, ots_code, height, signing_type}
use Rattle.lms.specs.Text.{u32}
use Rattle.lms.specs.Keys.{node_hash}
use Rattle.lms.proofs.Placed.{placed_first, placed_at, filled}
use Rattle.lms.proofs.keys.public_over.Goals as goal

pub returns : goal.returns
returns c =
    let seed = c.args.seed.now in
    let ots = c.args.params.ots in
    let lms = signing_type c.args.params.height in
    let first = placed_first (length c.to_be_bytes.result) 4 c.place.new.target c.to_be_bytes.result (omega arith) c.place.ensures.front in
    let second = placed_at 4 (length c.to_be_bytes-2.result) 8 c.place.new.target c.place-2.new.target c.to_be_bytes-2.result (omega arith) c.place-2.ensures.front in
    let third = placed_at 8 (length seed.identifier) 24 c.place-2.new.target c.place-3.new.target seed.identifier (omega arith) c.place-3.ensures.front in
    let fourth = filled 24 (length c.node_hash-root.result) c.place-3.new.target c.place-4.new.target c.node_hash-root.result (omega arith) c.place-4.ensures.front in
    let code : c.to_be_bytes.result ≡ u32 (lms_code lms) = c.to_be_bytes.ensures ∙ ap u32 (c.code.ensures ∙ ap lms_code c.lms_type-lms.ensures) in
    let ots_bytes : c.to_be_bytes-2.result ≡ u32 (ots_code ots) = c.to_be_bytes-2.ensures ∙ ap u32 c.code-2.ensures in
    let root : c.node_hash-root.result ≡ node_hash ots seed.identifier seed.secret (2 ^ height lms) (height lms) 1
    = c.node_hash-root.ensures
    ∙ ap (λ (n : ℕ). node_hash ots seed.identifier seed.secret n c.height.result 1) (c.leaves.ensures ∙ ap (λ (l : LmsType). 2 ^ height l) c.lms_type-lms.ensures)
    ∙ ap (λ (n : ℕ). node_hash ots seed.identifier seed.secret (2 ^ height lms) n 1) (c.height.ensures ∙ ap height c.lms_type-lms.ensures) in
    fourth ∙ ap (λ (xs : List ℕ). xs ++ c.node_hash-root.result) (third ∙ ap (λ (xs : List ℕ). xs ++ seed.identifier) (second ∙ ap (λ (xs : List ℕ). xs ++ c.to_be_bytes-2.result) first))
    ∙ ap (λ (xs : List ℕ). ((xs ++ c.to_be_bytes-2.result) ++ seed.identifier) ++ c.node_hash-root.result) code
    ∙ ap (λ (xs : List ℕ). ((u32 (lms_code lms) ++ xs) ++ seed.identifier) ++ c.node_hash-root.result) ots_bytes
    ∙ ap (λ (xs : List ℕ). ((u32 (lms_code lms) ++ u32 (ots_code ots)) ++ seed.identifier) ++ xs) root
