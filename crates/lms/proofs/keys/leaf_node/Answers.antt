use Rattle.std.proofs.Common.{◌≡◌, ◌+◌, ◌-◌, ℕ, List, [], slice_index_or, ap, ◌∙◌, arith}
use Rattle.std.proofs.lemmas.List.FromFn.{get_or-map-range_with_len}
use Rattle.lms.specs.Keys.{node_hash}
use Rattle.lms.proofs.keys.leaf_node.Goals as goal

pub returns-then-q-known : goal.returns-then-q-known
returns-then-q-known c =
    let seed = c.args.seed.now in
    let leaves = c.args.leaves in
    let q = c.args.node - leaves in
    let f : ℕ → List ℕ = λ k. node_hash c.args.ots seed.identifier seed.secret leaves 0 (leaves + k) in
    let at : leaves + q ≡ c.args.node = omega (arith, c.requires.leaf) in
    ap (λ (xs : List (List ℕ)). slice_index_or xs q []) c.requires.known
    ∙ get_or-map-range_with_len f 0 _ q q [] c.if-q-known.true (omega arith)
    ∙ ap (node_hash c.args.ots seed.identifier seed.secret leaves 0) at
