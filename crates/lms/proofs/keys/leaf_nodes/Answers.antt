use Rattle.std.proofs.Common.{◌≡◌, ◌+◌, ◌++◌, ◌∷◌, ◌^◌, [], ℕ, List, length, sym, ap, ◌∙◌, arith}
use Rattle.std.proofs.lemmas.List.FromFn.{length-map-range_with_len, map-range_with_len_more}
use Rattle.lms.specs.declared.LmsType.{LmsType}
use Rattle.lms.specs.Parameters.{height}
use Rattle.lms.specs.Keys.{leaf_count, node_hash}
use Rattle.lms.specs.steps.Leaves.{leaf_nodes}
use Rattle.lms.proofs.keys.leaf_nodes.Goals as goal

pub loop-q-preserved : goal.loop-q-preserved
loop-q-preserved c =
    let seed = c.args.seed.now in
    let ots = c.args.params.ots in
    let count = leaf_count c.args.params in
    let f : ℕ → List ℕ = λ k. node_hash ots seed.identifier seed.secret count 0 (count + k) in
    let leaves : c.leaves-leaves.result ≡ count = c.leaves-leaves.ensures ∙ ap (λ (l : LmsType). 2 ^ height l) c.lms_type.ensures in
    let hash : c.leaf_node-hash.result ≡ f c.loop-q.q
    = c.leaf_node-hash.ensures ∙ ap (λ (n : ℕ). node_hash ots seed.identifier seed.secret n 0 (n + c.loop-q.q)) leaves in
    c.in_ok-push.ensures.items
    ∙ ap (λ (xs : List (List ℕ)). xs ++ c.leaf_node-hash.result ∷ []) c.loop-q.invariant
    ∙ ap (λ (x : List ℕ). leaf_nodes ots seed.identifier seed.secret count c.loop-q.q ++ x ∷ []) hash
    ∙ sym (map-range_with_len_more f 0 c.loop-q.q c.loop-q.q (omega arith))

pub returns : goal.returns
returns c =
    let seed = c.args.seed.now in
    let ots = c.args.params.ots in
    let count = leaf_count c.args.params in
    let f : ℕ → List ℕ = λ k. node_hash ots seed.identifier seed.secret count 0 (count + k) in
    let sized : length c.loop-q.hashes.items ≡ c.loop-q.q = ap length c.loop-q.invariant ∙ length-map-range_with_len f 0 c.loop-q.q in
    c.loop-q.invariant ∙ ap (leaf_nodes ots seed.identifier seed.secret count) (sym sized)
