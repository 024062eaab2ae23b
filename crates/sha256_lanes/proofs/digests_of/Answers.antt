use Rattle.std.proofs.Common.{[], ◌∷◌, ◌∙◌, arith}
use Rattle.sha256_lanes.proofs.Padding.{all_blocks}
use Rattle.sha256_lanes.proofs.digests_of.Goals as goal

pub returns-then-are_worthwhile : goal.returns-then-are_worthwhile
returns-then-are_worthwhile c =
    let held = c.hash_values.ensures in
    let first = all_blocks c.args.first.now _ _ (omega arith) held.first in
    let second = all_blocks c.args.second.now _ _ (omega arith) held.second in
    let third = all_blocks c.args.third.now _ _ (omega arith) held.third in
    let fourth = all_blocks c.args.fourth.now _ _ (omega arith) held.fourth in
    c.digests_in.ensures ∙ (λ i. first i ∷ second i ∷ third i ∷ fourth i ∷ [])
