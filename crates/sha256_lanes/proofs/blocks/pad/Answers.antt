use Rattle.std.proofs.Common.{ℕ, List, ◌++◌, drop, replicate, ap, refl, arith, ◌∙◌}
use Rattle.sha256_lanes.proofs.Padding.{padded}
use Rattle.sha256_lanes.proofs.blocks.pad.Goals as goal

pub returns-clause-value : goal.returns-clause-value
returns-clause-value g c =
    padded c.args.message.now _ _ g.row.N g.row.N (omega arith) (omega arith) refl
    (ap (λ (ys : List ℕ). ys ++ drop g.row.N (replicate 64 0)) c.copy_from_slice.ensures.after)
    (c.copy_from_slice-2.ensures.after ∙ c.to_be_bytes.ensures)
