use Rattle.std.proofs.Common.{◌≡◌, length, map}
use Rattle.document_parts.specs.steps.Rising.{rises}
use Rattle.document_parts.proofs.artifacts.are_in_order.Given as goal

abbrev pub invariant-rows : goal.invariant-rows
invariant-rows l = rises (map (λ r. r.0) l.rest) ≡ rises (map (λ r. r.0) l.fn.rows)

abbrev pub decreases-rows : goal.decreases-rows
decreases-rows l = length l.rest
