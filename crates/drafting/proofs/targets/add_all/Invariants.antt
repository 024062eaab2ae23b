use Rattle.std.proofs.Common.{length}
use Rattle.canonical_json.specs.Json.{Json}
use Rattle.drafting.specs.Targets.{AddsAll}
use Rattle.drafting.specs.steps.Rows.{additions_view}
use Rattle.drafting.proofs.Rows.{shown}
use Rattle.drafting.proofs.targets.add_all.Given as goal

-- what is left to be put comes on top of what was put
abbrev pub invariant-additions : goal.invariant-additions
invariant-additions l =
    (c : Json) → AddsAll (additions_view l.rest) (shown l.targets.items) c → AddsAll (additions_view l.fn.additions) (shown l.fn.targets.items) c

abbrev pub decreases-additions : goal.decreases-additions
decreases-additions l = length l.rest
