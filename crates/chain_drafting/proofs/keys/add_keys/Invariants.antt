use Rattle.std.proofs.Common.{drop}
use Rattle.canonical_json.specs.Json.{Json}
use Rattle.drafting.specs.Members.{PutsAll}
use Rattle.drafting.proofs.Rows.{shown}
use Rattle.chain_drafting.specs.Layouts.{step_keys}
use Rattle.chain_drafting.specs.steps.Said.{steps_view}
use Rattle.chain_drafting.proofs.keys.add_keys.Given as goal

-- what is left to be put comes on top of what was put
abbrev pub invariant-loop-step : goal.invariant-loop-step
invariant-loop-step l =
    (c : Json) → PutsAll (step_keys (steps_view (drop l.step-index l.steps))) (shown l.table.items) c → PutsAll (step_keys (steps_view l.steps)) (shown l.fn.table.items) c
