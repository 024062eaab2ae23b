use Rattle.std.proofs.Common.{◌≡◌, ◌++◌, drop, map, None}
use Rattle.canonical_json.specs.View.{view}
use Rattle.chain_drafting.specs.Layouts.{step_objects}
use Rattle.chain_drafting.specs.steps.Said.{steps_view, text_of}
use Rattle.chain_drafting.proofs.steps.steps_value.Given as goal

abbrev pub invariant-loop-step : goal.invariant-loop-step
invariant-loop-step l =
    map view l.list.items ++ step_objects (text_of l.before) (steps_view (drop l.step-index l.steps)) ≡ step_objects None (steps_view l.steps)
