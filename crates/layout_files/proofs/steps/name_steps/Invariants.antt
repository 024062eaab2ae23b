use Rattle.std.proofs.Common.{◌≡◌, map}
use Rattle.document_parts.specs.Views.{step_view}
use Rattle.layout_files.specs.steps.Spelled.{spelled_steps}
use Rattle.layout_files.proofs.steps.name_steps.Given as goal

abbrev pub invariant-loop-step : goal.invariant-loop-step
invariant-loop-step l = map step_view l.steps.items ≡ spelled_steps l.yielded
