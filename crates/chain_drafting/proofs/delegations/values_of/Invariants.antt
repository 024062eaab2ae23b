use Rattle.std.proofs.Common.{◌≡◌, map}
use Rattle.canonical_json.specs.View.{view}
use Rattle.drafting.specs.steps.Rows.{rows_view}
use Rattle.chain_drafting.proofs.delegations.values_of.Given as goal

abbrev pub invariant-loop-row : goal.invariant-loop-row
invariant-loop-row l = map view l.values.items ≡ map (λ r. r.1) (rows_view l.yielded)
