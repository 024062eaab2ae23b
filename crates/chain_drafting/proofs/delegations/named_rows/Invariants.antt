use Rattle.std.proofs.Common.{◌≡◌, map}
use Rattle.std.specs.List.{AllByRecursion}
use Rattle.canonical_json.specs.View.{view}
use Rattle.chain_drafting.specs.Delegations.{IsTo}
use Rattle.drafting.specs.steps.Rows.{rows_view}
use Rattle.chain_drafting.proofs.delegations.named_rows.Given as goal

abbrev pub invariant-loop-delegation : goal.invariant-loop-delegation
invariant-loop-delegation l = record {
  same : map (λ r. r.1) (rows_view l.named.items) ≡ map view l.yielded;
  named : AllByRecursion IsTo (rows_view l.named.items);
}
