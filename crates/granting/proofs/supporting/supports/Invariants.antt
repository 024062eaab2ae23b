use Rattle.std.proofs.Common.{◌≡◌, ◌≤◌, length}
use Rattle.std.specs.Prelude.{IsSome}
use Rattle.std.specs.List.{AllByRecursion}
use Rattle.delegations.specs.Verdicts.{AreFew, IsComplete}
use Rattle.delegations.specs.Views.{shelf_view}
use Rattle.document_parts.specs.Views.{root_view}
use Rattle.trust_rules.specs.Held.{OfEachState, length_at}
use Rattle.trust_rules.specs.Grants.{support}
use Rattle.granting.specs.steps.Permitting.{all_bytes_at}
use Rattle.trust_rules.proofs.EachInTurn.{Follows}
use Rattle.granting.proofs.supporting.supports.Given as goal

abbrev pub invariant-paths : goal.invariant-paths
invariant-paths l = record {
  each : OfEachState l.held.held (λ S. Follows (support S (root_view l.root) (shelf_view l.shelf) l.now) l.fn.paths l.rest (all_bytes_at S l.found.items));
  there : AllByRecursion (λ d. IsSome (length_at l.held.held.blobs d.0)) l.found.items;
  grows : l.fn.checks ≤ l.checks;
  free : AreFew (shelf_view l.shelf) → IsComplete (shelf_view l.shelf) l.held.verdicts → l.checks ≡ l.fn.checks;
}

abbrev pub decreases-paths : goal.decreases-paths
decreases-paths l = length l.rest
