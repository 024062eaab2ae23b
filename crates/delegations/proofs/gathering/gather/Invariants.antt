use Rattle.std.proofs.Common.{◌≡◌, ◌-◌, Some, [], drop, length, map}
use Rattle.keys_roles.specs.Rules.{AreDistinct}
use Rattle.keys_roles.specs.Verdicts.{AreVerdicts}
use Rattle.keys_roles.specs.Views.{verdict_views}
use Rattle.metadata.specs.FileViews.{targets_file}
use Rattle.delegations.specs.Search as plain
use Rattle.delegations.specs.Search.{doc}
use Rattle.delegations.specs.Views.{edge_view}
use Rattle.delegations.specs.steps.Gathering.{AreEdges, IsGathered}
use Rattle.delegations.proofs.gathering.gather.Given as goal

abbrev pub invariant-edges : goal.invariant-edges
invariant-edges l = record {
  sound : AreVerdicts (targets_file l.file).signed (targets_file l.file).entries (verdict_views l.verdicts.items);
  distinct : AreDistinct (map (λ v. v.pair) (verdict_views l.verdicts.items));
  gathered : (V : plain.Shelf) → doc V l.role ≡ Some (targets_file l.file) → AreEdges V [] (map edge_view l.edges)
      → IsGathered V l.role (targets_file l.file) (drop l.next (map edge_view l.edges)) (verdict_views l.verdicts.items);
}

abbrev pub decreases-edges : goal.decreases-edges
decreases-edges l = length l.edges - l.next
