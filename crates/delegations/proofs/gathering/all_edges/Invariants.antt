use Rattle.std.proofs.Common.{length, map}
use Rattle.delegations.specs.Views.{edge_view, shelf_view}
use Rattle.delegations.specs.steps.Gathering.{AreEdges}
use Rattle.delegations.proofs.gathering.all_edges.Given as goal

abbrev pub invariant-roles : goal.invariant-roles
invariant-roles l = AreEdges (shelf_view l.shelf) (map (λ e. e.0) l.rest) (map edge_view l.edges.items)

abbrev pub decreases-roles : goal.decreases-roles
decreases-roles l = length l.rest
