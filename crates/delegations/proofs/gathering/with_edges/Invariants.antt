use Rattle.std.proofs.Common.{◌≡◌, ◌++◌, length, map}
use Rattle.keys_roles.specs.Views as keys
use Rattle.document_parts.specs.Views.{delegation_view}
use Rattle.delegations.specs.Search.{edge_of}
use Rattle.delegations.specs.Views.{edge_view}
use Rattle.delegations.proofs.gathering.with_edges.Given as goal

abbrev pub invariant-delegations : goal.invariant-delegations
invariant-delegations l = map edge_view l.edges.items ++ map (edge_of (keys.table_view l.delegations.keys)) (map delegation_view l.rest)
    ≡ map edge_view l.fn.edges.items ++ map (edge_of (keys.table_view l.delegations.keys)) (map delegation_view l.delegations.roles.items)

abbrev pub decreases-delegations : goal.decreases-delegations
decreases-delegations l = length l.rest
