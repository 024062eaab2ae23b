-- Small graphs of delegations, all of which cover the path, to try the definition of the visits on. The roles are named by letters.
use Rattle.std.specs.Prelude.{Bool, true, false, List, [], ◌∷◌, map, Some, codes}
use Rattle.metadata.specs.File.{Name}
use Rattle.delegations.specs.Delegation.{Edge, Graph}

-- an edge into a role, whatever its rule
abbrev pub edge_to : Name → Bool → Edge
edge_to role terminating = record { role = role; terminating = terminating; rule = record { keyids = []; threshold = 1 }; table = [] }

-- a delegation that is not terminating, and one that is
abbrev pub to : Name → Name × Bool
to role = (role, false)

abbrev pub last_to : Name → Name × Bool
last_to role = (role, true)

-- the graph of these roles with their delegations
abbrev pub graph : List (Name × List (Name × Bool)) → Graph
graph rows = record { root = edge_to (codes "targets") false; rows = map (λ row. (row.0, map (λ d. Some (edge_to d.0 d.1)) row.1)) rows }

-- `targets` to a, then b; a to c; c to b
abbrev pub nested : Graph
nested = graph (
    (codes "targets", to (codes "a") ∷ to (codes "b") ∷ [])
    ∷ (codes "a", to (codes "c") ∷ []) ∷ (codes "b", []) ∷ (codes "c", to (codes "b") ∷ []) ∷ []
    )

-- `targets` to a, then terminating to b, then to c; a to b
abbrev pub ended_by_a_known_role : Graph
ended_by_a_known_role = graph (
    (codes "targets", to (codes "a") ∷ last_to (codes "b") ∷ to (codes "c") ∷ [])
    ∷ (codes "a", to (codes "b") ∷ []) ∷ (codes "b", []) ∷ (codes "c", []) ∷ []
    )

-- `targets` to a, then d; a to terminating b, then c
abbrev pub ended_below : Graph
ended_below = graph (
    (codes "targets", to (codes "a") ∷ to (codes "d") ∷ [])
    ∷ (codes "a", last_to (codes "b") ∷ to (codes "c") ∷ []) ∷ (codes "b", []) ∷ (codes "c", []) ∷ (codes "d", []) ∷ []
    )

-- `targets` to a, then c; a to itself, terminating, then b
abbrev pub ended_by_itself : Graph
ended_by_itself = graph (
    (codes "targets", to (codes "a") ∷ to (codes "c") ∷ [])
    ∷ (codes "a", last_to (codes "a") ∷ to (codes "b") ∷ []) ∷ (codes "b", []) ∷ (codes "c", []) ∷ []
    )

-- `targets` to a, then b; a to b
abbrev pub met_below : Graph
met_below = graph (
    (codes "targets", to (codes "a") ∷ to (codes "b") ∷ []) ∷ (codes "a", to (codes "b") ∷ []) ∷ (codes "b", []) ∷ []
    )
