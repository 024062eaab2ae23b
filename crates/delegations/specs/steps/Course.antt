-- The course of a walk: which edges it takes, in order. The walk visits the role of an edge and then, for each of its delegations in
-- order that covers the path, the roles below that were not met yet; after a terminating delegation it visits nothing outside.
--     Goes g hs met c       from the delegations hs, with these roles met, the walk takes the course c
--     Decides, Exhausts, Passes   how far the judging of the visits of a course comes within a room of visits
use Rattle.std.specs.Prelude.{◌≡◌, ℕ, ◌+◌, ◌<◌, Bool, true, false, ◌||◌, List, [], ◌∷◌, ◌++◌, length, take, Some, None, Err}
use Rattle.metadata.specs.File.{Bytes, Names, has_name}
use Rattle.denials.specs.Orders.{Judged, Denied, Plain, denied}
use Rattle.document_parts.specs.Covers.{covers}
use Rattle.delegations.specs.Delegation.{Edge, Hops, Graph, hops}
use Rattle.delegations.specs.Search.{Shelf, Found, find_in, graph_of}

-- the graph at one path
abbrev pub here : Shelf → Bytes → Graph
here V path = graph_of V (λ d. covers d path)

-- the edges taken, the roles met when it is done, newest first, and whether a terminating delegation ended it
pub record Course : Type 0 where
  pub edges : List Edge
  pub met : Names
  pub stop : Bool

abbrev pub stays : Names → Bool → Course
stays met stop = record { edges = []; met = met; stop = stop }

-- the edge and the course below it, and nothing after
abbrev pub ended : Edge → Course → Course
ended e a = record { edges = e ∷ a.edges; met = a.met; stop = true }

abbrev pub on : Edge → Course → Course → Course
on e a b = record { edges = (e ∷ a.edges) ++ b.edges; met = b.met; stop = b.stop }

pub data Goes (g : Graph) : Hops → Names → Course → Type 0 where
  done : {met : Names} → Goes g [] met (stays met false)
  uncovered : {hs : Hops} {met : Names} {c : Course} → Goes g hs met c → Goes g (None ∷ hs) met c
  known : {e : Edge} {hs : Hops} {met : Names} {c : Course}
      → has_name met e.role ≡ true → e.terminating ≡ false → Goes g hs met c → Goes g (Some e ∷ hs) met c
  known_last : {e : Edge} {hs : Hops} {met : Names}
      → has_name met e.role ≡ true → e.terminating ≡ true → Goes g (Some e ∷ hs) met (stays met true)
  new : {e : Edge} {hs : Hops} {met : Names} {a b : Course}
      → has_name met e.role ≡ false → Goes g (hops g e.role) (e.role ∷ met) a → (a.stop || e.terminating) ≡ false
      → Goes g hs a.met b → Goes g (Some e ∷ hs) met (on e a b)
  new_last : {e : Edge} {hs : Hops} {met : Names} {a : Course}
      → has_name met e.role ≡ false → Goes g (hops g e.role) (e.role ∷ met) a → (a.stop || e.terminating) ≡ true
      → Goes g (Some e ∷ hs) met (ended e a)

module _ (V : Shelf) (path : Bytes) (now : ℕ) where
  -- the first of the next `room` visits that decides gives j, whatever visits follow
  abbrev pub Decides : ℕ → List Edge → Judged Found → Type 0
  Decides room es j = (more : List Edge) (k : ℕ) → find_in V (take room (es ++ more)) path now (denied k) j

  -- there are more than `room` visits, and none of the first `room` decides
  pub record Exhausts (room : ℕ) (es : List Edge) : Type 0 where
    pub many : room < length es
    pub on : (more : List Edge) (k : ℕ) → find_in V (take room (es ++ more)) path now (denied k) (Err (Denied (Plain k)))

  -- none of these visits decides, and `left` of the room is left
  pub record Passes (room : ℕ) (es : List Edge) (left : ℕ) : Type 0 where
    pub used : left + length es ≡ room
    pub on : (more : List Edge) (k : ℕ) (j : Judged Found)
        → find_in V (take left more) path now (denied k) j → find_in V (take room (es ++ more)) path now (denied k) j
