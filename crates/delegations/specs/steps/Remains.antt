-- A search on its way, as a stack of what is left: for each role whose delegations are being followed, the innermost first, the
-- delegations still to follow.
--     Remains g hss met es    with these delegations left and these roles met, the edges es are followed, and then nothing is left
--     IsAt, IsBefore          where a search stands: between two delegations, or before the visit that an edge leads to
--     Leads                   what a step of the search may answer
--     work                    how much is left to do at most
use Rattle.std.specs.Prelude.{◌≡◌, ℕ, suc, ◌+◌, ◌-◌, ◌*◌, ◌≤◌, true, false, cond, List, [], ◌∷◌, ◌++◌, map, length, Option, Some, None, Result, Ok, Err}
use Rattle.std.specs.List.{AllByRecursion}
use Rattle.keys_roles.specs.Views as keys
use Rattle.document_parts.specs.Covers.{covers}
use Rattle.metadata.specs.File.{Bytes, Names, has_name}
use Rattle.document_parts.specs.Views.{delegation_view}
use Rattle.denials.specs.Orders.{Denied}
use Rattle.delegations.specs.Delegation.{Edge, Hops, Graph, hops}
use Rattle.delegations.specs.Rows.{Rows}
use Rattle.delegations.specs.Search.{Shelf, hops_of, most_visits, search, visited}
use Rattle.delegations.specs.Verdicts.{Table, PassesBy, Costs, all_lacking}
use Rattle.delegations.specs.Views.{found_view, denial_view}
use Rattle.delegations.specs.Visits.{Visits, last_first}
use Rattle.delegations.specs.declared.frames.Frame.{Frame}
use Rattle.delegations.specs.declared.shelf.Found.{Found}
use Rattle.delegations.specs.declared.shelf.SearchDenial.{SearchDenial}
use Rattle.delegations.specs.steps.Course.{here, Passes}

-- what stays open once the edge is followed: nothing, where its delegation is terminating
abbrev pub around : Edge → Hops → List Hops → List Hops
around e hs hss = cond e.terminating [] (hs ∷ hss)

pub data Remains (g : Graph) : List Hops → Names → List Edge → Type 0 where
  nothing : {met : Names} → Remains g [] met []
  finished : {hss : List Hops} {met : Names} {es : List Edge} → Remains g hss met es → Remains g ([] ∷ hss) met es
  passed_by : {hs : Hops} {hss : List Hops} {met : Names} {es : List Edge} → Remains g (hs ∷ hss) met es → Remains g ((None ∷ hs) ∷ hss) met es
  skipped : {e : Edge} {hs : Hops} {hss : List Hops} {met : Names} {es : List Edge}
      → has_name met e.role ≡ true → Remains g (around e hs hss) met es → Remains g ((Some e ∷ hs) ∷ hss) met es
  entered : {e : Edge} {hs : Hops} {hss : List Hops} {met : Names} {es : List Edge}
      → has_name met e.role ≡ false → Remains g (hops g e.role ∷ around e hs hss) (e.role ∷ met) es → Remains g ((Some e ∷ hs) ∷ hss) met (e ∷ es)

-- what a frame stands for: the delegations that it holds, at one path
abbrev pub left_of : Bytes → Frame → Hops
left_of path f = hops_of (λ d. covers d path) (Some (record { keys = keys.table_view f.keys.now; roles = map delegation_view f.roles.now }))

abbrev pub all_left : Bytes → List Frame → List Hops
all_left path fs = map (left_of path) fs

module _ (V : Shelf) (path : Bytes) (now : ℕ) (T : Table) (count : ℕ) where
  -- the search has made these visits, none of which ends it, and what is left takes the others
  pub record IsAt (hss : List Hops) (met : Names) : Type 0 where
    pub taken : List Edge
    pub left : List Edge
    pub named : met ≡ last_first taken
    pub passed : Passes V path now most_visits taken (32 - length met)
    pub on : AllByRecursion (PassesBy V path now) taken
    pub remains : Remains (here V path) hss met left
    pub split : visited V path ≡ taken ++ left
    pub paid : count ≤ all_lacking V T taken

  -- the same, with this edge to be taken next
  pub record IsBefore (e : Edge) (hss : List Hops) (met : Names) : Type 0 where
    pub taken : List Edge
    pub left : List Edge
    pub named : met ≡ last_first taken
    pub passed : Passes V path now most_visits taken (32 - length met)
    pub on : AllByRecursion (PassesBy V path now) taken
    pub remains : Remains (here V path) (hops (here V path) e.role ∷ hss) (e.role ∷ met) left
    pub split : visited V path ≡ taken ++ (e ∷ left)
    pub paid : count ≤ all_lacking V T taken

  -- a step answers as the search does, or leaves the search further on
  abbrev pub Leads : List Frame → Names → Result (Option Found) SearchDenial → Type 0
  Leads fs met (Ok (Some f)) = search V path now (Ok (found_view f)) × Costs V T path now count × Visits V path now met
  Leads fs met (Ok None) = IsAt (all_left path fs) met
  Leads fs met (Err d) = search V path now (Err (Denied (denial_view d))) × Costs V T path now count × Visits V path now met

-- the delegations of all rows
abbrev pub wide : Bytes → Rows → ℕ
wide path [] = 0
wide path (row ∷ rows) = length (hops_of (λ d. covers d path) row.1.body.delegations) + wide path rows

abbrev pub load : List Hops → ℕ
load [] = 0
load (hs ∷ hss) = suc (length hs) + load hss

-- each visit that there is room for brings one frame, with no more delegations than there are
abbrev pub work : Shelf → Bytes → Names → List Frame → ℕ
work V path met fs = (32 - length met) * suc (wide path V.rows) + load (all_left path fs)
