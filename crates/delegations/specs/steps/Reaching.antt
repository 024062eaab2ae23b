-- Which roles chains of good documents reach, patterns and terminating flags disregarded, while a search for them is on its way.
--     Reaches seen e     a chain through the roles `seen`, whose last edge is e; all edges before it are good
--     IsOpen met hss     the roles that were met, and for some of them their delegations, which are not looked at yet
use Rattle.std.specs.Prelude.{◌≡◌, ℕ, ◌+◌, true, false, cond, List, [], ◌∷◌, ◌++◌, map, Option, Some, None, Bool, ◌⊎◌}
use Rattle.std.specs.List.{AllByRecursion}
use Rattle.keys_roles.specs.Plain.{Table}
use Rattle.keys_roles.specs.Views as keys
use Rattle.document_parts.specs.Documents.{Targets, MetaFile}
use Rattle.metadata.specs.File.{Name, Names, File, has_name}
use Rattle.document_parts.specs.Views.{delegation_view}
use Rattle.document_parts.specs.declared.documents.Delegation.{Delegation as CodeDelegation}
use Rattle.delegations.specs.Delegation.{Edge, Hops, hops, hop_at}
use Rattle.delegations.specs.Search.{Shelf, Good, MeetsEdge, Vouched, hops_of, whole}
use Rattle.delegations.specs.declared.frames.Frame.{Frame}

-- delegations over a table of keys, whatever they cover
abbrev pub rest_of : Table → List CodeDelegation → Hops
rest_of table ds = hops_of (λ d. true) (Some (record { keys = table; roles = map delegation_view ds }))

-- all delegations that a frame holds
abbrev pub whole_of : Frame → Hops
whole_of f = rest_of (keys.table_view f.keys.now) f.roles.now

abbrev pub waiting : List Frame → List Hops
waiting fs = map whole_of fs

abbrev pub IsAmong : Hops → List Hops → Type 0
IsAmong hs [] = ⊥
IsAmong hs (first ∷ hss) = (first ≡ hs) ⊎ IsAmong hs hss

abbrev pub Within : Names → Names → Type 0
Within small large = (w : Name) → has_name small w ≡ true → has_name large w ≡ true

-- how many of the listed roles were not met
abbrev pub unmet_rows : List (Name × MetaFile) → Names → ℕ
unmet_rows [] met = 0
unmet_rows (row ∷ rows) met = cond (has_name met row.0) 0 1 + unmet_rows rows met

module _ (V : Shelf) (now : ℕ) where
  pub data Reaches : Names → Edge → Type 0 where
    begins : Reaches (V.top.role ∷ []) V.top
    goes_on : {seen : Names} {next : Edge} (e : Edge) (i : ℕ) → Reaches seen e → Good V e now → hop_at (whole V) e.role i ≡ Some next → has_name seen next.role ≡ false
        → Reaches (next.role ∷ seen) next

  -- a chain of good edges to the role, through roles that were met
  pub record Arrives (met : Names) (role : Name) : Type 0 where
    pub seen : Names
    pub last : Edge
    pub reaches : Reaches seen last
    pub good : Good V last now
    pub ends : last.role ≡ role
    pub inside : Within seen met

  -- the role was met, or its document delegates nothing, so that no chain leads on from it
  abbrev pub IsDone : Names → Name → Type 0
  IsDone met u = (has_name met u ≡ true) ⊎ (hops (whole V) u ≡ [])

  module _ (role : Name) (new : File Targets) where
    -- the edge does not vouch for the new document, and where it is good, its role is done
    abbrev pub Handles : Names → Option Edge → Type 0
    Handles met None = Unit {0}
    Handles met (Some e) = (e.role ≡ role → MeetsEdge V e new → ⊥) × (Good V e now → IsDone met e.role ⊎ (e.role ≡ role))

    pub record IsOpen (met : Names) (hss : List Hops) : Type 0 where
      pub apart : has_name met role ≡ false
      pub reached : (u : Name) → has_name met u ≡ true → Arrives met u
      pub looked : (u : Name) → has_name met u ≡ true → AllByRecursion (Handles met) (hops (whole V) u) ⊎ IsAmong (hops (whole V) u) hss
      pub from : (hs : Hops) → IsAmong hs hss → (u : Name) × (has_name met u ≡ true) × (hops (whole V) u ≡ hs)
      pub top : Good V V.top now → IsDone met V.top.role

    -- what comes of following an edge: it vouches for the document, or it is handled
    abbrev pub Follows : Edge → Hops → Names → List Hops → Names → List Hops → Bool → Type 0
    Follows e hs met hss later_met later_hss true = Vouched V role new now
    Follows e hs met hss later_met later_hss false = IsOpen later_met (hs ∷ later_hss) × Handles later_met (Some e) × Within met later_met

    -- what comes of looking at all delegations of a role
    abbrev pub Closes : Names → List Hops → Bool → Type 0
    Closes met hss true = Vouched V role new now
    Closes met hss false = IsOpen met hss

    -- of all delegations of a role that was met, those before the rest are handled
    pub record IsLooking (met : Names) (hss : List Hops) (all rest : Hops) : Type 0 where
      pub state : IsOpen met (all ∷ hss)
      pub done : Hops
      pub split : all ≡ done ++ rest
      pub handled : AllByRecursion (Handles met) done
