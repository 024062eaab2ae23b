-- Drafts of the delegations of targets metadata (TUF 1.0, section 4.5, DELEGATIONS).
use Rattle.std.specs.Prelude.{◌≡◌, ◌⊎◌, ℕ, pos, Bool, true, false, not, List, [], ◌∷◌, ◌++◌, bytes_eq, codes, flat_map, map, take_while, Option, Some, None}
use Rattle.std.specs.List.{AllByRecursion}
use Rattle.canonical_json.specs.Json.{Json, boolean, integer, text, array, object, Items, Members, no_members, member, HasMember}
use Rattle.canonical_json.specs.View.{items_of}
use Rattle.keys_roles.specs.Rules.{AreDistinct}
use Rattle.document_parts.specs.declared.documents.Kind.TheVariants as kinds
use Rattle.drafting.specs.Members.{AlikeBut, HasNone, IsListAt, IsObjectAt, Rows, without}
use Rattle.drafting.specs.Drafts.{File, Drafts, IsBase}
use Rattle.drafting.specs.Roots.{Rule, PutsTable, ids_of, keys_of, names_of}
use Rattle.drafting.specs.Targets.{IsThere, IsUnlisted}
use Rattle.drafting.specs.declared.terms.Terms.{Terms}
use Rattle.drafting.specs.declared.faults.DraftFault.{DraftFault}
use Rattle.drafting.specs.declared.faults.DraftFault.TheVariants.{Unlisted}

-- ---- what is said

-- a delegation: the role, its rule, the patterns of what it covers, or the prefixes of the digests of the paths, whether nothing after it
-- is searched for that, and before the delegation to which role it stands
pub record Delegated : Type 0 where
  pub role : List ℕ
  pub rule : Rule
  pub covers : List (List ℕ)
  pub has_prefixes : Bool
  pub terminating : Bool
  pub before : Option (List ℕ)

-- the roles to which nothing is delegated any more, and then the delegations that are put
pub record Changes : Type 0 where
  pub undelegated : List (List ℕ)
  pub delegated : List Delegated

-- the member that says what a delegation covers: prefixes of the digests of paths, or patterns
abbrev pub scope_name : Bool → List ℕ
scope_name true = codes "path_hash_prefixes"
scope_name false = codes "paths"

-- {"keyids":[..],"name":..,"paths":[..],"terminating":..,"threshold":..}, and with `path_hash_prefixes` in the place of `paths` where it
-- covers by prefixes
abbrev pub delegation_object : Delegated → Json
delegation_object d =
    object (member (codes "keyids") (array (items_of (ids_of d.rule.keys)))
    (member (codes "name") (text d.role)
    (member (scope_name d.has_prefixes) (array (items_of (map text d.covers)))
    (member (codes "terminating") (boolean d.terminating)
    (member (codes "threshold") (integer (pos d.rule.threshold)) no_members)))))

-- the keys of what is put by their ids, and the names by the ids of their keys
abbrev pub key_rows : List Delegated → List (List ℕ × Json)
key_rows delegated = flat_map (λ d. keys_of d.rule.keys) delegated

abbrev pub name_rows : List Delegated → List (List ℕ × Json)
name_rows delegated = flat_map (λ d. names_of d.rule.keys) delegated

-- ---- lists of delegations

-- a delegation, with the role that it is to: its `name` says so, or it has none, as in no document, and this is the empty text
abbrev pub IsTo : List ℕ × Json → Type 0
IsTo r = HasMember r.1 (codes "name") (text r.0) ⊎ ((r.0 ≡ []) × ((t : List ℕ) → HasMember r.1 (codes "name") (text t) → ⊥))

-- delegations in their order, as a list, and by their roles
abbrev pub list_of : Rows → Items
list_of rows = items_of (map (λ r. r.1) rows)

abbrev pub members_by_role : Rows → Members
members_by_role [] = no_members
members_by_role (r ∷ rows) = member r.0 r.1 (members_by_role rows)

abbrev pub by_role : Rows → Json
by_role rows = object (members_by_role rows)

-- the delegations of the member `roles`
pub record AreIn (delegations : Json) (rows : Rows) : Type 0 where
  pub are : IsListAt delegations (codes "roles") (list_of rows)
  pub named : AllByRecursion IsTo rows

-- the delegations that stand before the one to the role: all, where there is none
abbrev pub ahead_of : List ℕ → Rows → Rows
ahead_of role rows = take_while (λ r. not (bytes_eq r.0 role)) rows

-- ---- what changes

-- to each of these roles something was delegated, and nothing is any more; no role stands twice
pub record Undelegates (roles : List (List ℕ)) (old new : Rows) : Type 0 where
  pub were : AllByRecursion (IsThere (by_role old)) roles
  pub distinct : AreDistinct roles
  pub are : new ≡ without roles old

-- what stands before a delegation that is put: what stands before the one to the role that is said, of the others; where none is
-- said, what stood before the role's own
abbrev pub front_of : Option (List ℕ) → Rows → Rows → Rows
front_of None ahead others = ahead
front_of (Some role) ahead others = ahead_of role others

-- the delegation comes in at its place, in the stead of the role's own; the others stay in their order
pub record PutsDelegation (said : Delegated) (old new : Rows) : Type 0 where
  pub front : Rows
  pub back : Rows
  pub others : front ++ back ≡ without (said.role ∷ []) old
  pub place : front ≡ front_of said.before (ahead_of said.role old) (front ++ back)
  pub is : new ≡ front ++ (said.role, delegation_object said) ∷ back

-- each in turn
abbrev pub PutsEach : List Delegated → Rows → Rows → Type 0
PutsEach [] old new = new ≡ old
PutsEach (said ∷ more) old new = (next : Rows) × PutsDelegation said old next × PutsEach more next new

-- the delegations stand in `delegations`, with the keys that they have, and the names of these in `names`
pub record HoldsDelegations (delegated : List Delegated) (rows : Rows) (old before after : Json) : Type 0 where
  pub new : Json
  pub has : HasMember after (codes "delegations") new
  pub roles : HasMember new (codes "roles") (array (list_of rows))
  pub keys : PutsTable (codes "keys") (key_rows delegated) (by_role rows) old new
  pub others : AlikeBut (codes "roles" ∷ codes "keys" ∷ []) old new
  pub names : PutsTable (codes "names") (name_rows delegated) (by_role rows) before after

-- where there are none, neither member is there
abbrev pub HoldsOrLacks : List Delegated → Rows → Json → Json → Json → Type 0
HoldsOrLacks delegated [] old before after = HasNone after (codes "delegations") × HasNone after (codes "names")
HoldsOrLacks delegated (r ∷ rows) old before after = HoldsDelegations delegated (r ∷ rows) old before after

-- what was delegated, without what is undelegated, and with what is put: this stands in the end
pub record ChangesDelegations (changes : Changes) (before after : Json) : Type 0 where
  pub old : Json
  pub first : Rows
  pub between : Rows
  pub last : Rows
  pub was : IsObjectAt before (codes "delegations") old
  pub listed : AreIn old first
  pub undelegates : Undelegates changes.undelegated first between
  pub puts : PutsEach changes.delegated between last
  pub stands : HoldsOrLacks changes.delegated last old before after

-- the names of the members that a draft of delegations changes
abbrev pub delegation_names : List (List ℕ)
delegation_names = codes "delegations" ∷ codes "names" ∷ []

-- the signed part of a draft that makes these changes
pub record DraftsDelegations (held begun : Option File) (terms : Terms) (changes : Changes) (part : Json) : Type 0 where
  pub before : Json
  pub drafts : Drafts kinds.Targets held begun terms delegation_names before part
  pub makes : ChangesDelegations changes before part

-- of the roles to which nothing is to be delegated any more the first to which nothing is, or which stands before already
abbrev pub IsNotDelegated : Option File → Option File → Changes → DraftFault → Type 0
IsNotDelegated held begun changes (Unlisted place) =
    (before old : Json) × (rows : Rows) × IsBase kinds.Targets held begun before × IsObjectAt before (codes "delegations") old × AreIn old rows
    × IsUnlisted changes.undelegated (by_role rows) place
IsNotDelegated held begun changes fault = ⊥
