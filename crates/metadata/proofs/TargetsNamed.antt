-- The key tables of targets metadata, and the rules over them.
use Rattle.std.proofs.Common.{List, [], ◌∷◌, ◌++◌, Option, Some, None, IfSome, codes, option_map, inl, inr}
use Rattle.std.specs.Prelude.{flat_map}
use Rattle.std.specs.List.{AllByRecursion}
use Rattle.canonical_json.specs.Json.{Json, Items, no_items, item, Members, no_members, member}
use Rattle.keys_roles.specs.Plain.{Table}
use Rattle.document_parts.specs.Bodies.{HasLayoutReference, IsListing, IsDelegation, HasDelegations, IsTargets}
use Rattle.document_parts.specs.Documents.{LayoutReference, Listing, Delegation, Delegations, Targets}
use Rattle.document_parts.specs.Members.{ItemsAre, MembersAre, IsObject, MayHave}
use Rattle.document_parts.specs.Parts.{NamesAreIds, IsRuleOver}
use Rattle.metadata.specs.Shape.{delegation_tables, reference_tables}
use Rattle.metadata.specs.declared.delegations.SpelledDelegations.{SpelledDelegations}
use Rattle.document_parts.specs.declared.documents.ShapeFault.{ShapeFault}
use Rattle.metadata.specs.steps.Entries.{AreNamed, HasIds, IsOwned}
use Rattle.document_parts.specs.steps.Faults.{IsMisnamed, IsFaulty}
use Rattle.metadata.specs.steps.Spelled.{spelled_delegations, AreAllOver}

-- what holds of each of two lists holds of one after the other, and the other way round
both : {A : Type 0} (P : A → Type 0) (xs ys : List A) → AllByRecursion P xs → AllByRecursion P ys → AllByRecursion P (xs ++ ys)
both P [] ys h k = k
both P (x ∷ xs) ys h k = (h.0, both P xs ys h.1 k)

pub first : {A : Type 0} (P : A → Type 0) (xs ys : List A) → AllByRecursion P (xs ++ ys) → AllByRecursion P xs
first P [] ys h = tt
first P (x ∷ xs) ys h = (h.0, first P xs ys h.1)

pub second : {A : Type 0} (P : A → Type 0) (xs ys : List A) → AllByRecursion P (xs ++ ys) → AllByRecursion P ys
second P [] ys h = h
second P (x ∷ xs) ys h = second P xs ys h.1

-- the tables of listings, one listing after the other
own_ids : (o : Option LayoutReference) → HasIds o → AllByRecursion NamesAreIds (reference_tables o)
own_ids None h = tt
own_ids (Some l) h = (h, tt)

ids_own : (o : Option LayoutReference) → AllByRecursion NamesAreIds (reference_tables o) → HasIds o
ids_own None h = tt
ids_own (Some l) h = h.0

listed_ids : (ls : List Listing) → AllByRecursion (λ l. HasIds l.layout) ls → AllByRecursion NamesAreIds (flat_map (λ l. reference_tables l.layout) ls)
listed_ids [] h = tt
listed_ids (l ∷ ls) h = both NamesAreIds (reference_tables l.layout) (flat_map (λ l. reference_tables l.layout) ls) (own_ids l.layout h.0) (listed_ids ls h.1)

pub ids_listed : (ls : List Listing) → AllByRecursion NamesAreIds (flat_map (λ l. reference_tables l.layout) ls) → AllByRecursion (λ l. HasIds l.layout) ls
ids_listed [] h = tt
ids_listed (l ∷ ls) h = (
  ids_own l.layout (first NamesAreIds (reference_tables l.layout) (flat_map (λ l. reference_tables l.layout) ls) h),
  ids_listed ls (second NamesAreIds (reference_tables l.layout) (flat_map (λ l. reference_tables l.layout) ls) h),
)

pub all_named : (o : Option Delegations) (ls : List Listing) → AllByRecursion NamesAreIds (delegation_tables o) → AllByRecursion (λ l. HasIds l.layout) ls
    → AllByRecursion NamesAreIds (delegation_tables o ++ flat_map (λ l. reference_tables l.layout) ls)
all_named o ls h k = both NamesAreIds (delegation_tables o) (flat_map (λ l. reference_tables l.layout) ls) h (listed_ids ls k)

-- targets metadata whose delegations' table has a name that is no id
pub misnamed_targets : (v : Json) (t : Targets) (e : ShapeFault) → IsTargets v t → IsMisnamed (AllByRecursion NamesAreIds (delegation_tables t.delegations)) e
    → IsFaulty (IsTargets v) AreNamed e
misnamed_targets v t e is (inl h) = inl (inl h)
misnamed_targets v t e is (inr h) =
    inr (h.0, (t, is, λ all. h.1 (first NamesAreIds (delegation_tables t.delegations) (flat_map (λ l. reference_tables l.layout) t.targets) all)))

-- targets metadata with a listing whose table has a name that is no id
pub misnamed_listings : (v : Json) (t : Targets) (e : ShapeFault) → IsTargets v t → IsMisnamed (AllByRecursion (λ l. HasIds l.layout) t.targets) e
    → IsFaulty (IsTargets v) AreNamed e
misnamed_listings v t e is (inl h) = inl (inl h)
misnamed_listings v t e is (inr h) =
    inr (h.0, (t, is, λ all. h.1 (ids_listed t.targets (second NamesAreIds (delegation_tables t.delegations) (flat_map (λ l. reference_tables l.layout) t.targets) all))))

-- the owners' rule of what a target refers to is one over the table beside it
owned : (v : Json) (o : Option LayoutReference) → HasLayoutReference v o → IsOwned o
owned v None h = tt
owned v (Some l) h = h.2.2.2.owners.2

each_owned : (ms : Members) (ls : List Listing) → MembersAre IsListing ms ls → AllByRecursion (λ l. IsOwned l.layout) ls
each_owned no_members [] h = tt
each_owned no_members (l ∷ ls) h = absurd h
each_owned (member n v ms) [] h = absurd h
each_owned (member n v ms) (l ∷ ls) h = (owned v l.layout h.0.4, each_owned ms ls h.1)

pub all_owned : (v : Json) (ls : List Listing) → IsObject IsListing v ls → AllByRecursion (λ l. IsOwned l.layout) ls
all_owned v ls h = each_owned h.0 ls h.2

-- each rule of delegations is one over their table
each_over : (keys : Table) (vs : Items) (ds : List Delegation) → ItemsAre (IsDelegation keys) vs ds → AllByRecursion (λ d. IsRuleOver keys d.rule) ds
each_over keys no_items [] h = tt
each_over keys no_items (d ∷ ds) h = absurd h
each_over keys (item v vs) [] h = absurd h
each_over keys (item v vs) (d ∷ ds) h = (h.0.1.2, each_over keys vs ds h.1)

pub all_over : (v : Json) (o : Option SpelledDelegations) → MayHave v (codes "delegations") HasDelegations (option_map spelled_delegations o) → IfSome o AreAllOver
all_over v None h = tt
all_over v (Some d) h =
    let list = h.2.1.2.0 in
    let s = spelled_delegations d in
    each_over s.keys list.0 s.roles list.2
