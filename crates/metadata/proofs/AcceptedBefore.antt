-- What was a document before signatures of several levels is one still: under names that are ids, distinct ids of LMS keys name
-- keys with distinct top keys.
use Rattle.std.proofs.Common.{◌≡◌, ◌≢◌, ℕ, ◌≤◌, List, [], ◌∷◌, length, codes, Bool, true, false, cond, bytes_eq, Option, Some, None, option_map, refl, sym, ap, subst, ◌∙◌, arith}
use Rattle.std.proofs.lemmas.Slice.Eq.{bytes_eq-Decides}
use Rattle.std.specs.Prelude.{flat_map}
use Rattle.std.specs.List.{AllByRecursion, cons_option}
use Rattle.canonical_json.specs.Json.{Json, Items, no_items, item, Members, no_members, member}
use Rattle.keys_roles.specs.Plain.{Key, lms, Table, RoleRule, Signature, look_up}
use Rattle.keys_roles.specs.Keys.{id_of, top_key}
use Rattle.keys_roles.specs.Rules.{AreDistinct}
use Rattle.metadata.specs.BeforeLevels.{WasKey, WasRow, WasTable, WasRuleOver, HadRule, HadRole, WereRoles, WasRoot, WasLayoutReference, HadLayoutReference, WasListing, WasDelegation, HadDelegations, WasTargets, WasStep, WasLayout, WasEntry, WasEnvelope, WasBody, WasDocument}
use Rattle.document_parts.specs.Bodies.{AreRoles, Roles, roles_of, IsRoot, IsLayoutReference, HasLayoutReference, IsListing, IsDelegation, HasDelegations, IsTargets, IsStep, IsLayout, HasRole}
use Rattle.document_parts.specs.Documents.{Root, LayoutReference, Listing, Delegation, Delegations, Targets, Step, Layout, Body, root, timestamp, snapshot, targets, layout, link, Document}
use Rattle.document_parts.specs.Members.{MayHave, ItemsAre, MembersAre}
use Rattle.document_parts.specs.Parts.{IsKey, IsRow, IsTable, NamesAreIds, IsRuleOver, HasRule, IsEntry, IsEnvelope, top_at, tops_of}
use Rattle.metadata.specs.Shape.{delegation_tables, reference_tables, tables, IsBody, IsDocument}
use Rattle.document_parts.specs.declared.documents.Kind.{Kind}
use Rattle.document_parts.specs.declared.documents.Kind.TheVariants as kinds
use Rattle.metadata.specs.steps.Entries.{HasIds}
use Rattle.metadata.proofs.TargetsNamed.{first, second, ids_listed}

-- ---- what stands for values in one way stands for them in another

items_still : {A : Type 0} (R S : Json → A → Type 0) → ((v : Json) (a : A) → R v a → S v a) → (vs : Items) (xs : List A) → ItemsAre R vs xs → ItemsAre S vs xs
items_still R S f no_items [] h = tt
items_still R S f no_items (a ∷ xs) h = absurd h
items_still R S f (item v vs) [] h = absurd h
items_still R S f (item v vs) (a ∷ xs) h = (f v a h.0, items_still R S f vs xs h.1)

members_still : {A : Type 0} (R S : List ℕ → Json → A → Type 0) → ((n : List ℕ) (v : Json) (a : A) → R n v a → S n v a)
    → (ms : Members) (xs : List A) → MembersAre R ms xs → MembersAre S ms xs
members_still R S f no_members [] h = tt
members_still R S f no_members (a ∷ xs) h = absurd h
members_still R S f (member n v ms) [] h = absurd h
members_still R S f (member n v ms) (a ∷ xs) h = (f n v a h.0, members_still R S f ms xs h.1)

-- ---- keys and rules

key_still : (v : Json) (k : Key) → WasKey v k → IsKey v k
key_still v k h = subst (λ z. IsKey v z) (sym h.1) (h.2, h.3)

row_still : (n : List ℕ) (v : Json) (e : List ℕ × Key) → WasRow n v e → IsRow n v e
row_still n v e h = (h.0, key_still v e.1 h.1)

table_still : (v : Json) (table : Table) → WasTable v table → IsTable v table
table_still v table h = ((h.0.0, h.0.1, members_still WasRow IsRow row_still h.0.0 table h.0.2), h.1)

-- an LMS key
abbrev IsLms : Key → Type 0
IsLms k = (p : List ℕ) × (k ≡ lms p)

each_lms : (ms : Members) (table : Table) → MembersAre WasRow ms table → AllByRecursion (λ e. IsLms e.1) table
each_lms no_members [] h = tt
each_lms no_members (e ∷ es) h = absurd h
each_lms (member n v ms) [] h = absurd h
each_lms (member n v ms) (e ∷ es) h = ((h.0.1.0, h.0.1.1), each_lms ms es h.1)

-- what an id names is an LMS key of this id
by_head : (b : Bool) (id name : List ℕ) (k key : Key) (rest : Option Key) → bytes_eq name id ≡ b → name ≡ id_of k → IsLms k
    → (rest ≡ Some key → (id ≡ id_of key) × IsLms key) → cond b (Some k) rest ≡ Some key → (id ≡ id_of key) × IsLms key
by_head true id name k key rest same is lms_key later e =
    let one : k ≡ key = cc in
    subst (λ z. (id ≡ id_of z) × IsLms z) one (sym ((bytes_eq-Decides name id).0 same) ∙ is, lms_key)
by_head false id name k key rest same is lms_key later e = later e

named : (table : Table) (id : List ℕ) (key : Key) → NamesAreIds table → AllByRecursion (λ e. IsLms e.1) table → look_up table id ≡ Some key
    → (id ≡ id_of key) × IsLms key
named [] id key ids all e = absurd cc
named (row ∷ rows) id key ids all e =
    by_head (bytes_eq row.0 id) id row.0 row.1 key (look_up rows id) refl ids.0 all.0 (named rows id key ids.1 all.1) e

top_of_one : (o : Option Key) (top : List ℕ) → option_map top_key o ≡ Some top → (k : Key) × (o ≡ Some k) × (top_key k ≡ top)
top_of_one None top e = absurd cc
top_of_one (Some k) top e = (k, refl, cc)

-- what an id's key is counted by makes the id
module _ (table : Table) (ids : NamesAreIds table) (all : AllByRecursion (λ e. IsLms e.1) table) where
  id_by_top : (id top : List ℕ) → top_at table id ≡ Some top → id ≡ id_of (lms top)
  id_by_top id top e =
      let k = top_of_one (look_up table id) top e in
      let n = named table id k.0 ids all k.1 in
      let key : k.0 ≡ lms top = n.1.1 ∙ ap lms (sym (ap top_key n.1.1) ∙ k.2) in
      n.0 ∙ ap id_of key

  next_apart : (top id y : List ℕ) (ys : List (List ℕ)) (o : Option (List ℕ)) → top_at table id ≡ Some top → top_at table y ≡ o → id ≢ y
      → AllByRecursion (λ z. top ≢ z) (tops_of table ys) → AllByRecursion (λ z. top ≢ z) (cons_option o (tops_of table ys))
  next_apart top id y ys None e is other rest = rest
  next_apart top id y ys (Some t) e is other rest = (
    λ same. other (id_by_top id top e ∙ ap (λ (z : List ℕ). id_of (lms z)) same ∙ sym (id_by_top y t is)),
    rest,
  )

  apart : (top id : List ℕ) (others : List (List ℕ)) → top_at table id ≡ Some top → AllByRecursion (λ y. id ≢ y) others
      → AllByRecursion (λ y. top ≢ y) (tops_of table others)
  apart top id [] e h = tt
  apart top id (y ∷ ys) e h = next_apart top id y ys (top_at table y) e refl h.0 (apart top id ys e h.1)

  next_distinct : (id : List ℕ) (rest : List (List ℕ)) (o : Option (List ℕ)) → top_at table id ≡ o → AllByRecursion (λ y. id ≢ y) rest
      → AreDistinct (tops_of table rest) → AreDistinct (cons_option o (tops_of table rest))
  next_distinct id rest None is other later = later
  next_distinct id rest (Some top) is other later = (apart top id rest is other, later)

  tops_apart : (others : List (List ℕ)) → AreDistinct others → AreDistinct (tops_of table others)
  tops_apart [] h = tt
  tops_apart (id ∷ rest) h = next_distinct id rest (top_at table id) refl h.0 (tops_apart rest h.1)

  over_still : (rule : RoleRule) → WasRuleOver table rule → IsRuleOver table rule
  over_still rule h = record {
    some = h.some;
    most = h.most;
    distinct = h.distinct;
    known = h.known;
    threshold = h.threshold;
    tops = tops_apart rule.keyids h.distinct;
  }

  rule_still : (name : List ℕ) (v : Json) (rule : RoleRule) → HadRule name v table rule → HasRule name v table rule
  rule_still name v rule h = (h.0, h.1, over_still rule h.2)

  role_still : (role : List ℕ) (v : Json) (rule : RoleRule) → HadRole v role table rule → HasRole v role table rule
  role_still role v rule h = (h.0, h.1, rule_still (codes "keyids") h.0 rule h.2)

  roles_still : (v : Json) (r : Roles) → WereRoles v table r → AreRoles v table r
  roles_still v r h = record {
    just = h.just;
    root = role_still (codes "root") v r.root h.root;
    snapshot = role_still (codes "snapshot") v r.snapshot h.snapshot;
    targets = role_still (codes "targets") v r.targets h.targets;
    timestamp = role_still (codes "timestamp") v r.timestamp h.timestamp;
  }

  delegation_still : (v : Json) (d : Delegation) → WasDelegation table v d → IsDelegation table v d
  delegation_still v d h = (h.0, rule_still (codes "keyids") v d.rule h.1, h.2, h.3)

  step_still : (v : Json) (s : Step) → WasStep table v s → IsStep table v s
  step_still v s h = (h.0, rule_still (codes "pubkeys") v s.rule h.1, h.2, h.3)

-- ---- bodies

root_still : (v : Json) (r : Root) → NamesAreIds r.keys → WasRoot v r → IsRoot v r
root_still v r ids h =
    let all = each_lms h.keys.2.0.0 r.keys h.keys.2.0.2 in
    record {
      head = h.head;
      consistent = h.consistent;
      keys = (h.keys.0, h.keys.1, table_still h.keys.0 r.keys h.keys.2);
      roles = (h.roles.0, h.roles.1, roles_still r.keys ids all h.roles.0 (roles_of r) h.roles.2);
      required = h.required;
    }

reference_still : (v : Json) (l : LayoutReference) → NamesAreIds l.keys → WasLayoutReference v l → IsLayoutReference v l
reference_still v l ids h =
    let all = each_lms h.keys.2.0.0 l.keys h.keys.2.0.2 in
    record {
      just = h.just;
      keys = (h.keys.0, h.keys.1, table_still h.keys.0 l.keys h.keys.2);
      owners = rule_still l.keys ids all (codes "keyids") v l.owners h.owners;
      links = h.links;
      path = h.path;
      product = h.product;
      step = h.step;
      distinct = h.distinct;
    }

referred_still : (v : Json) (o : Option LayoutReference) → HasIds o → HadLayoutReference v o → HasLayoutReference v o
referred_still v None ids h = h
referred_still v (Some l) ids h =
    let custom = h.2 in
    let found = custom.2 in
    (h.0, h.1, (custom.0, custom.1, (found.0, found.1, reference_still found.0 l ids found.2)))

listings_still : (ms : Members) (ls : List Listing) → AllByRecursion (λ l. HasIds l.layout) ls → MembersAre WasListing ms ls → MembersAre IsListing ms ls
listings_still no_members [] ids h = tt
listings_still no_members (l ∷ ls) ids h = absurd h
listings_still (member n v ms) [] ids h = absurd h
listings_still (member n v ms) (l ∷ ls) ids h =
    ((h.0.0, h.0.1, h.0.2, h.0.3, referred_still v l.layout ids.0 h.0.4), listings_still ms ls ids.1 h.1)

delegations_still : (v : Json) (d : Delegations) → NamesAreIds d.keys → HadDelegations v d → HasDelegations v d
delegations_still v d ids h =
    let keys = h.0 in
    let roles = h.1 in
    let all = each_lms keys.2.0.0 d.keys keys.2.0.2 in
    let list = roles.2.0 in (
      (keys.0, keys.1, table_still keys.0 d.keys keys.2),
      (roles.0, roles.1, ((list.0, list.1, items_still (WasDelegation d.keys) (IsDelegation d.keys) (delegation_still d.keys ids all) list.0 d.roles list.2), roles.2.1, roles.2.2)),
    )

may_delegate_still : (v : Json) (o : Option Delegations) → AllByRecursion NamesAreIds (delegation_tables o) → MayHave v (codes "delegations") HadDelegations o
    → MayHave v (codes "delegations") HasDelegations o
may_delegate_still v None ids h = h
may_delegate_still v (Some d) ids h = (h.0, h.1, delegations_still h.0 d ids.0 h.2)

targets_still : (v : Json) (t : Targets) → AllByRecursion NamesAreIds (tables (targets t)) → WasTargets v t → IsTargets v t
targets_still v t ids h =
    let own = delegation_tables t.delegations in
    let listed = flat_map (λ l. reference_tables l.layout) t.targets in
    let object = h.targets.2 in
    record {
      head = h.head;
      targets = (h.targets.0, h.targets.1, (object.0, object.1, listings_still object.0 t.targets (ids_listed t.targets (second NamesAreIds own listed ids)) object.2));
      delegations = may_delegate_still v t.delegations (first NamesAreIds own listed ids) h.delegations;
    }

layout_still : (v : Json) (l : Layout) → NamesAreIds l.keys → WasLayout v l → IsLayout v l
layout_still v l ids h =
    let all = each_lms h.keys.2.0.0 l.keys h.keys.2.0.2 in
    let list = h.steps.2.0 in
    record {
      expires = h.expires;
      inspect = h.inspect;
      keys = (h.keys.0, h.keys.1, table_still h.keys.0 l.keys h.keys.2);
      steps = (h.steps.0, h.steps.1, ((list.0, list.1, items_still (WasStep l.keys) (IsStep l.keys) (step_still l.keys ids all) list.0 l.steps list.2), h.steps.2.1, h.steps.2.2, h.steps.2.3));
    }

body_still : (kind : Kind) (es : List Signature) (v : Json) (b : Body) → AllByRecursion NamesAreIds (tables b) → WasBody kind es v b → IsBody kind es v b
body_still kinds.Timestamp es v b ids h = h
body_still kinds.Snapshot es v b ids h = h
body_still kinds.Link es v b ids h = h
body_still kinds.Root es v (root r) ids h = root_still v r ids.0 h
body_still kinds.Root es v (timestamp t) ids h = absurd h
body_still kinds.Root es v (snapshot s) ids h = absurd h
body_still kinds.Root es v (targets t) ids h = absurd h
body_still kinds.Root es v (layout l) ids h = absurd h
body_still kinds.Root es v (link l) ids h = absurd h
body_still kinds.Targets es v (root r) ids h = absurd h
body_still kinds.Targets es v (timestamp t) ids h = absurd h
body_still kinds.Targets es v (snapshot s) ids h = absurd h
body_still kinds.Targets es v (targets t) ids h = targets_still v t ids h
body_still kinds.Targets es v (layout l) ids h = absurd h
body_still kinds.Targets es v (link l) ids h = absurd h
body_still kinds.Layout es v (root r) ids h = absurd h
body_still kinds.Layout es v (timestamp t) ids h = absurd h
body_still kinds.Layout es v (snapshot s) ids h = absurd h
body_still kinds.Layout es v (targets t) ids h = absurd h
body_still kinds.Layout es v (layout l) ids h = layout_still v l ids.0 h
body_still kinds.Layout es v (link l) ids h = absurd h

-- ---- files

longer : (n : ℕ) → n ≤ 18648 → n ≤ 149976
longer n h = omega (arith, h)

entry_still : (v : Json) (e : Signature) → WasEntry v e → IsEntry v e
entry_still v e h = (h.0, h.1, (longer (length e.sig) h.2.0, h.2.1, h.2.2))

envelope_still : (v : Json) (es : List Signature) (signed : Json) (type_name : List ℕ) → WasEnvelope v es signed type_name → IsEnvelope v es signed type_name
envelope_still v es signed type_name h =
    let list = h.signatures.0 in
    record {
      list = h.list;
      members = h.members;
      signatures = ((list.0, list.1, items_still WasEntry IsEntry entry_still list.0 es list.2), h.signatures.1, h.signatures.2);
      typed = h.typed;
    }

pub document_still : (kind : Kind) (bytes : List ℕ) (d : Document) → WasDocument kind bytes d → IsDocument kind bytes d
document_still kind bytes d h = record {
  read = record {
    part = h.part;
    file = record { value = h.file.value; file = h.file.file; envelope = envelope_still h.file.value d.entries h.part _ h.file.envelope };
    signed = h.signed;
    body = body_still kind d.entries h.part d.body h.ids h.body;
  };
  ids = h.ids;
}
