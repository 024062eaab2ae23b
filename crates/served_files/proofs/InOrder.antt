-- Lists in which no file stands before what it leads to.
use Rattle.std.proofs.Common.{◌≡◌, ℕ, ◌+◌, ◌^◌, ◌<◌, ◌≤◌, ◌⊎◌, inl, inr, true, false, List, [], ◌∷◌, ◌++◌, length, refl, sym, ◌∙◌, ap, subst, arith, get_or, take}
use Rattle.std.specs.Prelude.{Contains, map, Some, None}
use Rattle.std.proofs.lemmas.List.Elements.{Contains-append_left, Contains-append_right, Contains-append_cases, Contains-push}
use Rattle.metadata.specs.File.{Bytes}
use Rattle.metadata.specs.Shape.{IsDocument}
use Rattle.document_parts.specs.Documents.{Body, Document, MetaFile}
use Rattle.document_parts.specs.Documents as plain
use Rattle.document_parts.specs.Views.{body_view, listing_view}
use Rattle.document_parts.specs.declared.documents.Body as bodies
use Rattle.document_parts.specs.declared.documents.Body.TheVariants as variants
use Rattle.document_parts.specs.declared.documents.Snapshot as code_snapshot
use Rattle.document_parts.specs.declared.documents.Targets as code_targets
use Rattle.document_parts.specs.declared.documents.Timestamp as code_timestamp
use Rattle.document_parts.specs.declared.documents.Kind.{Kind}
use Rattle.document_parts.specs.declared.documents.Kind.TheVariants as kinds
use Rattle.document_parts.specs.declared.documents.Listing as code
use Rattle.document_parts.specs.declared.documents.Meta.{Meta}
use Rattle.path_patterns.specs.Names.{dotted}
use Rattle.served_files.specs.Order.{IsInOrder, LeadsTo, StandAfter, of_role, of_root, of_snapshot}
use Rattle.served_files.specs.Served.{AreJust, Files, IsBodyOf, IsHeldFile, IsOfRole, IsOfRoots, IsOfSnapshot, IsServed, ServedFile, lists_role, lists_target, metadata, role_itself, root_name, snapshot_itself, target, timestamp_name}
use Rattle.served_files.specs.steps.Visits.{AreInOrder, IsListedBy, IsListedIn, IsNamedBy, IsOfRolesBy, IsOfRolesIn, TellsRoot, TellsRoots}
use Rattle.served_files.proofs.Files.{in_role, in_snapshot, one_file, role_alone, role_body, role_none, said, snapshot_alone, snapshot_body, snapshot_none, timestamp_alone, timestamp_body, timestamp_none, unsaid}
use Rattle.served_files.proofs.Roots.{roots_end, roots_more, roots_none}
use Rattle.served_files.proofs.RootNames.{one_version}
use Rattle.served_files.proofs.Telling.{just_none, listings_more, none_listed, none_of_roles, rows_more, rows_view}

-- ---- lists

nothing_around : (before later : List ServedFile) (f : ServedFile) → ◌≡◌ {A = List ServedFile} [] (before ++ f ∷ later) → ⊥
nothing_around [] later f e = absurd (cc)
nothing_around (x ∷ before) later f e = absurd (cc)

-- where a file stands that stands in two lists, one after the other
stands_in : (xs ys before later : List ServedFile) (f : ServedFile) → xs ++ ys ≡ before ++ f ∷ later
    → ((rest : List ServedFile) × (xs ≡ before ++ f ∷ rest)) ⊎ ((more : List ServedFile) × (before ≡ xs ++ more) × (ys ≡ more ++ f ∷ later))
stands_in [] ys before later f e = inr (before, refl, e)
stands_in (x ∷ xs) ys [] later f e = let head : x ≡ f = cc in inl (xs, ap (λ (y : ServedFile). y ∷ xs) head)
stands_in (x ∷ xs) ys (y ∷ before) later f e =
    let head : x ≡ y = cc in
    let tail : xs ++ ys ≡ before ++ f ∷ later = cc in
    elim (stands_in xs ys before later f tail) [
      | inl (rest, is) ↦ inl (rest, (let l : x ∷ xs ≡ y ∷ (before ++ f ∷ rest) = cc in l))
      | inr (more, front, back) ↦ inr (more, (let l : y ∷ before ≡ x ∷ (xs ++ more) = cc in l), back)
    ]

pub after_none : (Leads : ServedFile → ServedFile → Type 0) → StandAfter Leads []
after_none Leads = record { so = λ before later f g e leads. absurd (nothing_around before later f e) }

pub after_both : (Leads : ServedFile → ServedFile → Type 0) (xs ys : List ServedFile) → StandAfter Leads xs → StandAfter Leads ys → StandAfter Leads (xs ++ ys)
after_both Leads xs ys first second = record {
  so = λ before later f g e leads.
      elim (stands_in xs ys before later f e) [
        | inl (rest, is) ↦ first.so before rest f g is leads
        | inr (more, front, back) ↦ subst (λ (l : List ServedFile). Contains l g) (sym front) (Contains-append_right xs more g (second.so more later f g back leads))
      ];
}

-- one file alone stands first
alone : (before later : List ServedFile) (x f : ServedFile) → x ∷ [] ≡ before ++ f ∷ later → (before ≡ []) × (x ≡ f) × (later ≡ [])
alone [] later x f e = (refl, (cc), (let l : ◌≡◌ {A = List ServedFile} [] later = cc in sym l))
alone (y ∷ before) later x f e = absurd (nothing_around before later f (let l : ◌≡◌ {A = List ServedFile} [] (before ++ f ∷ later) = cc in l))

pub after_push : (Leads : ServedFile → ServedFile → Type 0) (xs : List ServedFile) (x : ServedFile) → StandAfter Leads xs → ((g : ServedFile) → Leads x g → Contains xs g)
    → StandAfter Leads (xs ++ x ∷ [])
after_push Leads xs x first there = record {
  so = λ before later f g e leads.
      elim (stands_in xs (x ∷ []) before later f e) [
        | inl (rest, is) ↦ first.so before rest f g is leads
        | inr (more, front, back) ↦
            let one = alone more later x f back in
            let all : before ≡ xs ++ [] = front ∙ ap (λ (l : List ServedFile). xs ++ l) one.0 in
            subst (λ (l : List ServedFile). Contains l g) (sym all) (Contains-append_left xs [] g (there g (subst (λ (y : ServedFile). Leads y g) (sym one.1) leads)))
      ];
}

-- ---- what a file leads to

-- a target leads to nothing
target_leads : (files : Files) (last : ℕ) (path digest : Bytes) (g : ServedFile) → LeadsTo files last (target path digest) g → ⊥
target_leads files last path digest g (of_role name (bytes, held, is) role other) = absurd (cc)
target_leads files last path digest g (of_snapshot name (bytes, held, is) snap other) = absurd (cc)
target_leads files last path digest g (of_root version (bytes, held, is) root) = absurd (cc)

kind_of : (k k' : Kind) (n n' b b' : Bytes) → metadata k n b ≡ metadata k' n' b' → (k ≡ k') × (n ≡ n') × (b ≡ b')
kind_of k k' n n' b b' e = ((cc), (cc), (cc))

-- targets metadata lead to what is of them
role_leads : (files : Files) (last : ℕ) (name bytes : Bytes) (g : ServedFile) (Lower : ServedFile → Type 0) → files name ≡ Some bytes
    → (IsOfRole files name g → IsHeldFile files kinds.Targets name g ⊎ Lower g) → LeadsTo files last (metadata kinds.Targets name bytes) g → Lower g
role_leads files last name bytes g Lower held either (of_role name' (bytes', held', is) role other) =
    let same = kind_of kinds.Targets kinds.Targets name name' bytes bytes' is in
    let role' : IsOfRole files name g = subst (λ (n : Bytes). IsOfRole files n g) (sym same.1) role in
    elim (either role') [ inl it ↦ absurd (other (one_file files kinds.Targets name bytes g held it)) | inr lower ↦ lower ]
role_leads files last name bytes g Lower held either (of_snapshot name' (bytes', held', is) snap other) =
    absurd (let k = (kind_of kinds.Targets kinds.Snapshot name name' bytes bytes' is).0 in cc)
role_leads files last name bytes g Lower held either (of_root version (bytes', held', is) root) =
    absurd (let k = (kind_of kinds.Targets kinds.Root name (root_name version) bytes bytes' is).0 in cc)

-- a snapshot leads to what is of it
snapshot_leads : (files : Files) (last : ℕ) (name bytes : Bytes) (g : ServedFile) (Lower : ServedFile → Type 0) → files name ≡ Some bytes
    → (IsOfSnapshot files name g → IsHeldFile files kinds.Snapshot name g ⊎ Lower g) → LeadsTo files last (metadata kinds.Snapshot name bytes) g → Lower g
snapshot_leads files last name bytes g Lower held either (of_snapshot name' (bytes', held', is) snap other) =
    let same = kind_of kinds.Snapshot kinds.Snapshot name name' bytes bytes' is in
    let snap' : IsOfSnapshot files name g = subst (λ (n : Bytes). IsOfSnapshot files n g) (sym same.1) snap in
    elim (either snap') [ inl it ↦ absurd (other (one_file files kinds.Snapshot name bytes g held it)) | inr lower ↦ lower ]
snapshot_leads files last name bytes g Lower held either (of_role name' (bytes', held', is) role other) =
    absurd (let k = (kind_of kinds.Snapshot kinds.Targets name name' bytes bytes' is).0 in cc)
snapshot_leads files last name bytes g Lower held either (of_root version (bytes', held', is) root) =
    absurd (let k = (kind_of kinds.Snapshot kinds.Root name (root_name version) bytes bytes' is).0 in cc)

-- a root leads to the later ones
root_leads : (files : Files) (last version : ℕ) (bytes : Bytes) (g : ServedFile) → version ≤ last → last < 2 ^ 64
    → LeadsTo files last (metadata kinds.Root (root_name version) bytes) g → IsOfRoots files version last g
root_leads files last version bytes g within small (of_role name' (bytes', held', is) role other) =
    absurd (let k = (kind_of kinds.Root kinds.Targets (root_name version) name' bytes bytes' is).0 in cc)
root_leads files last version bytes g within small (of_snapshot name' (bytes', held', is) snap other) =
    absurd (let k = (kind_of kinds.Root kinds.Snapshot (root_name version) name' bytes bytes' is).0 in cc)
root_leads files last version bytes g within small (of_root other (bytes', held', is) root) =
    let names = (kind_of kinds.Root kinds.Root (root_name version) (root_name other) bytes bytes' is).1 in
    let low : other < root.version = root.is_behind in
    let high : root.version ≤ last = root.is_within in
    let same : version ≡ other = one_version version other (omega arith) (omega arith) names in
    subst (λ (v : ℕ). IsOfRoots files v last g) (sym same) root

-- the timestamp leads to nothing more than what stands before it in any case
timestamp_leads : (files : Files) (last : ℕ) (name bytes : Bytes) (g : ServedFile) → LeadsTo files last (metadata kinds.Timestamp name bytes) g → ⊥
timestamp_leads files last name bytes g (of_role name' (bytes', held', is) role other) =
    absurd (let k = (kind_of kinds.Timestamp kinds.Targets name name' bytes bytes' is).0 in cc)
timestamp_leads files last name bytes g (of_snapshot name' (bytes', held', is) snap other) =
    absurd (let k = (kind_of kinds.Timestamp kinds.Snapshot name name' bytes bytes' is).0 in cc)
timestamp_leads files last name bytes g (of_root version (bytes', held', is) root) =
    absurd (let k = (kind_of kinds.Timestamp kinds.Root name (root_name version) bytes bytes' is).0 in cc)

-- ---- the parts of the walk

empty : (files : Files) (Is : ServedFile → Type 0) → ((f : ServedFile) → Is f → ⊥) → AreInOrder files Is []
empty files Is none = record { are_just = just_none Is none; stand_after = λ last. after_none (LeadsTo files last) }

pub listed_none : (files : Files) → AreInOrder files (IsListedIn []) []
listed_none files = record { are_just = none_listed; stand_after = λ last. after_none (LeadsTo files last) }

pub roles_none : (files : Files) → AreInOrder files (IsOfRolesIn files []) []
roles_none files = record { are_just = none_of_roles files; stand_after = λ last. after_none (LeadsTo files last) }

pub listings_next : (files : Files) (items : List code.Listing) (i : ℕ) (x : code.Listing) (xs ys : List ServedFile) → i < length items → x ≡ get_or items i x
    → AreInOrder files (IsListedIn (map listing_view (take i items))) xs → ys ≡ target x.path x.digest.0 ∷ []
    → AreInOrder files (IsListedIn (map listing_view (take (i + 1) items))) (xs ++ ys)
listings_next files items i x xs ys below is order told = record {
  are_just = listings_more items i x xs ys below is order.are_just told;
  stand_after = λ last. subst (λ (l : List ServedFile). StandAfter (LeadsTo files last) (xs ++ l)) (sym told)
      (after_push (LeadsTo files last) xs (target x.path x.digest.0) (order.stand_after last) (λ g leads. absurd (target_leads files last x.path x.digest.0 g leads)));
}

pub rows_next : (files : Files) (items : List (Bytes × Meta)) (i : ℕ) (x : Bytes × Meta) (xs ys : List ServedFile) → i < length items → x ≡ get_or items i x
    → AreInOrder files (IsOfRolesIn files (rows_view (take i items))) xs → AreInOrder files (IsOfRole files (dotted x.1.version x.0)) ys
    → AreInOrder files (IsOfRolesIn files (rows_view (take (i + 1) items))) (xs ++ ys)
rows_next files items i x xs ys below is order of_it = record {
  are_just = rows_more files items i x xs ys below is order.are_just of_it.are_just;
  stand_after = λ last. after_both (LeadsTo files last) xs ys (order.stand_after last) (of_it.stand_after last);
}

pub role_said : (files : Files) (name bytes : Bytes) (body : Body) (xs ys : List ServedFile) → AreInOrder files (IsListedBy body) xs → ys ≡ metadata kinds.Targets name bytes ∷ []
    → files name ≡ Some bytes → IsBodyOf kinds.Targets bytes body → AreInOrder files (IsOfRole files name) (xs ++ ys)
role_said files name bytes body xs ys order told held is = record {
  are_just = role_body files name bytes body xs ys order.are_just told held is;
  stand_after = λ last. subst (λ (l : List ServedFile). StandAfter (LeadsTo files last) (xs ++ l)) (sym told)
      (after_push (LeadsTo files last) xs (metadata kinds.Targets name bytes) (order.stand_after last) (λ g leads.
      order.are_just.complete g (role_leads files last name bytes g (IsListedBy body) held
      (in_role files name (IsListedBy body) g (λ t says lower. subst (λ (b : Body). IsListedBy b g) (said files kinds.Targets name bytes body (plain.targets t) held is says) lower)) leads)));
}

pub role_unsaid : (files : Files) (name bytes : Bytes) (ys : List ServedFile) → ys ≡ metadata kinds.Targets name bytes ∷ [] → files name ≡ Some bytes
    → ((d : Document) → IsDocument kinds.Targets bytes d → ⊥) → AreInOrder files (IsOfRole files name) ys
role_unsaid files name bytes ys told held none = record {
  are_just = role_alone files name bytes ys told held none;
  stand_after = λ last. subst (λ (l : List ServedFile). StandAfter (LeadsTo files last) l) (sym told)
      (after_push (LeadsTo files last) [] (metadata kinds.Targets name bytes) (after_none (LeadsTo files last)) (λ g leads.
      absurd (role_leads files last name bytes g (λ f. ⊥) held
      (in_role files name (λ f. ⊥) g (λ t says lower. unsaid files kinds.Targets name bytes (plain.targets t) held none says)) leads)));
}

pub role_missing : (files : Files) (name : Bytes) → files name ≡ None → AreInOrder files (IsOfRole files name) []
role_missing files name none = record { are_just = role_none files name none; stand_after = λ last. after_none (LeadsTo files last) }

pub snapshot_said : (files : Files) (name bytes : Bytes) (body : Body) (xs ys : List ServedFile) → AreInOrder files (IsOfRolesBy files body) xs → ys ≡ metadata kinds.Snapshot name bytes ∷ []
    → files name ≡ Some bytes → IsBodyOf kinds.Snapshot bytes body → AreInOrder files (IsOfSnapshot files name) (xs ++ ys)
snapshot_said files name bytes body xs ys order told held is = record {
  are_just = snapshot_body files name bytes body xs ys order.are_just told held is;
  stand_after = λ last. subst (λ (l : List ServedFile). StandAfter (LeadsTo files last) (xs ++ l)) (sym told)
      (after_push (LeadsTo files last) xs (metadata kinds.Snapshot name bytes) (order.stand_after last) (λ g leads.
      order.are_just.complete g (snapshot_leads files last name bytes g (IsOfRolesBy files body) held
      (in_snapshot files name (IsOfRolesBy files body) g (λ s says lower. subst (λ (b : Body). IsOfRolesBy files b g) (said files kinds.Snapshot name bytes body (plain.snapshot s) held is says) lower)) leads)));
}

pub snapshot_unsaid : (files : Files) (name bytes : Bytes) (ys : List ServedFile) → ys ≡ metadata kinds.Snapshot name bytes ∷ [] → files name ≡ Some bytes
    → ((d : Document) → IsDocument kinds.Snapshot bytes d → ⊥) → AreInOrder files (IsOfSnapshot files name) ys
snapshot_unsaid files name bytes ys told held none = record {
  are_just = snapshot_alone files name bytes ys told held none;
  stand_after = λ last. subst (λ (l : List ServedFile). StandAfter (LeadsTo files last) l) (sym told)
      (after_push (LeadsTo files last) [] (metadata kinds.Snapshot name bytes) (after_none (LeadsTo files last)) (λ g leads.
      absurd (snapshot_leads files last name bytes g (λ f. ⊥) held
      (in_snapshot files name (λ f. ⊥) g (λ s says lower. unsaid files kinds.Snapshot name bytes (plain.snapshot s) held none says)) leads)));
}

pub snapshot_missing : (files : Files) (name : Bytes) → files name ≡ None → AreInOrder files (IsOfSnapshot files name) []
snapshot_missing files name none = record { are_just = snapshot_none files name none; stand_after = λ last. after_none (LeadsTo files last) }

-- a document that lists no targets, no roles, or names no snapshot
pub lists_nothing : (files : Files) (body : bodies.Body) → ((t : code_targets.Targets) → body ≡ variants.Targets t → ⊥) → AreInOrder files (IsListedBy (body_view body)) []
lists_nothing files (variants.Targets t) other = absurd (other t refl)
lists_nothing files (variants.Root r) other = empty files (IsListedBy (body_view (variants.Root r))) (λ f is. is)
lists_nothing files (variants.Timestamp t) other = empty files (IsListedBy (body_view (variants.Timestamp t))) (λ f is. is)
lists_nothing files (variants.Snapshot s) other = empty files (IsListedBy (body_view (variants.Snapshot s))) (λ f is. is)
lists_nothing files (variants.Layout l) other = empty files (IsListedBy (body_view (variants.Layout l))) (λ f is. is)
lists_nothing files (variants.Link l) other = empty files (IsListedBy (body_view (variants.Link l))) (λ f is. is)

pub has_no_roles : (files : Files) (body : bodies.Body) → ((s : code_snapshot.Snapshot) → body ≡ variants.Snapshot s → ⊥) → AreInOrder files (IsOfRolesBy files (body_view body)) []
has_no_roles files (variants.Snapshot s) other = absurd (other s refl)
has_no_roles files (variants.Root r) other = empty files (IsOfRolesBy files (body_view (variants.Root r))) (λ f is. is)
has_no_roles files (variants.Timestamp t) other = empty files (IsOfRolesBy files (body_view (variants.Timestamp t))) (λ f is. is)
has_no_roles files (variants.Targets t) other = empty files (IsOfRolesBy files (body_view (variants.Targets t))) (λ f is. is)
has_no_roles files (variants.Layout l) other = empty files (IsOfRolesBy files (body_view (variants.Layout l))) (λ f is. is)
has_no_roles files (variants.Link l) other = empty files (IsOfRolesBy files (body_view (variants.Link l))) (λ f is. is)

pub names_nothing : (files : Files) (body : bodies.Body) → ((t : code_timestamp.Timestamp) → body ≡ variants.Timestamp t → ⊥) → AreInOrder files (IsNamedBy files (body_view body)) []
names_nothing files (variants.Timestamp t) other = absurd (other t refl)
names_nothing files (variants.Root r) other = empty files (IsNamedBy files (body_view (variants.Root r))) (λ f is. is)
names_nothing files (variants.Snapshot s) other = empty files (IsNamedBy files (body_view (variants.Snapshot s))) (λ f is. is)
names_nothing files (variants.Targets t) other = empty files (IsNamedBy files (body_view (variants.Targets t))) (λ f is. is)
names_nothing files (variants.Layout l) other = empty files (IsNamedBy files (body_view (variants.Layout l))) (λ f is. is)
names_nothing files (variants.Link l) other = empty files (IsNamedBy files (body_view (variants.Link l))) (λ f is. is)

-- ---- roots

pub roots_told_none : (files : Files) (last : ℕ) → TellsRoots files last last []
roots_told_none files last = roots_none files last (after_none (LeadsTo files last))

pub roots_told : (files : Files) (n before last : ℕ) (xs ys : List ServedFile) → before ≡ n + 1 → before ≤ last → last < 2 ^ 64
    → TellsRoots files before last xs → TellsRoot files before true ys → TellsRoots files n last (xs ++ ys)
roots_told files n before last xs ys next within small told one = roots_more files n before last xs ys next within told one
    (subst (λ (l : List ServedFile). StandAfter (LeadsTo files last) (xs ++ l)) (sym one.2)
    (after_push (LeadsTo files last) xs (metadata kinds.Root (root_name before) one.0) told.stand_after
    (λ g leads. told.are_just.complete g (root_leads files last before one.0 g within small leads))))

pub roots_ended : (files : Files) (after before last : ℕ) (xs ys : List ServedFile) → after < before → before ≤ last
    → TellsRoots files before last xs → TellsRoot files before false ys → AreJust (IsOfRoots files after last) (xs ++ ys) × StandAfter (LeadsTo files last) (xs ++ ys)
roots_ended files after before last xs ys behind within told one = (
  roots_end files after before last xs ys behind within told one,
  subst (λ (l : List ServedFile). StandAfter (LeadsTo files last) (xs ++ l)) (sym one.1)
      (after_both (LeadsTo files last) xs [] told.stand_after (after_none (LeadsTo files last))),
)

-- ---- the timestamp

-- no file of the list is a timestamp
abbrev NoTimestamp : List ServedFile → Type 0
NoTimestamp list = (name bytes : Bytes) → Contains list (metadata kinds.Timestamp name bytes) → ⊥

held_other : (files : Files) (kind : Kind) (name n bytes : Bytes) → (kind ≡ kinds.Timestamp → ⊥) → IsHeldFile files kind name (metadata kinds.Timestamp n bytes) → ⊥
held_other files kind name n bytes other (bytes', held, is) = other (sym (kind_of kinds.Timestamp kind n name bytes bytes' is).0)

role_no : (files : Files) (name n bytes : Bytes) → IsOfRole files name (metadata kinds.Timestamp n bytes) → ⊥
role_no files name n bytes (role_itself it) = held_other files kinds.Targets name n bytes (λ e. cc) it
role_no files name n bytes (lists_target t l says in_it is) = absurd (cc)

snapshot_no : (files : Files) (name n bytes : Bytes) → IsOfSnapshot files name (metadata kinds.Timestamp n bytes) → ⊥
snapshot_no files name n bytes (snapshot_itself it) = held_other files kinds.Snapshot name n bytes (λ e. cc) it
snapshot_no files name n bytes (lists_role s role m says in_it is) = role_no files (dotted m.version role) n bytes is

named_no : (files : Files) (body : Body) (n bytes : Bytes) → IsNamedBy files body (metadata kinds.Timestamp n bytes) → ⊥
named_no files (plain.timestamp t) n bytes is = snapshot_no files _ n bytes is
named_no files (plain.root r) n bytes is = is
named_no files (plain.snapshot s) n bytes is = is
named_no files (plain.targets t) n bytes is = is
named_no files (plain.layout l) n bytes is = is
named_no files (plain.link l) n bytes is = is

roots_no : (files : Files) (after last : ℕ) (n bytes : Bytes) → IsOfRoots files after last (metadata kinds.Timestamp n bytes) → ⊥
roots_no files after last n bytes is = held_other files kinds.Root (root_name is.version) n bytes (λ e. cc) is.is_file

-- a file stands in its list
there : (before later : List ServedFile) (f : ServedFile) → Contains (before ++ f ∷ later) f
there before later f = Contains-append_right before (f ∷ later) f (Contains-append_left (f ∷ []) later f (first f))
  where
    first : (x : ServedFile) → Contains (x ∷ []) x
    first x = Contains-push [] x

-- after files of which none is a timestamp comes the timestamp, and nothing more
last_of : (xs ys : List ServedFile) (name bytes : Bytes) → NoTimestamp xs → ys ≡ metadata kinds.Timestamp name bytes ∷ []
    → (before later : List ServedFile) (n b : Bytes) → xs ++ ys ≡ before ++ metadata kinds.Timestamp n b ∷ later → later ≡ []
last_of xs ys name bytes none told before later n b e =
    elim (stands_in xs ys before later (metadata kinds.Timestamp n b) e) [
      | inl (rest, is) ↦ absurd (none n b (subst (λ (l : List ServedFile). Contains l (metadata kinds.Timestamp n b)) (sym is) (there before rest (metadata kinds.Timestamp n b))))
      | inr (more, front, back) ↦ (alone more later (metadata kinds.Timestamp name bytes) (metadata kinds.Timestamp n b) (sym told ∙ back)).2
    ]

in_order : (files : Files) (last : ℕ) (xs ys : List ServedFile) (name bytes : Bytes) → StandAfter (LeadsTo files last) xs → NoTimestamp xs
    → ys ≡ metadata kinds.Timestamp name bytes ∷ [] → IsInOrder files last (xs ++ ys)
in_order files last xs ys name bytes after none told = record {
  stand_after = subst (λ (l : List ServedFile). StandAfter (LeadsTo files last) (xs ++ l)) (sym told)
      (after_push (LeadsTo files last) xs (metadata kinds.Timestamp name bytes) after (λ g leads. absurd (timestamp_leads files last name bytes g leads)));
  timestamp_is_last = λ before later n b e. last_of xs ys name bytes none told before later n b e;
}

pub timestamp_said : (files : Files) (after last : ℕ) (bytes : Bytes) (body : Body) (xs rs ys : List ServedFile) → AreInOrder files (IsNamedBy files body) xs
    → AreJust (IsOfRoots files after last) rs × StandAfter (LeadsTo files last) rs
    → ys ≡ metadata kinds.Timestamp timestamp_name bytes ∷ [] → files timestamp_name ≡ Some bytes → IsBodyOf kinds.Timestamp bytes body
    → AreJust (IsServed files after last) ((xs ++ rs) ++ ys) × IsInOrder files last ((xs ++ rs) ++ ys)
timestamp_said files after last bytes body xs rs ys named roots told held is = (
  timestamp_body files after last bytes body xs rs ys named.are_just roots.0 told held is,
  in_order files last (xs ++ rs) ys timestamp_name bytes (after_both (LeadsTo files last) xs rs (named.stand_after last) roots.1)
      (λ n b in_it. elim (Contains-append_cases xs rs (metadata kinds.Timestamp n b) in_it) [
        | inl a ↦ named_no files body n b (named.are_just.sound (metadata kinds.Timestamp n b) a)
        | inr a ↦ roots_no files after last n b (roots.0.sound (metadata kinds.Timestamp n b) a)
      ]) told,
)

pub timestamp_unsaid : (files : Files) (after last : ℕ) (bytes : Bytes) (rs ys : List ServedFile) → AreJust (IsOfRoots files after last) rs × StandAfter (LeadsTo files last) rs
    → ys ≡ metadata kinds.Timestamp timestamp_name bytes ∷ [] → files timestamp_name ≡ Some bytes → ((d : Document) → IsDocument kinds.Timestamp bytes d → ⊥)
    → AreJust (IsServed files after last) (rs ++ ys) × IsInOrder files last (rs ++ ys)
timestamp_unsaid files after last bytes rs ys roots told held none = (
  timestamp_alone files after last bytes rs ys roots.0 told held none,
  in_order files last rs ys timestamp_name bytes roots.1 (λ n b in_it. roots_no files after last n b (roots.0.sound (metadata kinds.Timestamp n b) in_it)) told,
)

pub timestamp_missing : (files : Files) (after last : ℕ) (rs : List ServedFile) → AreJust (IsOfRoots files after last) rs × StandAfter (LeadsTo files last) rs → files timestamp_name ≡ None
    → AreJust (IsServed files after last) rs × IsInOrder files last rs
timestamp_missing files after last rs roots none = (
  timestamp_none files after last rs roots.0 none,
  record {
    stand_after = roots.1;
    timestamp_is_last = λ before later n b e. absurd (roots_no files after last n b (roots.0.sound (metadata kinds.Timestamp n b)
        (subst (λ (l : List ServedFile). Contains l (metadata kinds.Timestamp n b)) (sym e) (there before later (metadata kinds.Timestamp n b)))));
  },
)
