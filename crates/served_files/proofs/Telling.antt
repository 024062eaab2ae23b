-- Lists of just the files that a part of the walk tells.
use Rattle.std.proofs.Common.{◌≡◌, ℕ, ◌+◌, ◌<◌, ◌⊎◌, inl, inr, List, [], ◌∷◌, ◌++◌, length, refl, sym, ◌∙◌, ap, subst, arith, append_assoc, get_or, take}
use Rattle.std.specs.Prelude.{Contains, map, Option, Result, Ok, Err, OnOk}
use Rattle.std.proofs.lemmas.List.{append-nil, map-append, take_more}
use Rattle.std.proofs.lemmas.List.Elements.{Contains-append_left, Contains-append_right, Contains-append_cases, Contains-push, Contains-push_cases}
use Rattle.metadata.specs.File.{Bytes}
use Rattle.document_parts.specs.Documents.{Listing, MetaFile}
use Rattle.document_parts.specs.Views.{listing_view, meta_view}
use Rattle.document_parts.specs.declared.documents.Listing as code
use Rattle.document_parts.specs.declared.documents.Meta.{Meta}
use Rattle.path_patterns.specs.Names.{dotted}
use Rattle.served_files.specs.Served.{AreJust, Files, IsOfRole, ServedFile, target}
use Rattle.served_files.specs.steps.Visits.{Became, IsListedIn, IsOfRolesIn}

none_in : (f : ServedFile) → Contains [] f → ⊥
none_in f (k, below, is) = absurd (omega arith)

pub just_none : (Is : ServedFile → Type 0) → ((f : ServedFile) → Is f → ⊥) → AreJust Is []
just_none Is none = record { sound = λ f in_it. absurd (none_in f in_it); complete = λ f is. absurd (none f is) }

pub just_one : (Is : ServedFile → Type 0) (x : ServedFile) → Is x → ((f : ServedFile) → Is f → f ≡ x) → AreJust Is (x ∷ [])
just_one Is x is one = record {
  sound = λ f in_it. elim (Contains-push_cases [] x f in_it) [ inl none ↦ absurd (none_in f none) | inr same ↦ subst Is same is ];
  complete = λ f is'. subst (λ y. Contains (x ∷ []) y) (sym (one f is')) (Contains-push [] x);
}

pub just_both : (A B C : ServedFile → Type 0) (xs ys : List ServedFile) → AreJust A xs → AreJust B ys
    → ((f : ServedFile) → A f → C f) → ((f : ServedFile) → B f → C f) → ((f : ServedFile) → C f → A f ⊎ B f) → AreJust C (xs ++ ys)
just_both A B C xs ys a b first second either = record {
  sound = λ f in_it. elim (Contains-append_cases xs ys f in_it) [ inl in_xs ↦ first f (a.sound f in_xs) | inr in_ys ↦ second f (b.sound f in_ys) ];
  complete = λ f is. elim (either f is) [ inl of_a ↦ Contains-append_left xs ys f (a.complete f of_a) | inr of_b ↦ Contains-append_right xs ys f (b.complete f of_b) ];
}

pub just_as : (A B : ServedFile → Type 0) (xs : List ServedFile) → AreJust A xs → ((f : ServedFile) → A f → B f) → ((f : ServedFile) → B f → A f) → AreJust B xs
just_as A B xs a to from = record { sound = λ f in_it. to f (a.sound f in_it); complete = λ f is. a.complete f (from f is) }

-- nothing was told
pub became_none : {V : Type 0} (S : Files → List ServedFile → V → Type 0) (v : V) (P : Files → List ServedFile → Type 0)
    → ((files : Files) → P files []) → Became S v v P
became_none S v P none = record { so = λ files told at. ([], subst (λ l. S files l v) (sym (append-nil told)) at, none files) }

-- one thing was told, and then another
pub became_both : {V : Type 0} (S : Files → List ServedFile → V → Type 0) (a b c : V) (P Q R : Files → List ServedFile → Type 0)
    → Became S a b P → Became S b c Q → ((files : Files) (xs ys : List ServedFile) → P files xs → Q files ys → R files (xs ++ ys)) → Became S a c R
became_both S a b c P Q R p q both = record {
  so = λ files told at.
      let one = p.so files told at in
      let two = q.so files (told ++ one.0) one.1 in
      (one.0 ++ two.0, subst (λ l. S files l c) (append_assoc told one.0 two.0) two.1, both files one.0 two.0 one.2 two.2);
}

-- the same was told, of which something else is so
pub became_as : {V : Type 0} (S : Files → List ServedFile → V → Type 0) (a b : V) (P Q : Files → List ServedFile → Type 0)
    → Became S a b P → ((files : Files) (xs : List ServedFile) → P files xs → Q files xs) → Became S a b Q
became_as S a b P Q p means = record { so = λ files told at. let one = p.so files told at in (one.0, one.1, means files one.0 one.2) }

-- one file was told
pub became_one : {V : Type 0} (S : Files → List ServedFile → V → Type 0) (a b : V) (x : ServedFile)
    → ((files : Files) (told : List ServedFile) → S files told a → S files (told ++ x ∷ []) b) → Became S a b (λ _ more. more ≡ x ∷ [])
became_one S a b x step = record { so = λ files told at. (x ∷ [], step files told at, refl) }

-- a target after others
pub listed_push : (ls : List Listing) (l : Listing) (xs : List ServedFile) → AreJust (IsListedIn ls) xs
    → AreJust (IsListedIn (ls ++ l ∷ [])) (xs ++ target l.path l.digest ∷ [])
listed_push ls l xs just = just_both (IsListedIn ls) (λ f. f ≡ target l.path l.digest) (IsListedIn (ls ++ l ∷ [])) xs (target l.path l.digest ∷ []) just
    (just_one (λ f. f ≡ target l.path l.digest) (target l.path l.digest) refl (λ f is. is))
    (λ f is. (is.0, Contains-append_left ls (l ∷ []) is.0 is.1, is.2))
    (λ f is. (l, Contains-push ls l, is))
    (λ f is. elim (Contains-push_cases ls l is.0 is.1) [ inl before ↦ inl (is.0, before, is.2) | inr same ↦ inr (subst (λ y. f ≡ target y.path y.digest) (sym same) is.2) ])

-- a role after others
pub roles_push : (files : Files) (rows : List (Bytes × MetaFile)) (role : Bytes) (m : MetaFile) (xs ys : List ServedFile) → AreJust (IsOfRolesIn files rows) xs
    → AreJust (IsOfRole files (dotted m.version role)) ys → AreJust (IsOfRolesIn files (rows ++ (role, m) ∷ [])) (xs ++ ys)
roles_push files rows role m xs ys just of_role = just_both (IsOfRolesIn files rows) (IsOfRole files (dotted m.version role)) (IsOfRolesIn files (rows ++ (role, m) ∷ [])) xs ys just of_role
    (λ f is. (is.0, is.1, Contains-append_left rows ((role, m) ∷ []) (is.0, is.1) is.2, is.3))
    (λ f is. (role, m, Contains-push rows (role, m), is))
    (λ f is. elim (Contains-push_cases rows (role, m) (is.0, is.1) is.2) [
      | inl before ↦ inl (is.0, is.1, before, is.3)
      | inr same ↦ inr (subst (λ (y : Bytes × MetaFile). IsOfRole files (dotted y.1.version y.0) f) (sym same) is.3)
    ])

-- what follows of an answer that was given
pub on_ok : {X E A B : Type 0} (r : Result X E) → OnOk r A → (A → B) → OnOk r B
on_ok (Ok x) a follows = follows a
on_ok (Err e) a follows = a

one_more : {X : Type 0} (xs : List X) (i : ℕ) (x : X) → i < length xs → x ≡ get_or xs i x → take (i + 1) xs ≡ take i xs ++ x ∷ []
one_more xs i x below is = subst (λ y. take (i + 1) xs ≡ take i xs ++ y ∷ []) (sym is) (take_more xs i x below)

pub none_listed : AreJust (IsListedIn []) []
none_listed = just_none (IsListedIn []) (λ f (l, (k, below, is), same). absurd (omega arith))

pub none_of_roles : (files : Files) → AreJust (IsOfRolesIn files []) []
none_of_roles files = just_none (IsOfRolesIn files []) (λ f (role, m, (k, below, is), of_role). absurd (omega arith))

-- a listing after those before the place
pub listings_more : (items : List code.Listing) (i : ℕ) (x : code.Listing) (xs ys : List ServedFile) → i < length items → x ≡ get_or items i x
    → AreJust (IsListedIn (map listing_view (take i items))) xs → ys ≡ target x.path x.digest.0 ∷ []
    → AreJust (IsListedIn (map listing_view (take (i + 1) items))) (xs ++ ys)
listings_more items i x xs ys below is just told =
    let e : map listing_view (take (i + 1) items) ≡ map listing_view (take i items) ++ listing_view x ∷ [] =
    ap (map listing_view) (one_more items i x below is) ∙ map-append listing_view (take i items) (x ∷ []) in
    subst (λ ls. AreJust (IsListedIn ls) (xs ++ ys)) (sym e)
    (subst (λ zs. AreJust (IsListedIn (map listing_view (take i items) ++ listing_view x ∷ [])) (xs ++ zs)) (sym told) (listed_push (map listing_view (take i items)) (listing_view x) xs just))

-- what contracts see of a snapshot's rows
abbrev pub rows_view : List (Bytes × Meta) → List (Bytes × MetaFile)
rows_view rows = map (λ e. (e.0, meta_view e.1)) rows

-- a role after those before the place
pub rows_more : (files : Files) (items : List (Bytes × Meta)) (i : ℕ) (x : Bytes × Meta) (xs ys : List ServedFile) → i < length items → x ≡ get_or items i x
    → AreJust (IsOfRolesIn files (rows_view (take i items))) xs → AreJust (IsOfRole files (dotted x.1.version x.0)) ys
    → AreJust (IsOfRolesIn files (rows_view (take (i + 1) items))) (xs ++ ys)
rows_more files items i x xs ys below is just of_role =
    let e : rows_view (take (i + 1) items) ≡ rows_view (take i items) ++ (x.0, meta_view x.1) ∷ [] =
    ap rows_view (one_more items i x below is) ∙ map-append (λ (e : Bytes × Meta). (e.0, meta_view e.1)) (take i items) (x ∷ []) in
    subst (λ rows. AreJust (IsOfRolesIn files rows) (xs ++ ys)) (sym e) (roles_push files (rows_view (take i items)) x.0 (meta_view x.1) xs ys just of_role)

-- a file was looked for, and then something was told
pub became_behind : {V : Type 0} (S : Files → List ServedFile → V → Type 0) (a b c : V) (name : Bytes) (o : Option Bytes) (P Q : Files → List ServedFile → Type 0)
    → ((files : Files) (told : List ServedFile) → S files told a → (o ≡ files name) × S files told b) → Became S b c P
    → ((files : Files) (xs : List ServedFile) → o ≡ files name → P files xs → Q files xs) → Became S a c Q
became_behind S a b c name o P Q found p means = record {
  so = λ files told at.
      let first = found files told at in
      let rest = p.so files told first.1 in
      (rest.0, rest.1, means files rest.0 first.0 rest.2);
}

-- three parts were told, one after the other
pub became_three : {V : Type 0} (S : Files → List ServedFile → V → Type 0) (a b c d : V) (P Q R T : Files → List ServedFile → Type 0)
    → Became S a b P → Became S b c Q → Became S c d R
    → ((files : Files) (xs ys zs : List ServedFile) → P files xs → Q files ys → R files zs → T files ((xs ++ ys) ++ zs)) → Became S a d T
became_three S a b c d P Q R T p q r means =
    let Two : Files → List ServedFile → Type 0 = λ files more. (xs : List ServedFile) × (ys : List ServedFile) × (more ≡ xs ++ ys) × P files xs × Q files ys in
    let two : Became S a c Two = became_both S a b c P Q Two p q (λ files xs ys px qy. (xs, ys, refl, px, qy)) in
    became_both S a c d Two R T two r (λ files ms zs both rz.
    subst (λ l. T files (l ++ zs)) (sym both.2) (means files both.0 both.1 zs both.3 both.4 rz))
