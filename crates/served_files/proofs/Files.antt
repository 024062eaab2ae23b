-- What is of a file that is held, by what it says, and of one that is not.
use Rattle.std.proofs.Common.{◌≡◌, ℕ, ◌⊎◌, inl, inr, List, [], ◌∷◌, ◌++◌, refl, sym, ◌∙◌, ap, subst}
use Rattle.std.specs.Global.{Global}
use Rattle.std.specs.Prelude.{Option, Some, None, Vec, option_map}
use Rattle.metadata.specs.File.{Bytes}
use Rattle.metadata.specs.Shape.{IsDocument, IsShapeFault}
use Rattle.document_parts.specs.Documents.{Body, Document}
use Rattle.document_parts.specs.Documents as plain
use Rattle.document_parts.specs.declared.documents.Kind.{Kind}
use Rattle.document_parts.specs.declared.documents.Kind.TheVariants as kinds
use Rattle.document_parts.specs.declared.documents.ShapeFault.{ShapeFault}
use Rattle.document_parts.specs.declared.documents.ShapeFault.TheVariants.{OutOfMemory}
use Rattle.served_files.specs.Served.{AreJust, Files, IsBodyOf, IsHeldFile, IsOfRole, IsOfRoots, IsOfSnapshot, IsOfTimestamp, IsServed, Says, ServedFile, lists_role, lists_target, metadata, names_snapshot, of_roots, of_timestamp, role_itself, snapshot_itself, timestamp_itself, timestamp_name}
use Rattle.served_files.specs.steps.Visits.{IsListedBy, IsNamedBy, IsOfRolesBy}
use Rattle.served_files.proofs.Telling.{just_both, just_none, just_one}

-- the body that a document of the name has is the file's
pub said : (files : Files) (kind : Kind) (name bytes : Bytes) (body other : Body) → files name ≡ Some bytes → IsBodyOf kind bytes body → Says files kind name other → other ≡ body
said files kind name bytes body other held is says =
    let same : says.bytes ≡ bytes = cc (says.is_held, held) in
    sym says.has_body ∙ is.has_body says.document (subst (λ b. IsDocument kind b says.document) same says.is_document)

says_it : (files : Files) (kind : Kind) (name bytes : Bytes) (body : Body) → files name ≡ Some bytes → IsBodyOf kind bytes body → Says files kind name body
says_it files kind name bytes body held is = record {
  bytes = bytes;
  document = is.document;
  is_held = held;
  is_document = is.is_document;
  has_body = is.has_body is.document is.is_document;
}

pub unsaid : (files : Files) (kind : Kind) (name bytes : Bytes) (other : Body) → files name ≡ Some bytes → ((d : Document) → IsDocument kind bytes d → ⊥) → Says files kind name other → ⊥
unsaid files kind name bytes other held none says =
    let same : says.bytes ≡ bytes = cc (says.is_held, held) in
    none says.document (subst (λ b. IsDocument kind b says.document) same says.is_document)

pub one_file : (files : Files) (kind : Kind) (name bytes : Bytes) (f : ServedFile) → files name ≡ Some bytes → IsHeldFile files kind name f → f ≡ metadata kind name bytes
one_file files kind name bytes f held (other, is, same) = let e : other ≡ bytes = cc (is, held) in same ∙ ap (metadata kind name) e

no_file : (files : Files) (kind : Kind) (name : Bytes) (f : ServedFile) → files name ≡ None → IsHeldFile files kind name f → ⊥
no_file files kind name f none (other, is, same) = absurd (let e : Some other ≡ None = sym is ∙ none in cc)

-- what a file says was told, and then the file
file_both : (Lower Whole : ServedFile → Type 0) (files : Files) (kind : Kind) (name bytes : Bytes) (xs : List ServedFile) → AreJust Lower xs → files name ≡ Some bytes
    → ((f : ServedFile) → Lower f → Whole f) → ((f : ServedFile) → IsHeldFile files kind name f → Whole f)
    → ((f : ServedFile) → Whole f → IsHeldFile files kind name f ⊎ Lower f) → AreJust Whole (xs ++ metadata kind name bytes ∷ [])
file_both Lower Whole files kind name bytes xs just held lower itself either =
    just_both Lower (λ f. f ≡ metadata kind name bytes) Whole xs (metadata kind name bytes ∷ []) just
    (just_one (λ f. f ≡ metadata kind name bytes) (metadata kind name bytes) refl (λ f is. is))
    lower (λ f is. itself f (bytes, held, is))
    (λ f is. elim (either f is) [ inl it ↦ inr (one_file files kind name bytes f held it) | inr below ↦ inl below ])

nothing : AreJust (λ f. ⊥) []
nothing = just_none (λ f. ⊥) (λ f is. is)

listed_so : (files : Files) (name : Bytes) (body : Body) (f : ServedFile) → Says files kinds.Targets name body → IsListedBy body f → IsOfRole files name f
listed_so files name (plain.targets t) f says (l, in_it, is) = lists_target t l says in_it is
listed_so files name (plain.root r) f says is = absurd is
listed_so files name (plain.timestamp t) f says is = absurd is
listed_so files name (plain.snapshot s) f says is = absurd is
listed_so files name (plain.layout l) f says is = absurd is
listed_so files name (plain.link l) f says is = absurd is

roles_so : (files : Files) (name : Bytes) (body : Body) (f : ServedFile) → Says files kinds.Snapshot name body → IsOfRolesBy files body f → IsOfSnapshot files name f
roles_so files name (plain.snapshot s) f says (r, m, in_it, is) = lists_role s r m says in_it is
roles_so files name (plain.root r) f says is = absurd is
roles_so files name (plain.timestamp t) f says is = absurd is
roles_so files name (plain.targets t) f says is = absurd is
roles_so files name (plain.layout l) f says is = absurd is
roles_so files name (plain.link l) f says is = absurd is

named_so : (files : Files) (body : Body) (f : ServedFile) → Says files kinds.Timestamp timestamp_name body → IsNamedBy files body f → IsOfTimestamp files f
named_so files (plain.timestamp t) f says is = names_snapshot t says is
named_so files (plain.root r) f says is = absurd is
named_so files (plain.snapshot s) f says is = absurd is
named_so files (plain.targets t) f says is = absurd is
named_so files (plain.layout l) f says is = absurd is
named_so files (plain.link l) f says is = absurd is

pub in_role : (files : Files) (name : Bytes) (Lower : ServedFile → Type 0) (f : ServedFile) → ((t : plain.Targets) → Says files kinds.Targets name (plain.targets t) → IsListedBy (plain.targets t) f → Lower f)
    → IsOfRole files name f → IsHeldFile files kinds.Targets name f ⊎ Lower f
in_role files name Lower f lower (role_itself it) = inl it
in_role files name Lower f lower (lists_target t l says in_it is) = inr (lower t says (l, in_it, is))

pub in_snapshot : (files : Files) (name : Bytes) (Lower : ServedFile → Type 0) (f : ServedFile) → ((s : plain.Snapshot) → Says files kinds.Snapshot name (plain.snapshot s) → IsOfRolesBy files (plain.snapshot s) f → Lower f)
    → IsOfSnapshot files name f → IsHeldFile files kinds.Snapshot name f ⊎ Lower f
in_snapshot files name Lower f lower (snapshot_itself it) = inl it
in_snapshot files name Lower f lower (lists_role s r m says in_it is) = inr (lower s says (r, m, in_it, is))

in_timestamp : (files : Files) (Lower : ServedFile → Type 0) (f : ServedFile) → ((t : plain.Timestamp) → Says files kinds.Timestamp timestamp_name (plain.timestamp t) → IsNamedBy files (plain.timestamp t) f → Lower f)
    → IsOfTimestamp files f → IsHeldFile files kinds.Timestamp timestamp_name f ⊎ Lower f
in_timestamp files Lower f lower (timestamp_itself it) = inl it
in_timestamp files Lower f lower (names_snapshot t says is) = inr (lower t says is)

-- targets metadata that say this
pub role_body : (files : Files) (name bytes : Bytes) (body : Body) (xs ys : List ServedFile) → AreJust (IsListedBy body) xs → ys ≡ metadata kinds.Targets name bytes ∷ []
    → files name ≡ Some bytes → IsBodyOf kinds.Targets bytes body → AreJust (IsOfRole files name) (xs ++ ys)
role_body files name bytes body xs ys just told held is = subst (λ zs. AreJust (IsOfRole files name) (xs ++ zs)) (sym told)
    (file_both (IsListedBy body) (IsOfRole files name) files kinds.Targets name bytes xs just held
    (λ f lower. listed_so files name body f (says_it files kinds.Targets name bytes body held is) lower)
    (λ f it. role_itself it)
    (λ f whole. in_role files name (IsListedBy body) f (λ t says lower. subst (λ b. IsListedBy b f) (said files kinds.Targets name bytes body (plain.targets t) held is says) lower) whole))

-- what is no targets metadata
pub role_alone : (files : Files) (name bytes : Bytes) (ys : List ServedFile) → ys ≡ metadata kinds.Targets name bytes ∷ [] → files name ≡ Some bytes
    → ((d : Document) → IsDocument kinds.Targets bytes d → ⊥) → AreJust (IsOfRole files name) ys
role_alone files name bytes ys told held none = subst (λ zs. AreJust (IsOfRole files name) zs) (sym told)
    (file_both (λ f. ⊥) (IsOfRole files name) files kinds.Targets name bytes [] nothing held (λ f lower. absurd lower) (λ f it. role_itself it)
    (λ f whole. in_role files name (λ f. ⊥) f (λ t says lower. unsaid files kinds.Targets name bytes (plain.targets t) held none says) whole))

-- targets metadata that are not held
pub role_none : (files : Files) (name : Bytes) → files name ≡ None → AreJust (IsOfRole files name) []
role_none files name none = just_none (IsOfRole files name) (λ f whole.
    elim (in_role files name (λ f. ⊥) f (λ t says lower. no_file files kinds.Targets name (metadata kinds.Targets name says.bytes) none (says.bytes, says.is_held, refl)) whole) [ inl it ↦ no_file files kinds.Targets name f none it | inr is ↦ is ])

pub snapshot_body : (files : Files) (name bytes : Bytes) (body : Body) (xs ys : List ServedFile) → AreJust (IsOfRolesBy files body) xs → ys ≡ metadata kinds.Snapshot name bytes ∷ []
    → files name ≡ Some bytes → IsBodyOf kinds.Snapshot bytes body → AreJust (IsOfSnapshot files name) (xs ++ ys)
snapshot_body files name bytes body xs ys just told held is = subst (λ zs. AreJust (IsOfSnapshot files name) (xs ++ zs)) (sym told)
    (file_both (IsOfRolesBy files body) (IsOfSnapshot files name) files kinds.Snapshot name bytes xs just held
    (λ f lower. roles_so files name body f (says_it files kinds.Snapshot name bytes body held is) lower)
    (λ f it. snapshot_itself it)
    (λ f whole. in_snapshot files name (IsOfRolesBy files body) f (λ s says lower. subst (λ b. IsOfRolesBy files b f) (said files kinds.Snapshot name bytes body (plain.snapshot s) held is says) lower) whole))

pub snapshot_alone : (files : Files) (name bytes : Bytes) (ys : List ServedFile) → ys ≡ metadata kinds.Snapshot name bytes ∷ [] → files name ≡ Some bytes
    → ((d : Document) → IsDocument kinds.Snapshot bytes d → ⊥) → AreJust (IsOfSnapshot files name) ys
snapshot_alone files name bytes ys told held none = subst (λ zs. AreJust (IsOfSnapshot files name) zs) (sym told)
    (file_both (λ f. ⊥) (IsOfSnapshot files name) files kinds.Snapshot name bytes [] nothing held (λ f lower. absurd lower) (λ f it. snapshot_itself it)
    (λ f whole. in_snapshot files name (λ f. ⊥) f (λ s says lower. unsaid files kinds.Snapshot name bytes (plain.snapshot s) held none says) whole))

pub snapshot_none : (files : Files) (name : Bytes) → files name ≡ None → AreJust (IsOfSnapshot files name) []
snapshot_none files name none = just_none (IsOfSnapshot files name) (λ f whole.
    elim (in_snapshot files name (λ f. ⊥) f (λ s says lower. no_file files kinds.Snapshot name (metadata kinds.Snapshot name says.bytes) none (says.bytes, says.is_held, refl)) whole) [ inl it ↦ no_file files kinds.Snapshot name f none it | inr is ↦ is ])

-- of what is served, the timestamp itself stands alone
split : (files : Files) (after last : ℕ) (Lower : ServedFile → Type 0) (f : ServedFile) → (IsOfTimestamp files f → IsHeldFile files kinds.Timestamp timestamp_name f ⊎ Lower f) → (IsOfRoots files after last f → Lower f)
    → IsServed files after last f → IsHeldFile files kinds.Timestamp timestamp_name f ⊎ Lower f
split files after last Lower f stamped rooted (of_roots is) = inr (rooted is)
split files after last Lower f stamped rooted (of_timestamp is) = stamped is

-- what a timestamp names, the roots, and the timestamp
pub timestamp_body : (files : Files) (after last : ℕ) (bytes : Bytes) (body : Body) (xs rs ys : List ServedFile) → AreJust (IsNamedBy files body) xs → AreJust (IsOfRoots files after last) rs
    → ys ≡ metadata kinds.Timestamp timestamp_name bytes ∷ [] → files timestamp_name ≡ Some bytes → IsBodyOf kinds.Timestamp bytes body → AreJust (IsServed files after last) ((xs ++ rs) ++ ys)
timestamp_body files after last bytes body xs rs ys named roots told held is =
    let Lower : ServedFile → Type 0 = λ f. IsNamedBy files body f ⊎ IsOfRoots files after last f in
    let lower : AreJust Lower (xs ++ rs) = just_both (IsNamedBy files body) (IsOfRoots files after last) Lower xs rs named roots (λ f a. inl a) (λ f b. inr b) (λ f it. it) in
    subst (λ zs. AreJust (IsServed files after last) ((xs ++ rs) ++ zs)) (sym told)
    (file_both Lower (IsServed files after last) files kinds.Timestamp timestamp_name bytes (xs ++ rs) lower held
    (λ f it. elim it [ inl a ↦ of_timestamp (named_so files body f (says_it files kinds.Timestamp timestamp_name bytes body held is) a) | inr b ↦ of_roots b ])
    (λ f it. of_timestamp (timestamp_itself it))
    (λ f whole. split files after last Lower f
    (λ stamped. in_timestamp files Lower f (λ t says it. inl (subst (λ b. IsNamedBy files b f) (said files kinds.Timestamp timestamp_name bytes body (plain.timestamp t) held is says) it)) stamped)
    (λ b. inr b) whole))

-- the roots, and what is no timestamp
pub timestamp_alone : (files : Files) (after last : ℕ) (bytes : Bytes) (rs ys : List ServedFile) → AreJust (IsOfRoots files after last) rs
    → ys ≡ metadata kinds.Timestamp timestamp_name bytes ∷ [] → files timestamp_name ≡ Some bytes → ((d : Document) → IsDocument kinds.Timestamp bytes d → ⊥) → AreJust (IsServed files after last) (rs ++ ys)
timestamp_alone files after last bytes rs ys roots told held none = subst (λ zs. AreJust (IsServed files after last) (rs ++ zs)) (sym told)
    (file_both (IsOfRoots files after last) (IsServed files after last) files kinds.Timestamp timestamp_name bytes rs roots held
    (λ f b. of_roots b)
    (λ f it. of_timestamp (timestamp_itself it))
    (λ f whole. split files after last (IsOfRoots files after last) f
    (λ stamped. in_timestamp files (IsOfRoots files after last) f (λ t says it. absurd (unsaid files kinds.Timestamp timestamp_name bytes (plain.timestamp t) held none says)) stamped)
    (λ b. b) whole))

-- the roots, where no timestamp is held
pub timestamp_none : (files : Files) (after last : ℕ) (rs : List ServedFile) → AreJust (IsOfRoots files after last) rs → files timestamp_name ≡ None → AreJust (IsServed files after last) rs
timestamp_none files after last rs roots none = record {
  sound = λ f in_it. of_roots (roots.sound f in_it);
  complete = λ f whole. roots.complete f (elim (split files after last (IsOfRoots files after last) f
      (λ stamped. in_timestamp files (IsOfRoots files after last) f (λ t says it. absurd (no_file files kinds.Timestamp timestamp_name (metadata kinds.Timestamp timestamp_name says.bytes) none (says.bytes, says.is_held, refl))) stamped)
      (λ b. b) whole) [ inl it ↦ absurd (no_file files kinds.Timestamp timestamp_name f none it) | inr b ↦ b ]);
}

-- a document has the body that each such document has
pub only_body : ((kind : Kind) (bytes : Bytes) (d e : Document) → IsDocument kind bytes d → IsDocument kind bytes e → d ≡ e)
    → (kind : Kind) (bytes : Bytes) (d : Document) → IsDocument kind bytes d → IsBodyOf kind bytes d.body
only_body law kind bytes d is = record { document = d; is_document = is; has_body = λ e other. ap (λ (x : Document). x.body) (law kind bytes e d other is) }

-- what has a fault of shape is no document
pub no_document : ((kind : Kind) (bytes : Bytes) (d : Document) (fault : ShapeFault) → IsDocument kind bytes d → IsShapeFault kind bytes fault → ⊥)
    → (kind : Kind) (bytes : Bytes) (fault : ShapeFault) → (fault ≡ OutOfMemory) ⊎ IsShapeFault kind bytes fault → (fault ≡ OutOfMemory → ⊥)
    → (d : Document) → IsDocument kind bytes d → ⊥
no_document law kind bytes fault (inl memory) other d is = other memory
no_document law kind bytes fault (inr shape) other d is = law kind bytes d fault is shape

-- what was read of a file that is held
pub read_some : (o : Option (Vec ℕ Global)) (v : Vec ℕ Global) (r : Option Bytes) → o ≡ Some v → option_map (λ v. v.items) o ≡ r → r ≡ Some v.items
read_some o v r is found = sym found ∙ ap (option_map (λ (v : Vec ℕ Global). v.items)) is

pub read_none : (o : Option (Vec ℕ Global)) (r : Option Bytes) → o ≡ None → option_map (λ v. v.items) o ≡ r → r ≡ None
read_none o r is found = sym found ∙ ap (option_map (λ (v : Vec ℕ Global). v.items)) is
