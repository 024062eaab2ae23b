-- What a valid and coherent state holds, and what stands at a key where a row was added.
use Rattle.std.proofs.Common.{◌≡◌, ◌⊎◌, inl, inr, ℕ, ◌<◌, ◌≤◌, Bool, true, false, cond, List, [], ◌∷◌, map, length, Option, Some, None, option_map, option_and_then, unwrap_or, Ok, refl, sym, ap, ◌∙◌, subst, bytes_eq, nat_eq, IsTrue}
use Rattle.std.specs.Prelude.{All, IfSome, IsNone, IsSome, ◌&&◌, is_some}
use Rattle.std.specs.List.{AllByRecursion}
use Rattle.std.proofs.lemmas.Bool.{and_from, and_parts}
use Rattle.std.proofs.lemmas.Bool.Decides.{Decides-eqb}
use Rattle.std.proofs.lemmas.Slice.Eq.{bytes_eq-Decides}
use Rattle.std.proofs.lemmas.List.Elements.{All-head, All-tail}
use Rattle.sha2.specs.Sha256.{sha256}
use Rattle.path_patterns.specs.Grammar.{IsName}
use Rattle.keys_roles.specs.Plain.{look_up}
use Rattle.keys_roles.specs.steps.Counting.{IsIn}
use Rattle.document_parts.specs.Bodies.{IsListable}
use Rattle.document_parts.specs.Documents.{MetaFile, Root, Snapshot, Targets, Timestamp}
use Rattle.metadata.specs.File.{Bytes, File, Name, IsFileOf, targets_form}
use Rattle.document_parts.specs.Parts.{last_number}
use Rattle.denials.specs.Orders.{given, holds, pass}
use Rattle.delegations.specs.Rows.{HasHash, HasLength, Place, Rows, has_hash, has_length, named_row, row_at, same_place, value_at, with_row}
use Rattle.trust_rules.proofs.LinesGive.{needed}
use Rattle.trust_rules.specs.State.{IsBlob, IsShelfRow, NamesSnapshot, blob_at}
use Rattle.trust_rules.specs.Offers.{live_snapshot}
use Rattle.limits.specs.Limits.{blob_limit}

pub some_one : {A : Type 0} (a b : A) → Some a ≡ Some b → a ≡ b
some_one a b e = cc

pub none_some : {A : Type 0} (a : A) → ◌≡◌ {A = Option A} None (Some a) → ⊥
none_some a e = cc

pub is_there : {A : Type 0} (o : Option A) → IsSome o → (a : A) × (o ≡ Some a)
is_there (Some a) h = (a, refl)
is_there None h = let k : false ≡ true = h in absurd cc

pub some_there : {A : Type 0} (o : Option A) (a : A) → o ≡ Some a → IsSome o
some_there {A} o a e = subst (λ (p : Option A). IsSome p) (sym e) refl

pub none_there : {A : Type 0} (o : Option A) → o ≡ None → IsSome o → ⊥
none_there {A} o e h = let k : false ≡ true = subst (λ (p : Option A). is_some p ≡ true) e h in cc

pub is_none : {A : Type 0} (o : Option A) → o ≡ None → IsNone o
is_none {A} o e = subst (λ (p : Option A). IsNone p) (sym e) refl

-- ---- a row that was added

abbrev pub OneKey : {K : Type 0} → (K → K → Bool) → Type 0
OneKey {K} same = (a b q : K) → same a q ≡ true → same b q ≡ true → same a b ≡ true

by_test : {P : Type 0} (b : Bool) → (b ≡ true → P) → (b ≡ false → P) → P
by_test true t f = t refl
by_test false t f = f refl

pub value_put : {K A : Type 0} (below same : K → K → Bool) → OneKey same → (rows : List (K × A)) (k : K) (v : A) (q : K) → value_at same rows k ≡ None
    → value_at same (with_row below rows k v) q ≡ cond (same k q) (Some v) (value_at same rows q)
value_put below same one [] k v q none = refl
value_put {K} {A} below same one (row ∷ rows) k v q none = by_test (below k row.0)
    (λ t. rw t refl)
    (λ f. rw f (by_test (same row.0 k)
    (λ s. absurd (none_some row.1 (sym none ∙ ap (λ (b : Bool). cond b (Some row.1) (value_at same rows k)) s)))
    (λ s. swap (same row.0 q) (same k q) refl refl s (value_put below same one rows k v q (ap (λ (b : Bool). cond b (Some row.1) (value_at same rows k)) (sym s) ∙ none)))))
  where
    swap : (a b : Bool) → same row.0 q ≡ a → same k q ≡ b → same row.0 k ≡ false → value_at same (with_row below rows k v) q ≡ cond (same k q) (Some v) (value_at same rows q)
        → cond (same row.0 q) (Some row.1) (value_at same (with_row below rows k v) q) ≡ cond (same k q) (Some v) (cond (same row.0 q) (Some row.1) (value_at same rows q))
    swap true true e f s rest = let k : true ≡ false = sym (one row.0 k q e f) ∙ s in absurd cc
    swap true false e f s rest = rw (e, f) refl
    swap false true e f s rest = rw e (rest ∙ rw f refl)
    swap false false e f s rest = rw e (rest ∙ rw f refl)

pub same_blob : OneKey bytes_eq
same_blob a b q e f = (bytes_eq-Decides a b).1 ((bytes_eq-Decides a q).0 e ∙ sym ((bytes_eq-Decides b q).0 f))

pub same_role : (p q : Place) → same_place p q ≡ true → (p.0 ≡ q.0) × (p.1 ≡ q.1)
same_role p q e = let parts = and_parts (bytes_eq p.0 q.0) (nat_eq p.1 q.1) e in ((bytes_eq-Decides p.0 q.0).0 parts.0, (Decides-eqb p.1 q.1).0 parts.1)

pub place_self : (p q : Place) → p.0 ≡ q.0 → p.1 ≡ q.1 → same_place p q ≡ true
place_self p q e f = and_from (bytes_eq p.0 q.0) (nat_eq p.1 q.1) ((bytes_eq-Decides p.0 q.0).1 e) ((Decides-eqb p.1 q.1).1 f)

pub one_place : OneKey same_place
one_place a b q e f = let x = same_role a q e in let y = same_role b q f in place_self a b (x.0 ∙ sym y.0) (x.1 ∙ sym y.1)

-- where a row was added: it, or what stood there
pub put_or_was : {K A : Type 0} (below same : K → K → Bool) → OneKey same → (rows : List (K × A)) (k : K) (v : A) (q : K) (w : A) → value_at same rows k ≡ None
    → value_at same (with_row below rows k v) q ≡ Some w → ((same k q ≡ true) × (v ≡ w)) ⊎ (value_at same rows q ≡ Some w)
put_or_was below same one rows k v q w none e = by (same k q) refl (sym (value_put below same one rows k v q none) ∙ e)
  where
    by : (b : Bool) → same k q ≡ b → cond (same k q) (Some v) (value_at same rows q) ≡ Some w → ((same k q ≡ true) × (v ≡ w)) ⊎ (value_at same rows q ≡ Some w)
    by true t h = inl (t, some_one v w (ap (λ (b : Bool). cond b (Some v) (value_at same rows q)) (sym t) ∙ h))
    by false t h = inr (ap (λ (b : Bool). cond b (Some v) (value_at same rows q)) (sym t) ∙ h)

-- what was there is there still, and what was added is there
pub still_there : {K A : Type 0} (below same : K → K → Bool) → OneKey same → (rows : List (K × A)) (k : K) (v : A) (q : K) → value_at same rows k ≡ None
    → IsSome (value_at same rows q) → IsSome (value_at same (with_row below rows k v) q)
still_there below same one rows k v q none h = subst (λ (o : Option _). IsSome o) (sym (value_put below same one rows k v q none)) (by (same k q))
  where
    by : (b : Bool) → IsSome (cond b (Some v) (value_at same rows q))
    by true = refl
    by false = h

pub now_there : {K A : Type 0} (below same : K → K → Bool) → OneKey same → (rows : List (K × A)) (k : K) (v : A) (q : K) → value_at same rows k ≡ None
    → same k q ≡ true → IsSome (value_at same (with_row below rows k v) q)
now_there below same one rows k v q none e =
    subst (λ (o : Option _). IsSome o) (sym (value_put below same one rows k v q none ∙ ap (λ (b : Bool). cond b (Some v) (value_at same rows q)) e)) refl

-- a key where something stands
pub key_in : {A : Type 0} (rows : List (Bytes × A)) (k : Bytes) (v : A) → value_at bytes_eq rows k ≡ Some v → IsIn (map (λ r. r.0) rows) k
key_in [] k v e = absurd (none_some v e)
key_in (row ∷ rows) k v e = by (key_in rows k v) (bytes_eq row.0 k) refl e
  where
    by : (value_at bytes_eq rows k ≡ Some v → IsIn (map (λ r. r.0) rows) k) → (b : Bool) → bytes_eq row.0 k ≡ b → cond b (Some row.1) (value_at bytes_eq rows k) ≡ Some v
        → IsIn (map (λ r. r.0) (row ∷ rows)) k
    by rest true t h = inl ((bytes_eq-Decides row.0 k).0 t)
    by rest false t h = inr (rest h)

pub in_key : {A : Type 0} (rows : List (Bytes × A)) (k : Bytes) → IsIn (map (λ r. r.0) rows) k → IsSome (value_at bytes_eq rows k)
in_key [] k h = absurd h
in_key (row ∷ rows) k h = by (in_key rows k) (bytes_eq row.0 k) refl h
  where
    by : (IsIn (map (λ r. r.0) rows) k → IsSome (value_at bytes_eq rows k)) → (b : Bool) → bytes_eq row.0 k ≡ b → IsIn (map (λ r. r.0) (row ∷ rows)) k
        → IsSome (cond b (Some row.1) (value_at bytes_eq rows k))
    by rest true t x = refl
    by rest false t (inl e) = let c : true ≡ false = sym ((bytes_eq-Decides row.0 k).1 e) ∙ t in absurd cc
    by rest false t (inr x) = rest x

-- ---- what a snapshot lists

pub listed_each : (P : Name × MetaFile → Type 0) (rows : List (Name × MetaFile)) (role : Name) (entry : MetaFile) → AllByRecursion P rows → look_up rows role ≡ Some entry → P (role, entry)
listed_each P [] role entry all e = absurd (none_some entry e)
listed_each P (row ∷ rows) role entry all e = by (listed_each P rows role entry all.1) (bytes_eq row.0 role) refl e
  where
    by : (look_up rows role ≡ Some entry → P (role, entry)) → (b : Bool) → bytes_eq row.0 role ≡ b → cond b (Some row.1) (look_up rows role) ≡ Some entry → P (role, entry)
    by rest true t h =
        subst (λ (m : MetaFile). P (role, m)) (some_one row.1 entry h) (subst (λ (n : Name). P (n, row.1)) ((bytes_eq-Decides row.0 role).0 t) all.0)
    by rest false t h = rest h

pub listed_in : (rows : List (Name × MetaFile)) (role : Name) (entry : MetaFile) → look_up rows role ≡ Some entry → IsIn (map (λ r. r.0) rows) role
listed_in [] role entry e = absurd (none_some entry e)
listed_in (row ∷ rows) role entry e = by (listed_in rows role entry) (bytes_eq row.0 role) refl e
  where
    by : (look_up rows role ≡ Some entry → IsIn (map (λ r. r.0) rows) role) → (b : Bool) → bytes_eq row.0 role ≡ b → cond b (Some row.1) (look_up rows role) ≡ Some entry
        → IsIn (map (λ r. r.0) (row ∷ rows)) role
    by rest true t h = inl ((bytes_eq-Decides row.0 role).0 t)
    by rest false t h = inr (rest h)

-- ---- a row that an entry names

length_says : (n : Option ℕ) (m : ℕ) → unwrap_or (option_map (λ k. nat_eq m k) n) true ≡ true → IfSome n (λ k. m ≡ k)
length_says None m h = tt
length_says (Some k) m h = (Decides-eqb m k).0 h

hash_says : (o : Option Bytes) (b : Bytes) → unwrap_or (option_map (λ h. bytes_eq b h) o) true ≡ true → IfSome o (λ h. b ≡ h)
hash_says None b h = tt
hash_says (Some d) b h = (bytes_eq-Decides b d).0 h

pub named_says : (shelf : Rows) (role : Name) (e : MetaFile) → IsTrue (is_some (named_row shelf role e))
    → (file : File Targets) × (row_at shelf role e.version ≡ Some file) × HasLength e file.bytes × HasHash e file.bytes
named_says shelf role e h = by (row_at shelf role e.version) refl h
  where
    tested : (file : File Targets) → row_at shelf role e.version ≡ Some file → (t : Bool) → (has_length e file.bytes && has_hash e file.bytes) ≡ t → IsTrue (is_some (cond t (Some file) None))
        → (file : File Targets) × (row_at shelf role e.version ≡ Some file) × HasLength e file.bytes × HasHash e file.bytes
    tested file at true t k =
        let parts = and_parts (has_length e file.bytes) (has_hash e file.bytes) t in
        (file, at, length_says e.len (length file.bytes) parts.0, hash_says e.digest (sha256 file.bytes) parts.1)
    tested file at false t k = let c : false ≡ true = k in absurd cc

    by : (o : Option (File Targets)) → row_at shelf role e.version ≡ o
        → IsTrue (is_some (option_and_then (λ (file : File Targets). cond (has_length e file.bytes && has_hash e file.bytes) (Some file) None) o))
        → (file : File Targets) × (row_at shelf role e.version ≡ Some file) × HasLength e file.bytes × HasHash e file.bytes
    by None at k = let c : false ≡ true = k in absurd cc
    by (Some file) at k = tested file at (has_length e file.bytes && has_hash e file.bytes) refl k

-- ---- a row and a blob of a valid state

pub row_says : (rows : Rows) (role : Name) (version : ℕ) (file : File Targets) → All IsShelfRow rows → row_at rows role version ≡ Some file
    → IsFileOf targets_form file × (file.body.version ≡ version) × IsName role × IsListable role
row_says [] role version file all e = absurd (none_some file e)
row_says (row ∷ rows) role version file all e = by (row_says rows role version file (All-tail IsShelfRow row rows all)) (same_place row.0 (role, version)) refl e
  where
    by : (row_at rows role version ≡ Some file → IsFileOf targets_form file × (file.body.version ≡ version) × IsName role × IsListable role) → (b : Bool) → same_place row.0 (role, version) ≡ b → cond b (Some row.1) (row_at rows role version) ≡ Some file
        → IsFileOf targets_form file × (file.body.version ≡ version) × IsName role × IsListable role
    by rest true t h =
        let here = All-head IsShelfRow row rows all in
        let at = same_role row.0 (role, version) t in
        subst (λ (f : File Targets). IsFileOf targets_form f × (f.body.version ≡ version) × IsName role × IsListable role) (some_one row.1 file h)
        (here.document, here.version ∙ at.1, subst (λ (n : Name). IsName n) at.0 here.role, subst (λ (n : Name). IsListable n) at.0 here.listable)
    by rest false t h = rest h

pub blob_says : (blobs : List (Bytes × Bytes)) (digest b : Bytes) → All IsBlob blobs → blob_at blobs digest ≡ Some b → (sha256 b ≡ digest) × (length b ≤ blob_limit)
blob_says [] digest b all e = absurd (none_some b e)
blob_says (row ∷ rows) digest b all e = by (blob_says rows digest b (All-tail IsBlob row rows all)) (bytes_eq row.0 digest) refl e
  where
    by : (blob_at rows digest ≡ Some b → (sha256 b ≡ digest) × (length b ≤ blob_limit)) → (t : Bool) → bytes_eq row.0 digest ≡ t → cond t (Some row.1) (blob_at rows digest) ≡ Some b → (sha256 b ≡ digest) × (length b ≤ blob_limit)
    by rest true t h =
        let here = All-head IsBlob row rows all in
        subst (λ (c : Bytes). (sha256 c ≡ digest) × (length c ≤ blob_limit)) (some_one row.1 b h) (here.digest ∙ (bytes_eq-Decides row.0 digest).0 t, here.short)
    by rest false t h = rest h

pub version_small : (file : File Targets) → IsFileOf targets_form file → file.body.version ≤ last_number
version_small file read = read.read.body.head.1.2.2

-- ---- what is live

pub record Lives (stamped : Option (File Timestamp)) (snapped : Option (File Snapshot)) (root : File Root) (snap : File Snapshot) (now : ℕ) : Type 0 where
  pub stamp : File Timestamp
  pub root_lives : now < root.body.expires
  pub timestamp : stamped ≡ Some stamp
  pub stamp_lives : now < stamp.body.expires
  pub snapshot : snapped ≡ Some snap
  pub names : NamesSnapshot stamp snap
  pub snap_lives : now < snap.body.expires

pub live_says : (stamped : Option (File Timestamp)) (snapped : Option (File Snapshot)) (root : File Root) (now : ℕ) (snap : File Snapshot)
    → live_snapshot stamped snapped root now (Ok snap) → Lives stamped snapped root snap now
live_says stamped snapped root now _ (pass (pass (holds live) (pass {a = stamp} k (pass (holds lives) given))) (pass {a = snap} l (pass (holds names) (pass (holds fresh) given)))) = record {
  stamp = stamp;
  root_lives = live;
  timestamp = needed _ stamped stamp k;
  stamp_lives = lives;
  snapshot = needed _ snapped snap l;
  names = names;
  snap_lives = fresh;
}
