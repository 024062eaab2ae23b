-- The rows of a state, and the files that they spell.
use Rattle.std.proofs.Common.{◌≡◌, ◌⊎◌, inl, inr, ℕ, false, suc, ◌+◌, ◌-◌, List, [], ◌∷◌, ◌++◌, map, length, Option, Some, None, Result, Ok, Err, refl, sym, ap, ◌∙◌, subst, arith}
use Rattle.std.specs.Prelude.{◌≤◌, All, IfErr, IfOk, IfSome, IfNone, IsErrAnd, IsSome, option_map, unwrap_or}
use Rattle.std.proofs.lemmas.Bool.{true≢false}
use Rattle.std.proofs.lemmas.List.{length-append, length-map, map-append}
use Rattle.std.proofs.lemmas.List.Elements.{All-nil, All-cons, All-head, All-tail}
use Rattle.std.specs.List.{AllZip}
use Rattle.metadata.specs.File.{Bytes, File, Form, IsFileOf, document_of, root_form, timestamp_form, snapshot_form, targets_form}
use Rattle.metadata.specs.Shape.{IsDocument, IsShapeFault}
use Rattle.document_parts.specs.declared.documents.ShapeFault.{ShapeFault}
use Rattle.document_parts.specs.declared.documents.ShapeFault.TheVariants.{OutOfMemory}
use Rattle.document_parts.specs.Documents.{Profile, Root, Targets}
use Rattle.delegations.specs.Rows.{Place, Rows}
use Rattle.trust_rules.specs.State.{Trusted, State, IsRootChain, IsHeldUnder, IsShelfRow, IsState, MeetsTop, first, kept_root, then, nothing_trusted, root_version}
use Rattle.trust_rules.specs.Effects.{Gone, nothing_gone, Effects, applied, last_or, no_effects}
use Rattle.trust_rules.specs.steps.Loading.{AreRead, FollowOn, IsChain, RowsAreRead, laid}
use Rattle.trust_rules.specs.Contents.{contents_of, numbered, profile_number, root_row_of, root_rows, shelf_rows}
use Rattle.repository_rows.specs.Contents.{Contents}
use Rattle.trust_rules.specs.steps.Stored.{AreStored, IsShelved, IsStored, IsStoredRoot, Together}
use Rattle.trust_rules.proofs.RootChains.{back, chain_tells}
use Rattle.trust_rules.proofs.PutInRoom.{same_state}
use Rattle.trust_rules.proofs.ShapedOnce.{Shapes, Tells, file-once, root-tells, timestamp-tells, snapshot-tells, targets-tells}

-- a fault of a file that is not want of memory
real_fault : (P Q : Type 0) → P ⊎ Q → (P → ⊥) → Q
real_fault P Q (inl p) k = absurd (k p)
real_fault P Q (inr q) k = q

module _ (law : Shapes) where
  not_stored : {A : Type 0} (form : Form A) (version : A → ℕ) (row : ℕ × Bytes) (e : ShapeFault) → IsShapeFault form.kind row.1 e
      → (f : File A) → IsStored form version row f → ⊥
  not_stored form version row e k f h =
      law.none form.kind row.1 (document_of form f) e
      (subst (λ (z : Bytes). IsDocument form.kind z (document_of form f)) (ap (λ r. r.1) h.is) h.document) k

  not_shelved : (row : Place × Bytes) (e : ShapeFault) → IsShapeFault targets_form.kind row.1 e → (held : Place × File Targets) → IsShelved row held → ⊥
  not_shelved row e k held h =
      law.none targets_form.kind row.1 (document_of targets_form held.1) e
      (subst (λ (z : Bytes). IsDocument targets_form.kind z (document_of targets_form held.1)) (ap (λ r. r.1) h.is) h.document) k

  -- where what was read is no file, no file is stored in the row
  pub unstored : {A X : Type 0} (form : Form A) (version : A → ℕ) (row : ℕ × Bytes) (r : Result X ShapeFault)
      → IfErr r (λ e. (e ≡ OutOfMemory) ⊎ IsShapeFault form.kind row.1 e) → IsErrAnd r (λ e. ¬ (e ≡ OutOfMemory))
      → (f : File A) → IsStored form version row f → ⊥
  unstored form version row (Ok x) h k = absurd k
  unstored form version row (Err e) h k = not_stored form version row e (real_fault _ _ h k)

  pub unshelved : {X : Type 0} (row : Place × Bytes) (r : Result X ShapeFault)
      → IfErr r (λ e. (e ≡ OutOfMemory) ⊎ IsShapeFault targets_form.kind row.1 e) → IsErrAnd r (λ e. ¬ (e ≡ OutOfMemory))
      → (held : Place × File Targets) → IsShelved row held → ⊥
  unshelved row (Ok x) h k = absurd k
  unshelved row (Err e) h k = not_shelved row e (real_fault _ _ h k)

  pub other_version : {A : Type 0} (form : Form A) → Tells form → (version : A → ℕ) (v : ℕ) (b : Bytes) (g : File A) → IsFileOf form g → g.bytes ≡ b
      → (version g.body ≡ v → ⊥) → (f : File A) → IsStored form version (v, b) f → ⊥
  other_version {A} form tells version v b g doc is unlike f h =
      let same : f ≡ g = file-once law form tells f g h.document doc (ap (λ r. r.1) h.is ∙ sym is) in
      unlike (subst (λ (x : File A). version x.body ≡ v) same (ap (λ r. r.0) h.is))

  pub other_profile : (v p : ℕ) (b : Bytes) (g : File Root) → IsFileOf root_form g → g.bytes ≡ b → (profile_number g.body.profile ≡ p → ⊥)
      → (f : File Root) → IsStoredRoot (v, (p, b)) f → ⊥
  other_profile v p b g doc is unlike f h =
      let same : f ≡ g = file-once law root_form root-tells f g h.document doc (ap (λ r. r.1.1) h.is ∙ sym is) in
      unlike (subst (λ (x : File Root). profile_number x.body.profile ≡ p) same (ap (λ r. r.1.0) h.is))

-- a file of this version, with the bytes of the row
pub as_stored : {A : Type 0} (form : Form A) (version : A → ℕ) (v : ℕ) (b : Bytes) (f : File A) → IsFileOf form f → version f.body ≡ v → f.bytes ≡ b
    → IsStored form version (v, b) f
as_stored form version v b f document same bytes = record { document = document; is = λ i. (same i, bytes i) }

pub as_stored_root : (v p : ℕ) (b : Bytes) (f : File Root) → IsFileOf root_form f → f.body.version ≡ v → profile_number f.body.profile ≡ p → f.bytes ≡ b
    → IsStoredRoot (v, (p, b)) f
as_stored_root v p b f document same profile bytes = record { document = document; is = λ i. (same i, (profile i, bytes i)) }

-- the root of a row is a file of its version with its bytes
pub file_of_root : (row : ℕ × (ℕ × Bytes)) (f : File Root) → IsStoredRoot row f → IsStored root_form (λ r. r.version) (row.0, row.1.1) f
file_of_root row f h = record { document = h.document; is = ap (λ r. (r.0, r.1.1)) h.is }

pub nothing_together : {A B : Type 0} (R : A → B → Type 0) (x : A) → ((y : B) → R x y → ⊥) → (o : Option B) → Together R (Some x) o → ⊥
nothing_together R x none None h = h
nothing_together R x none (Some y) h = none y h

-- ---- what a row says of its file

abbrev row_contents : Effects → Contents
row_contents E = record {
  roots = map root_row_of E.roots;
  timestamp = option_map (numbered (λ t. t.version)) E.timestamp;
  snapshot = option_map (numbered (λ s. s.version)) E.snapshot;
  shelf = shelf_rows E.rows;
  blobs = E.blobs;
}

module _ {A : Type 0} (form : Form A) (version : A → ℕ) where
  row_of : (row : Option (ℕ × Bytes)) (o : Option (File A)) → Together (IsStored form version) row o → option_map (numbered version) o ≡ row
  row_of None None h = refl
  row_of None (Some f) h = absurd h
  row_of (Some r) None h = absurd h
  row_of (Some r) (Some f) h = ap Some h.is

  one_read : (row : Option (ℕ × Bytes)) (o : Option (File A)) → Together (IsStored form version) row o → IfSome o (IsFileOf form)
  one_read row None h = tt
  one_read None (Some f) h = absurd h
  one_read (Some r) (Some f) h = h.document

  one_stored : (o : Option (File A)) → IfSome o (IsFileOf form) → Together (IsStored form version) (option_map (numbered version) o) o
  one_stored None h = tt
  one_stored (Some f) h = record { document = h; is = refl }

roots_of : (rows : List (ℕ × (ℕ × Bytes))) (fs : List (File Root)) → AllZip IsStoredRoot rows fs → map root_row_of fs ≡ rows
roots_of [] [] h = refl
roots_of [] (f ∷ fs) h = absurd h
roots_of (r ∷ rs) [] h = absurd h
roots_of (r ∷ rs) (f ∷ fs) h = let here = h.0.is in let rest = roots_of rs fs h.1 in cc

roots_read : (rows : List (ℕ × (ℕ × Bytes))) (fs : List (File Root)) → AllZip IsStoredRoot rows fs → All (IsFileOf root_form) fs
roots_read [] [] h = All-nil (IsFileOf root_form)
roots_read [] (f ∷ fs) h = absurd h
roots_read (r ∷ rs) [] h = absurd h
roots_read (r ∷ rs) (f ∷ fs) h = All-cons (IsFileOf root_form) f fs h.0.document (roots_read rs fs h.1)

roots_stored : (fs : List (File Root)) → All (IsFileOf root_form) fs → AllZip IsStoredRoot (map root_row_of fs) fs
roots_stored [] h = tt
roots_stored (f ∷ fs) h = (record { document = All-head (IsFileOf root_form) f fs h; is = refl }, roots_stored fs (All-tail (IsFileOf root_form) f fs h))

shelf_of : (rows : List (Place × Bytes)) (held : Rows) → AllZip IsShelved rows held → shelf_rows held ≡ rows
shelf_of [] [] h = refl
shelf_of [] (f ∷ fs) h = absurd h
shelf_of (r ∷ rs) [] h = absurd h
shelf_of (r ∷ rs) (f ∷ fs) h = let here = h.0.is in let rest = shelf_of rs fs h.1 in cc

shelf_read : (rows : List (Place × Bytes)) (held : Rows) → AllZip IsShelved rows held → RowsAreRead held
shelf_read [] [] h = All-nil _
shelf_read [] (f ∷ fs) h = absurd h
shelf_read (r ∷ rs) [] h = absurd h
shelf_read (r ∷ rs) (f ∷ fs) h = All-cons (λ row. IsFileOf targets_form row.1) f fs h.0.document (shelf_read rs fs h.1)

shelved : (held : Rows) → All IsShelfRow held → AllZip IsShelved (shelf_rows held) held
shelved [] h = tt
shelved (f ∷ fs) h =
    let here = All-head IsShelfRow f fs h in
    (record { role = here.role; document = here.document; is = refl }, shelved fs (All-tail IsShelfRow f fs h))

pub stored_rows : (C : Contents) (E : Effects) → AreStored C E → row_contents E ≡ C
stored_rows C E h =
    same_contents (roots_of C.roots E.roots h.roots) (row_of timestamp_form (λ t. t.version) C.timestamp E.timestamp h.timestamp)
    (row_of snapshot_form (λ s. s.version) C.snapshot E.snapshot h.snapshot) (shelf_of C.shelf E.rows h.shelf) h.blobs
  where
    same_contents : {r r' : List (ℕ × (ℕ × Bytes))} {t t' s s' : Option (ℕ × Bytes)} {p p' : List (Place × Bytes)} {b b' : List (Bytes × Bytes)}
        → r ≡ r' → t ≡ t' → s ≡ s' → p ≡ p' → b ≡ b'
        → ◌≡◌ {A = Contents} (record { roots = r; timestamp = t; snapshot = s; shelf = p; blobs = b })
        (record { roots = r'; timestamp = t'; snapshot = s'; shelf = p'; blobs = b' })
    same_contents a c d e f = cc

pub stored_read : (C : Contents) (E : Effects) → AreStored C E → AreRead E
stored_read C E h = record {
  roots = roots_read C.roots E.roots h.roots;
  timestamp = one_read timestamp_form (λ t. t.version) C.timestamp E.timestamp h.timestamp;
  snapshot = one_read snapshot_form (λ s. s.version) C.snapshot E.snapshot h.snapshot;
  rows = shelf_read C.shelf E.rows h.shelf;
}

-- ---- roots rise by one

last_version : (f : File Root) (more : List (File Root)) (root : File Root) → FollowOn f more → last_or (Some f) more ≡ Some root
    → root.body.version ≡ f.body.version + length more
last_version f [] root follows e = let same : f ≡ root = some_same e in rw (sym same) (omega arith)
  where
    some_same : Some f ≡ Some root → f ≡ root
    some_same e = cc
last_version f (g ∷ gs) root follows e = omega (arith, last_version g gs root follows.1 e, follows.0.next)

module _ (T : Trusted) (v : ℕ) (is : unwrap_or (option_map (λ root. root.body.version) T.root) 0 ≡ v) (above : length T.roots ≤ v + 1) where
  rows_rise : (k : ℕ) (f : File Root) (more : List (File Root)) → FollowOn f more → v + k + 1 - length T.roots ≡ f.body.version
      → root_rows T k (map kept_root (f ∷ more)) ≡ map root_row_of (f ∷ more)
  rows_rise k f [] follows e = rw (is, e) refl
  rows_rise k f (g ∷ gs) follows e =
      let rest = rows_rise (suc k) g gs follows.1 (omega (arith, e, above, follows.0.next)) in
      rw (is, e) (ap (λ l. root_row_of f ∷ l) (rw is at rest))

-- ---- a state is that of its files

module _ (law : Shapes) where
  rooted : (E : Effects) (root : File Root) → All (IsFileOf root_form) E.roots → last_or None E.roots ≡ Some root
      → IsRootChain (map kept_root E.roots) root → root_rows (laid E).trusted 0 (map kept_root E.roots) ≡ map root_row_of E.roots
  rooted E root read last chain = of E.roots refl
    where
      of : (fs : List (File Root)) → fs ≡ E.roots → root_rows (laid E).trusted 0 (map kept_root fs) ≡ map root_row_of fs
      of [] e = refl
      of (f ∷ more) e =
          let all : All (IsFileOf root_form) (f ∷ more) = subst (λ (l : List (File Root)). All (IsFileOf root_form) l) (sym e) read in
          let ends : last_or None (f ∷ more) ≡ Some root = subst (λ (l : List (File Root)). last_or None l ≡ Some root) (sym e) last in
          let held : IfSome (last_or None (f ∷ more)) (IsRootChain (map kept_root (f ∷ more))) =
          rw ends (subst (λ (l : List (File Root)). IsRootChain (map kept_root l) root) (sym e) chain) in
          let is : IsChain (f ∷ more) = (chain_tells law (f ∷ more) all).1 held in
          let v = last_version f more root is.1 ends in
          let many : length (laid E).trusted.roots ≡ length (f ∷ more) = simp length-map (ap length (sym e)) in
          rows_rise (laid E).trusted root.body.version (rw last refl) (omega (arith, many, v)) 0 f more is.1 (omega (arith, many, v))

  pub contents_laid : (E : Effects) → All (IsFileOf root_form) E.roots → IsState (laid E) → contents_of (laid E) ≡ row_contents E
  contents_laid E read s = ap (λ (l : List (ℕ × (ℕ × Bytes))). record (row_contents E) { roots = l }) (of (last_or None E.roots) refl)
    where
      none_roots : (fs : List (File Root)) → last_or None fs ≡ None → fs ≡ []
      none_roots [] e = refl
      none_roots (f ∷ fs) e = absurd (some_last f fs e)
        where
          some_last : (f : File Root) (fs : List (File Root)) → last_or (Some f) fs ≡ None → ⊥
          some_last f [] e = let k : Some f ≡ None = e in cc
          some_last f (g ∷ gs) e = some_last g gs e

      of : (o : Option (File Root)) → last_or None E.roots ≡ o → root_rows (laid E).trusted 0 (map kept_root E.roots) ≡ map root_row_of E.roots
      of None e = subst (λ (l : List (File Root)). root_rows (laid E).trusted 0 (map kept_root l) ≡ map root_row_of l) (sym (none_roots E.roots e)) refl
      of (Some root) e = rooted E root read e (rw e at s.trusted.held).chain

all_more : {X : Type 0} (P : X → Type 0) (xs : List X) (x : X) → All P xs → P x → All P (xs ++ x ∷ [])
all_more P [] x all h = All-cons P x [] h (All-nil P)
all_more P (y ∷ ys) x all h = All-cons P y (ys ++ x ∷ []) (All-head P y ys all) (all_more P ys x (All-tail P y ys all) h)

record ChainFiles (bs : List (Profile × Bytes)) : Type 0 where
  files : List (File Root)
  are : map kept_root files ≡ bs
  read : All (IsFileOf root_form) files

chain_files : {bs : List (Profile × Bytes)} {root : File Root} → IsRootChain bs root → ChainFiles bs
chain_files (first {root = root} doc is meets) = record {
  files = root ∷ [];
  are = ap (λ (b : Bytes). (root.body.profile, b) ∷ []) is;
  read = All-cons (IsFileOf root_form) root [] doc (All-nil (IsFileOf root_form));
}
chain_files (then {bs = bs} {new = new} chain doc follows) =
    let before = chain_files chain in
    record {
      files = before.files ++ new ∷ [];
      are = map-append kept_root before.files (new ∷ []) ∙ ap (λ (l : List (Profile × Bytes)). l ++ kept_root new ∷ []) before.are;
      read = all_more (IsFileOf root_form) before.files new before.read doc;
    }

if_document : {A : Type 0} (P Q : A → Type 0) (o : Option A) → IfSome o (λ x. P x × Q x) → IfSome o P
if_document P Q None h = tt
if_document P Q (Some x) h = h.0

-- the files of a state
pub record FilesOf (S : State) : Type 0 where
  pub files : Effects
  pub is : laid files ≡ S
  pub stored : AreStored (contents_of S) files

stored_rows_of : (E : Effects) → AreRead E → All IsShelfRow E.rows → AreStored (row_contents E) E
stored_rows_of E read rows = record {
  roots = roots_stored E.roots read.roots;
  timestamp = one_stored timestamp_form (λ t. t.version) E.timestamp read.timestamp;
  snapshot = one_stored snapshot_form (λ s. s.version) E.snapshot read.snapshot;
  shelf = shelved E.rows rows;
  blobs = refl;
}

module _ (law : Shapes) where
  files_held : (S : State) (E : Effects) → IsState S → laid E ≡ S → AreRead E → FilesOf S
  files_held S E s is read =
      let there : IsState (laid E) = subst IsState (sym is) s in
      record {
        files = E;
        is = is;
        stored = subst (λ C. AreStored C E) (sym (contents_laid law E read.roots there) ∙ ap contents_of is) (stored_rows_of E read there.trusted.rows);
      }

  under_root : (S : State) → IsState S → (root : File Root) → S.trusted.root ≡ Some root → IsHeldUnder S.trusted root → FilesOf S
  under_root S s root e held =
      let c = chain_files held.chain in
      let ends = (back law held.chain c.files c.are c.read).1 in
      files_held S
      (record { roots = c.files; emptied = false; timestamp = S.trusted.timestamp; snapshot = S.trusted.snapshot; rows = S.trusted.shelf; blobs = S.blobs; gone = nothing_gone })
      s (same_state _ _ _ _ _ _ _ _ _ _ _ _ c.are (ends ∙ sym e) refl refl refl refl)
      (record {
        roots = c.read;
        timestamp = if_document (IsFileOf timestamp_form) (MeetsTop root root.body.timestamp) S.trusted.timestamp held.timestamp;
        snapshot = if_document (IsFileOf snapshot_form) (MeetsTop root root.body.snapshot) S.trusted.snapshot held.snapshot;
        rows = shelf_files S.trusted.shelf s.trusted.rows;
      })
    where
      shelf_files : (rows : Rows) → All IsShelfRow rows → RowsAreRead rows
      shelf_files [] all = All-nil _
      shelf_files (row ∷ rows) all =
          All-cons (λ r. IsFileOf targets_form r.1) row rows (All-head IsShelfRow row rows all).document (shelf_files rows (All-tail IsShelfRow row rows all))

  pub files_of : (S : State) → IsState S → FilesOf S
  files_of S s = of S.trusted.root refl
    where
      of : (o : Option (File Root)) → S.trusted.root ≡ o → FilesOf S
      of None e =
          let none : S.trusted ≡ nothing_trusted = subst (λ (r : Option (File Root)). IfNone r (S.trusted ≡ nothing_trusted)) e s.trusted.none in
          let bare : S.blobs ≡ [] = subst (λ (r : Option (File Root)). IfNone r (S.blobs ≡ [])) e s.none in
          files_held S no_effects s (sym (ap (λ (T : Trusted). record { trusted = T; blobs = S.blobs }) none ∙ ap (λ (b : List (Bytes × Bytes)). record { trusted = nothing_trusted; blobs = b }) bare))
          (record { roots = All-nil (IsFileOf root_form); timestamp = tt; snapshot = tt; rows = All-nil _ })
      of (Some root) e = under_root S s root e (subst (λ (r : Option (File Root)). IfSome r (IsHeldUnder S.trusted)) e s.trusted.held)

-- ---- rows have one state

zip_once : {A B : Type 0} (R : A → B → Type 0) → ((x : A) (y z : B) → R x y → R x z → y ≡ z) → (xs : List A) (ys zs : List B)
    → AllZip R xs ys → AllZip R xs zs → ys ≡ zs
zip_once R once [] [] [] h k = refl
zip_once R once [] [] (z ∷ zs) h k = absurd k
zip_once R once [] (y ∷ ys) zs h k = absurd h
zip_once R once (x ∷ xs) [] zs h k = absurd h
zip_once R once (x ∷ xs) (y ∷ ys) [] h k = absurd k
zip_once R once (x ∷ xs) (y ∷ ys) (z ∷ zs) h k = let here = once x y z h.0 k.0 in let rest = zip_once R once xs ys zs h.1 k.1 in cc

together_once : {A B : Type 0} (R : A → B → Type 0) → ((x : A) (y z : B) → R x y → R x z → y ≡ z) → (x : Option A) (y z : Option B)
    → Together R x y → Together R x z → y ≡ z
together_once R once None None None h k = refl
together_once R once None None (Some z) h k = absurd k
together_once R once None (Some y) z h k = absurd h
together_once R once (Some x) None z h k = absurd h
together_once R once (Some x) (Some y) None h k = absurd k
together_once R once (Some x) (Some y) (Some z) h k = ap Some (once x y z h k)

module _ (law : Shapes) where
  stored_once : {A : Type 0} (form : Form A) → Tells form → (version : A → ℕ) (row : ℕ × Bytes) (f g : File A)
      → IsStored form version row f → IsStored form version row g → f ≡ g
  stored_once form tells version row f g h k = file-once law form tells f g h.document k.document (ap (λ r. r.1) (h.is ∙ sym k.is))

  root_once : (row : ℕ × (ℕ × Bytes)) (f g : File Root) → IsStoredRoot row f → IsStoredRoot row g → f ≡ g
  root_once row f g h k = file-once law root_form root-tells f g h.document k.document (ap (λ r. r.1.1) (h.is ∙ sym k.is))

  shelved_once : (row : Place × Bytes) (f g : Place × File Targets) → IsShelved row f → IsShelved row g → f ≡ g
  shelved_once row f g h k =
      let same = h.is ∙ sym k.is in
      let places : f.0 ≡ g.0 = ap (λ r. r.0) same in
      let files : f.1 ≡ g.1 = file-once law targets_form targets-tells f.1 g.1 h.document k.document (ap (λ r. r.1) same) in
      both f.0 g.0 f.1 g.1 places files
    where
      both : (p q : Place) (a b : File Targets) → p ≡ q → a ≡ b → ◌≡◌ {A = Place × File Targets} (p, a) (q, b)
      both p q a b e i = ap (λ (z : Place). (z, a)) e ∙ ap (λ (z : File Targets). (q, z)) i

  pub laid_once : (C : Contents) (E F : Effects) → AreStored C E → AreStored C F → laid E ≡ laid F
  laid_once C E F h k =
      let roots : E.roots ≡ F.roots = zip_once IsStoredRoot root_once C.roots E.roots F.roots h.roots k.roots in
      same_state _ _ _ _ _ _ _ _ _ _ _ _ (ap (map kept_root) roots) (ap (last_or None) roots)
      (together_once (IsStored timestamp_form (λ t. t.version)) (stored_once timestamp_form timestamp-tells (λ t. t.version)) C.timestamp E.timestamp F.timestamp h.timestamp k.timestamp)
      (together_once (IsStored snapshot_form (λ s. s.version)) (stored_once snapshot_form snapshot-tells (λ s. s.version)) C.snapshot E.snapshot F.snapshot h.snapshot k.snapshot)
      (zip_once IsShelved shelved_once C.shelf E.rows F.rows h.shelf k.shelf)
      (h.blobs ∙ sym k.blobs)

  -- where the rows spell no files, or these are no state's, no state has the rows
  pub no_state : (C : Contents) → ((E : Effects) → AreStored C E → IsState (laid E) → ⊥) → (S : State) → IsState S → contents_of S ≡ C → ⊥
  no_state C none S s e =
      let held = files_of law S s in
      none held.files (subst (λ D. AreStored D held.files) e held.stored) (subst IsState (sym held.is) s)

  pub loaded_is : (C : Contents) (E : Effects) → AreStored C E → IsState (laid E) → contents_of (laid E) ≡ C
  loaded_is C E h s = contents_laid law E (stored_read C E h).roots s ∙ stored_rows C E h

  -- rows are those of at most one state
  pub one_state : (S T : State) → IsState S → IsState T → contents_of S ≡ contents_of T → S ≡ T
  one_state S T s t e =
      let f = files_of law S s in
      let g = files_of law T t in
      sym f.is ∙ (laid_once (contents_of T) f.files g.files (subst (λ C. AreStored C f.files) e f.stored) g.stored ∙ g.is)

-- ---- the files of the rows of the metadata, and the blobs

pub with_blobs_stored : {C : Contents} {E : Effects} {blobs : List (Bytes × Bytes)} {gone : Gone} → AreStored (record C { blobs = [] }) E → blobs ≡ C.blobs
    → AreStored C (record E { blobs = blobs; gone = gone })
with_blobs_stored h e = record { roots = h.roots; timestamp = h.timestamp; snapshot = h.snapshot; shelf = h.shelf; blobs = e }

pub without_blobs_stored : {C : Contents} {E : Effects} → AreStored C E → AreStored (record C { blobs = [] }) (record E { blobs = [] })
without_blobs_stored h = record { roots = h.roots; timestamp = h.timestamp; snapshot = h.snapshot; shelf = h.shelf; blobs = refl }

-- ---- what an answer says, said otherwise

pub ok_some : {T E : Type 0} (P Q : T → Type 0) → ((x : T) → P x → Q x) → (r : Result (Option T) E) → IfOk r (λ o. IfSome o P) → IfOk r (λ o. IfSome o Q)
ok_some P Q f (Ok (Some x)) h = f x h
ok_some P Q f (Ok None) h = tt
ok_some P Q f (Err e) h = tt

pub ok_none : {T E : Type 0} (P Q : Type 0) → (P → Q) → (r : Result (Option T) E) → IfOk r (λ o. IfNone o P) → IfOk r (λ o. IfNone o Q)
ok_none P Q f (Ok (Some x)) h = tt
ok_none P Q f (Ok None) h = f h
ok_none P Q f (Err e) h = tt

-- ---- new roots leave the rows of those before as they are

module _ (law : Shapes) where
  apart : (fs gs : List (File Root)) (more : List (Profile × Bytes)) (r r' : File Root) → All (IsFileOf root_form) fs → All (IsFileOf root_form) gs
      → IsChain fs → IsChain gs → last_or None fs ≡ Some r → last_or None gs ≡ Some r'
      → map kept_root gs ≡ map kept_root fs ++ more → r'.body.version ≡ r.body.version + length more
  apart [] gs more r r' read read' chain chain' e e' b = absurd (let k : ◌≡◌ {A = Option (File Root)} None (Some r) = e in cc)
  apart (f ∷ fs) [] more r r' read read' chain chain' e e' b = absurd (let k : ◌≡◌ {A = Option (File Root)} None (Some r') = e' in cc)
  apart (f ∷ fs) (g ∷ gs) more r r' read read' chain chain' e e' b =
      let list : kept_root g ∷ map kept_root gs ≡ kept_root f ∷ (map kept_root fs ++ more) = b in
      let head : kept_root g ≡ kept_root f = cc in
      let tail : map kept_root gs ≡ map kept_root fs ++ more = cc in
      let same : g ≡ f = file-once law root_form root-tells g f (All-head (IsFileOf root_form) g gs read') (All-head (IsFileOf root_form) f fs read) (ap (λ x. x.1) head) in
      let many : length gs ≡ length fs + length more = simp (length-map, length-append) at (ap length tail) in
      let version : g.body.version ≡ f.body.version = ap (λ (x : File Root). x.body.version) same in
      omega (arith, many, version, last_version f fs r chain.1 e, last_version g gs r' chain'.1 e')

  versions_apart : (bs more : List (Profile × Bytes)) (r r' : File Root) → IsRootChain bs r → IsRootChain (bs ++ more) r' → r'.body.version ≡ r.body.version + length more
  versions_apart bs more r r' chain chain' =
      let c = chain_files chain in
      let d = chain_files chain' in
      let b = back law chain c.files c.are c.read in
      let b' = back law chain' d.files d.are d.read in
      apart c.files d.files more r r' c.read d.read b.0 b'.0 b.1 b'.1 (d.are ∙ ap (λ (l : List (Profile × Bytes)). l ++ more) (sym c.are))

  -- the version of a root does not change when more follow it
  version_stays : (T U : Trusted) (more : List (Profile × Bytes)) → IfSome T.root (IsHeldUnder T) → IfSome U.root (IsHeldUnder U) → IsSome T.root → IsSome U.root
      → U.roots ≡ T.roots ++ more → (k : ℕ) → root_version U k ≡ root_version T k
  version_stays T U more held held' some some' are k = of T.root U.root refl refl
    where
      of : (o o' : Option (File Root)) → T.root ≡ o → U.root ≡ o' → root_version U k ≡ root_version T k
      of None o' e e' = absurd (true≢false (sym (subst IsSome e some)))
      of (Some r) None e e' = absurd (true≢false (sym (subst IsSome e' some')))
      of (Some r) (Some r') e e' =
          let chain = (subst (λ (o : Option (File Root)). IfSome o (IsHeldUnder T)) e held).chain in
          let chain' = (subst (λ (o : Option (File Root)). IfSome o (IsHeldUnder U)) e' held').chain in
          let v = versions_apart T.roots more r r' chain (subst (λ (l : List (Profile × Bytes)). IsRootChain l r') are chain') in
          let many : length U.roots ≡ length T.roots + length more = ap length are ∙ length-append T.roots more in
          rw (e, e') (omega (arith, v, many))

  same_rows : (T U : Trusted) → ((k : ℕ) → root_version U k ≡ root_version T k) → (k : ℕ) (bs : List (Profile × Bytes)) → root_rows U k bs ≡ root_rows T k bs
  same_rows T U same k [] = refl
  same_rows T U same k (b ∷ bs) = rw (same k, same_rows T U same (suc k) bs) refl

rows_join : (T : Trusted) (k : ℕ) (bs cs : List (Profile × Bytes)) → root_rows T k (bs ++ cs) ≡ root_rows T k bs ++ root_rows T (k + length bs) cs
rows_join T k [] cs = ap (λ n. root_rows T n cs) (omega arith)
rows_join T k (b ∷ bs) cs = ap (λ (l : List (ℕ × (ℕ × Bytes))). (root_version T k, (profile_number b.0, b.1)) ∷ l) (rows_join T (suc k) bs cs ∙ ap (λ n. root_rows T (suc k) bs ++ root_rows T n cs) (omega arith))

module _ (law : Shapes) where
  pub rows_stay : (S : State) (E : Effects) → IsState S → IsState (applied S E)
      → (contents_of (applied S E)).roots ≡ (contents_of S).roots ++ root_rows (applied S E).trusted (length S.trusted.roots) (map kept_root E.roots)
  rows_stay S E s t =
      let U = (applied S E).trusted in
      let bs = map kept_root E.roots in
      let from : 0 + length S.trusted.roots ≡ length S.trusted.roots = omega arith in
      rows_join U 0 S.trusted.roots bs
      ∙ (ap (λ n. root_rows U 0 S.trusted.roots ++ root_rows U n bs) from ∙ ap (λ (l : List (ℕ × (ℕ × Bytes))). l ++ root_rows U (length S.trusted.roots) bs) (of S.trusted.root refl))
    where
      some_after : (o : Option (File Root)) (rs : List (File Root)) → IsSome o → IsSome (last_or o rs)
      some_after o [] h = h
      some_after o (r ∷ rs) h = some_after (Some r) rs refl

      of : (o : Option (File Root)) → S.trusted.root ≡ o → root_rows (applied S E).trusted 0 S.trusted.roots ≡ root_rows S.trusted 0 S.trusted.roots
      of None e =
          let none : S.trusted ≡ nothing_trusted = subst (λ (r : Option (File Root)). IfNone r (S.trusted ≡ nothing_trusted)) e s.trusted.none in
          let no_roots : S.trusted.roots ≡ [] = ap (λ (T : Trusted). T.roots) none in
          rw no_roots refl
      of (Some r) e =
          same_rows law S.trusted (applied S E).trusted
          (version_stays law S.trusted (applied S E).trusted (map kept_root E.roots) s.trusted.held t.trusted.held
          (subst IsSome (sym e) refl) (some_after S.trusted.root E.roots (subst IsSome (sym e) refl)) refl)
          0 S.trusted.roots
