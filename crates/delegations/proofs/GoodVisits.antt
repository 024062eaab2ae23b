-- A visit ends in the document of its edge exactly where that document is good.
use Rattle.std.proofs.Common.{◌≡◌, ◌↔◌, ℕ, IsTrue, IfSome, Bool, true, false, cond, Option, Some, None, Ok, refl, sym, ap, ◌∙◌, subst, length}
use Rattle.std.proofs.lemmas.Bool.{and_from, and_parts}
use Rattle.std.proofs.lemmas.Bool.Decides.{Decides-eqb}
use Rattle.std.proofs.lemmas.Slice.Eq.{bytes_eq-Decides}
use Rattle.std.specs.Prelude.{◌&&◌, nat_eq, bytes_eq, option_map, option_and_then, unwrap_or}
use Rattle.sha2.specs.Sha256.{sha256}
use Rattle.keys_roles.specs.Plain.{look_up}
use Rattle.document_parts.specs.Documents.{Targets, MetaFile}
use Rattle.metadata.specs.File.{Bytes, Name, File}
use Rattle.denials.specs.Numbers as no
use Rattle.denials.specs.Orders.{Denial, Plain, RoleMissing, pass, holds, given, need_or, check}
use Rattle.delegations.specs.Delegation.{Edge}
use Rattle.delegations.specs.Search.{Shelf, Good, doc, visit}
use Rattle.delegations.specs.Rows.{row_at, HasLength, HasHash, has_length, has_hash, named_row}
use Rattle.delegations.proofs.Visits.{good}

-- ---- what the entry says of the bytes, as a fact and as a test

length_tells : (n : Option ℕ) (m : ℕ) → IfSome n (λ k. m ≡ k) ↔ IsTrue (unwrap_or (option_map (λ k. nat_eq m k) n) true)
length_tells None m = (λ h. refl, λ h. tt)
length_tells (Some k) m = ((Decides-eqb m k).1, (Decides-eqb m k).0)

hash_tells : (o : Option Bytes) (b : Bytes) → IfSome o (λ h. b ≡ h) ↔ IsTrue (unwrap_or (option_map (λ h. bytes_eq b h) o) true)
hash_tells None b = (λ h. refl, λ h. tt)
hash_tells (Some h) b = ((bytes_eq-Decides b h).1, (bytes_eq-Decides b h).0)

-- ---- the lines of a visit that gave a value

-- the value that was there
there : {A : Type 0} (d : Denial) (o : Option A) (a : A) → need_or d o (Ok a) → o ≡ Some a
there d None a h = elim h [ ]
there d (Some b) a given = refl

-- the fact that was checked
held : (n : ℕ) (P : Type 0) → check n P (Ok tt) → P
held n P (holds p) = p

module _ (V : Shelf) (e : Edge) (now : ℕ) where
  -- the row that the entry names is a document of the edge
  named : (m : MetaFile) (file : File Targets) → look_up V.listing e.role ≡ Some m → row_at V.rows e.role m.version ≡ Some file
      → HasLength m file.bytes → HasHash m file.bytes → doc V e.role ≡ Some file
  named m file listed found len hash =
      let tested = and_from (has_length m file.bytes) (has_hash m file.bytes) ((length_tells m.len (length file.bytes)).0 len) ((hash_tells m.digest (sha256 file.bytes)).0 hash) in
      ap (option_and_then (named_row V.rows e.role)) listed
      ∙ ap (option_and_then (λ (f : File Targets). cond (has_length m f.bytes && has_hash m f.bytes) (Some f) None)) found
      ∙ ap (λ (b : Bool). cond b (Some file) None) tested

  good_of : (file : File Targets) → visit V e now (Ok file) → (g : Good V e now) × (g.file ≡ file)
  good_of file (pass {a = m} listed (pass {a = f} found (pass (holds len) (pass (holds hash) (pass (holds meets) (pass (holds live) given)))))) = (
    record {
      file = f;
      there = named m f (there (Plain no.role_unlisted) (look_up V.listing e.role) m listed) (there (RoleMissing e.role m.version) (row_at V.rows e.role m.version) f found) len hash;
      meets = meets;
      live = live;
    },
    refl,
  )

  -- what the document of a role is
  record Named (role : Name) (file : File Targets) : Type 0 where
    pub entry : MetaFile
    pub listed : look_up V.listing role ≡ Some entry
    pub found : row_at V.rows role entry.version ≡ Some file
    pub len : HasLength entry file.bytes
    pub hash : HasHash entry file.bytes

  named_of : (role : Name) (file : File Targets) → doc V role ≡ Some file → Named role file
  named_of role file is = of_entry (look_up V.listing role) refl is
    where
      of_test : (m : MetaFile) (f : File Targets) → look_up V.listing role ≡ Some m → row_at V.rows role m.version ≡ Some f
          → (b : Bool) → (has_length m f.bytes && has_hash m f.bytes) ≡ b → cond b (Some f) None ≡ Some file → Named role file
      of_test m f listed found false t h = cc
      of_test m f listed found true t h =
          let same : f ≡ file = cc in
          let parts = and_parts (has_length m f.bytes) (has_hash m f.bytes) t in
          record {
            entry = m;
            listed = listed;
            found = found ∙ ap Some same;
            len = subst (λ (x : File Targets). HasLength m x.bytes) same ((length_tells m.len (length f.bytes)).1 parts.0);
            hash = subst (λ (x : File Targets). HasHash m x.bytes) same ((hash_tells m.digest (sha256 f.bytes)).1 parts.1);
          }

      of_row : (m : MetaFile) → look_up V.listing role ≡ Some m → (o : Option (File Targets)) → row_at V.rows role m.version ≡ o
          → option_and_then (λ (f : File Targets). cond (has_length m f.bytes && has_hash m f.bytes) (Some f) None) o ≡ Some file → Named role file
      of_row m listed None found h = cc
      of_row m listed (Some f) found h = of_test m f listed found (has_length m f.bytes && has_hash m f.bytes) refl h

      of_entry : (o : Option MetaFile) → look_up V.listing role ≡ o → option_and_then (named_row V.rows role) o ≡ Some file → Named role file
      of_entry None listed h = cc
      of_entry (Some m) listed h = of_row m listed (row_at V.rows role m.version) refl h

  of_good : (file : File Targets) → ((g : Good V e now) × (g.file ≡ file)) → visit V e now (Ok file)
  of_good file h =
      let g = h.0 in
      let n = named_of e.role g.file g.there in
      subst (λ (x : File Targets). visit V e now (Ok x)) h.1 (good V e now n.entry (sym n.listed) g.file (sym n.found) n.len n.hash g.meets g.live)

pub visits_good : (V : Shelf) (e : Edge) (now : ℕ) (file : File Targets) → visit V e now (Ok file) ↔ ((g : Good V e now) × (g.file ≡ file))
visits_good V e now file = (good_of V e now file, of_good V e now file)

-- the document stands on the shelf, at the version that is listed
pub found_row : (V : Shelf) (e : Edge) (now : ℕ) (file : File Targets) → visit V e now (Ok file) → (version : ℕ) × (row_at V.rows e.role version ≡ Some file)
found_row V e now file h =
    let g = good_of V e now file h in
    let n = named_of V e now e.role file (subst (λ (f : File Targets). doc V e.role ≡ Some f) g.1 g.0.there) in
    (n.entry.version, n.found)

-- the role of an edge that is good is listed
pub listed_of : (V : Shelf) (e : Edge) (now : ℕ) → Good V e now → (m : MetaFile) × (look_up V.listing e.role ≡ Some m)
listed_of V e now g = let n = named_of V e now e.role g.file g.there in (n.entry, n.listed)
