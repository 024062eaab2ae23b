-- The shelf of targets documents, and which of its rows a snapshot names.
use Rattle.std.specs.Prelude.{◌≡◌, ℕ, Bool, true, cond, ◌&&◌, ◌||◌, List, [], ◌∷◌, length, Option, Some, None, bytes_eq, nat_eq, nat_lt, option_map, option_and_then, unwrap_or, AllPairs, IsTrue, IfSome}
use Rattle.std.specs.List.{AllByRecursion}
use Rattle.sha2.specs.Sha256.{sha256}
use Rattle.keys_roles.specs.Plain.{look_up}
use Rattle.document_parts.specs.Documents.{Snapshot, Targets, MetaFile}
use Rattle.metadata.specs.File.{Bytes, Name, File}
use Rattle.delegations.specs.Delegation.{before}

-- a shelf place: a role and a version
abbrev pub Place : Type 0
Place = Name × ℕ

abbrev pub same_place : Place → Place → Bool
same_place p q = bytes_eq p.0 q.0 && nat_eq p.1 q.1

abbrev pub place_before : Place → Place → Bool
place_before p q = before p.0 q.0 || (bytes_eq p.0 q.0 && nat_lt p.1 q.1)

-- a map as the list of its rows in the order of their keys: the value at a key, and the rows
-- with one more, whose key is new
abbrev pub value_at : {K A : Type 0} → (K → K → Bool) → List (K × A) → K → Option A
value_at same [] key = None
value_at same (row ∷ rows) key = cond (same row.0 key) (Some row.1) (value_at same rows key)

abbrev pub with_row : {K A : Type 0} → (K → K → Bool) → List (K × A) → K → A → List (K × A)
with_row below [] key value = (key, value) ∷ []
with_row below (row ∷ rows) key value =
    cond (below key row.0) ((key, value) ∷ (row ∷ rows)) (row ∷ with_row below rows key value)

abbrev pub Rises : {K A : Type 0} → (K → K → Bool) → List (K × A) → Type 0
Rises below rows = AllPairs (λ a b. IsTrue (below a.0 b.0)) rows

abbrev pub Rows : Type 0
Rows = List (Place × File Targets)

-- each document on the shelf is so
abbrev pub AllFiles : (File Targets → Type 0) → Rows → Type 0
AllFiles P rows = AllByRecursion (λ row. P row.1) rows

abbrev pub row_at : Rows → Name → ℕ → Option (File Targets)
row_at shelf role version = value_at same_place shelf (role, version)

abbrev pub entry_of : File Snapshot → Name → Option MetaFile
entry_of snap role = look_up snap.body.meta role

-- the bytes have the length that the entry gives, where it gives one, and the hash
abbrev pub HasLength : MetaFile → Bytes → Type 0
HasLength e b = IfSome e.len (λ n. length b ≡ n)

abbrev pub HasHash : MetaFile → Bytes → Type 0
HasHash e b = IfSome e.digest (λ h. sha256 b ≡ h)

-- the document of a role: the row at the listed version, if the snapshot's entry names it. As a test, for the search
abbrev pub has_length : MetaFile → Bytes → Bool
has_length e b = unwrap_or (option_map (λ n. nat_eq (length b) n) e.len) true

abbrev pub has_hash : MetaFile → Bytes → Bool
has_hash e b = unwrap_or (option_map (λ h. bytes_eq (sha256 b) h) e.digest) true

abbrev pub named_row : Rows → Name → MetaFile → Option (File Targets)
named_row shelf role e =
    option_and_then (λ file. cond (has_length e file.bytes && has_hash e file.bytes) (Some file) None) (row_at shelf role e.version)

-- the rows with some more, one after the other
abbrev pub with_rows : Rows → Rows → Rows
with_rows rows [] = rows
with_rows rows (row ∷ more) = with_rows (with_row place_before rows row.0 row.1) more
