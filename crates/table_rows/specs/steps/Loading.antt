-- What is read of a table, and what a read changes: nothing.
use Rattle.std.specs.Prelude.{◌≡◌, ◌≢◌, ◌⊎◌, ℕ, pos, Bool, true, false, length, map, MatchOption, Result, OnOk, string_bytes, List, [], ◌∷◌, ◌++◌, Option, Some, None, IsUtf8, codes, if◌then◌else◌}
use Rattle.std.specs.Ordering.{nat_cmp}
use Rattle.std.proofs.Common.{Vec, Global}
use Rattle.std.specs.declared.string.String.{String}
use Rattle.hex.specs.Hex.{encode_lower}
use Rattle.sha2.specs.Sha256.{sha256}
use Rattle.sqlite.specs.declared.types.Value.TheVariants.{Int, Text, Blob}
use Rattle.sqlite.specs.Order.{Row, column}
use Rattle.sqlite.specs.Held.{Held, state}
use Rattle.sqlite.specs.State.{HasCleanDisk, IsUnchanged, Survives}
use Rattle.sqlite.specs.Schema.{Schema}
use Rattle.sqlite_trees.specs.Tree.{Trees}
use Rattle.sqlite_trees.specs.declared.store.Store.{Ghosts}
use Rattle.std.specs.declared.cmp.Ordering.{Ordering}
use Rattle.sqlite_rules.specs.Lists.{Has}
use Rattle.repository_rows.specs.Contents.{slot_view}
use Rattle.repository_rows.specs.declared.MetadataRows.{MetadataRows}
use Rattle.table_rows.specs.declared.loading.Taken.{Taken}
use Rattle.table_rows.specs.Rows.{root_cells, root2_cells, current_cells, shelf_cells, blob_cells, version_cells}
use Rattle.std.specs.Cmp.Lexicographic.{slice_cmp}
use Rattle.repository_rows.specs.Contents.{Contents}
use Rattle.table_rows.specs.Tables.{IsVersion, IsDigest, row_cmp}
use Rattle.sql_tables.specs.Loading.{AreGathered, AreLoaded, AreOrdered, AreRead, AreSpoiled, ComeOnce, HasGathered, rises, with_rowid}

-- A read of tables that are so: at Ok all is as it was, and whatever it answers, it commits nothing and begins no transaction.
pub record IsReadOnly {S A E : Type 0} (g : Ghosts S) (old new : Held S) (AreSo : Schema → Type 0) (result : Result A E) : Type 0 where
  pub unchanged : HasCleanDisk (state g new) → AreSo (state g old).now.schema → OnOk result (IsUnchanged (state g old) (state g new))
  pub mode : old.in_transaction ≡ false → new.in_transaction ≡ false
  pub survives : Survives (state g old) (state g new) (λ _. ⊥)

-- ---- the items of a table: a key and a value each

-- of `root2`
abbrev pub IsRootRow : Row → ℕ × (ℕ × List ℕ) → Type 0
IsRootRow x r = (column x 0 ≡ Int (pos r.0)) × (column x 1 ≡ Int (pos r.1.0)) × (column x 2 ≡ Blob r.1.1)

abbrev pub FitsRoot : ℕ × (ℕ × List ℕ) → Type 0
FitsRoot r = IsVersion r.0 × IsVersion r.1.0

-- of `root`, where each root has profile 1
abbrev pub IsFirstRow : Row → ℕ × (ℕ × List ℕ) → Type 0
IsFirstRow x r = (column x 0 ≡ Int (pos r.0)) × (column x 1 ≡ Blob r.1.1)

abbrev pub FitsFirst : ℕ × (ℕ × List ℕ) → Type 0
FitsFirst r = IsVersion r.0 × (r.1.0 ≡ 1)

abbrev pub IsSlotRow : Row → List ℕ × (ℕ × List ℕ) → Type 0
IsSlotRow x r = (column x 0 ≡ Text r.0) × (column x 1 ≡ Int (pos r.1.0)) × (column x 2 ≡ Blob r.1.1)

abbrev pub slot_name : Bool → List ℕ
slot_name is_timestamp = if is_timestamp then codes "timestamp" else codes "snapshot"

abbrev pub FitsSlot : List ℕ × (ℕ × List ℕ) → Type 0
FitsSlot r = ((r.0 ≡ codes "timestamp") ⊎ (r.0 ≡ codes "snapshot")) × IsVersion r.1.0

abbrev pub IsShelfRow : Row → (List ℕ × ℕ) × List ℕ → Type 0
IsShelfRow x r = (column x 0 ≡ Text r.0.0) × (column x 1 ≡ Int (pos r.0.1)) × (column x 2 ≡ Blob r.1)

abbrev pub FitsShelf : (List ℕ × ℕ) × List ℕ → Type 0
FitsShelf r = IsUtf8 r.0.0 × IsVersion r.0.1

abbrev pub IsBlobRow : Row → List ℕ × List ℕ → Type 0
IsBlobRow x r = (column x 0 ≡ Text (encode_lower r.0)) × (column x 1 ≡ Blob r.1)

abbrev pub FitsBlob : List ℕ × List ℕ → Type 0
FitsBlob r = IsDigest r.0

-- the bytes of the row have this digest and length
abbrev pub IsLengthRow : Row → List ℕ × ℕ → Type 0
IsLengthRow x r = (bytes : List ℕ) × IsBlobRow x (r.0, bytes) × (length bytes ≡ r.1) × (sha256 bytes ≡ r.0)

abbrev pub FitsLength : List ℕ × ℕ → Type 0
FitsLength r = IsDigest r.0

-- no text comes twice in the first column
abbrev pub AreSingle : List Row → Type 0
AreSingle rows = (x y : Row) (d : List ℕ) → Has rows x → Has rows y → column x 0 ≡ Text d → column y 0 ≡ Text d → x ≡ y

-- the items of `current`
abbrev pub slot_items : List ℕ → Option (ℕ × List ℕ) → List (List ℕ × (ℕ × List ℕ))
slot_items slot None = []
slot_items slot (Some r) = (slot, r) ∷ []

abbrev pub current_items : Option (ℕ × List ℕ) → Option (ℕ × List ℕ) → List (List ℕ × (ℕ × List ℕ))
current_items timestamp snapshot = slot_items (codes "timestamp") timestamp ++ slot_items (codes "snapshot") snapshot

-- the row of `schema` is that of this version
abbrev pub IsOf : ℕ → Row → Type 0
IsOf n x = column x 0 ≡ Int (pos n)

-- what was made of the rows of `current`: two slots, unless they are spoiled
pub record HaveSlots (rows : List Row) (timestamp snapshot : Option (ℕ × List ℕ)) (is_spoiled : Bool) : Type 0 where
  pub whole : is_spoiled ≡ false → AreRead IsSlotRow FitsSlot rows (current_items timestamp snapshot)
  pub spoiled : is_spoiled ≡ true → AreSpoiled IsSlotRow FitsSlot rows

-- whether the rows of `schema` are all those of this version
pub record AreAll (n : ℕ) (rows : List Row) (are : Bool) : Type 0 where
  pub each : are ≡ true → (r : Row) → Has rows r → IsOf n r
  pub other : are ≡ false → (r : Row) × Has rows r × (IsOf n r → ⊥)

-- what was told of the rows of `schema`
pub record AreVersions (rows : List Row) (is_begun is_first is_second : Bool) : Type 0 where
  pub some : is_begun ≡ true → rows ≢ []
  pub none : is_begun ≡ false → rows ≡ []
  pub first : AreAll 1 rows is_first
  pub second : AreAll 2 rows is_second

-- ---- all tables

-- what the queries answer
pub record QueriedRows : Type 0 where
  pub root : List Row
  pub current : List Row
  pub shelf : List Row
  pub blob : List Row
  pub version : List Row
  pub root2 : List Row

pub record AreQueried (trees : Trees) (a : QueriedRows) : Type 0 where
  pub root : AreLoaded root_cells (rises ∷ []) (trees 0) a.root
  pub current : AreLoaded (with_rowid current_cells) [] (trees 1) a.current
  pub shelf : AreLoaded (with_rowid shelf_cells) (rises ∷ rises ∷ []) (trees 3) a.shelf
  pub blob : AreLoaded (with_rowid blob_cells) (rises ∷ []) (trees 5) a.blob
  pub version : AreLoaded version_cells [] (trees 7) a.version
  pub root2 : AreLoaded root2_cells (rises ∷ []) (trees 8) a.root2

-- the rowids of each answer come once
pub record AllComeOnce (a : QueriedRows) : Type 0 where
  pub root : ComeOnce 0 a.root
  pub current : ComeOnce 3 a.current
  pub shelf : ComeOnce 3 a.shelf
  pub blob : ComeOnce 2 a.blob
  pub version : ComeOnce 0 a.version
  pub root2 : ComeOnce 0 a.root2

-- the items of the code
abbrev pub root_shows : ℕ × ℕ × Vec ℕ Global → ℕ × (ℕ × List ℕ)
root_shows r = (r.0, (r.1, r.2.items))

abbrev pub document_shows : String Global × ℕ × Vec ℕ Global → (List ℕ × ℕ) × List ℕ
document_shows r = ((string_bytes r.0, r.1), r.2.items)

abbrev pub length_shows : List ℕ × ℕ → List ℕ × ℕ
length_shows r = r

-- the items of the rows, and none only where they are spoiled; that keys rise is known of rows that come in their order
abbrev pub IsGathered : {K V T : Type 0} → (K → K → Ordering) → (Row → K × V → Type 0) → (K × V → Type 0) → (T → K × V) → List Row → Option (Vec T Global) → Type 0
IsGathered cmp Reads Fits shows rows o = MatchOption o (AreOrdered cmp Reads Fits rows → AreSpoiled Reads Fits rows) (λ v. AreGathered cmp Reads Fits rows (map shows v.items))

-- what was gathered of the rows of `blob`
abbrev pub HasFiles : List Row → List (List ℕ × ℕ) → Bool → Type 0
HasFiles rows items is_spoiled = HasGathered (slice_cmp nat_cmp) IsLengthRow FitsLength rows (map length_shows items) is_spoiled

-- the row is that of the digest and the bytes, which need not have it
abbrev pub IsHeld : Row → List ℕ × Vec ℕ Global → Type 0
IsHeld r h = IsBlobRow r (h.0, h.1.items) × IsDigest h.0

abbrev pub AreHeld : List Row → List (List ℕ × Vec ℕ Global) → Type 0
AreHeld [] [] = Unit {0}
AreHeld [] (h ∷ held) = ⊥
AreHeld (r ∷ rows) [] = ⊥
AreHeld (r ∷ rows) (h ∷ held) = IsHeld r h × AreHeld rows held

-- of the rows that have come, the last are held, and those before them were gathered
pub record HaveCome (rows : List Row) (items : List (List ℕ × ℕ)) (is_spoiled : Bool) (held : List (List ℕ × Vec ℕ Global)) : Type 0 where
  pub before : List Row
  pub late : List Row
  pub all : rows ≡ before ++ late
  pub files : HasFiles before items is_spoiled
  pub are : AreHeld late held

-- what was made of the answers
pub record AreTaken (a : QueriedRows) (t : Taken) : Type 0 where
  pub root : IsGathered nat_cmp IsFirstRow FitsFirst root_shows a.root t.first_roots
  pub current : HaveSlots a.current (slot_view t.current.timestamp) (slot_view t.current.snapshot) t.current.is_spoiled
  pub shelf : IsGathered row_cmp IsShelfRow FitsShelf document_shows a.shelf t.shelf
  pub blob : IsGathered (slice_cmp nat_cmp) IsLengthRow FitsLength length_shows a.blob t.blobs
  pub version : AreVersions a.version t.versions.is_begun t.versions.is_first t.versions.is_second
  pub root2 : IsGathered nat_cmp IsRootRow FitsRoot root_shows a.root2 t.roots

-- The roots under schema 1, or under schema 2: those of the one table, and the other has none. Without a row of `schema` it is as under 2.
abbrev pub AreRoots : Bool → QueriedRows → List (ℕ × (ℕ × List ℕ)) → Type 0
AreRoots true a roots = AreGathered nat_cmp IsFirstRow FitsFirst a.root roots × (a.root2 ≡ [])
AreRoots false a roots = AreGathered nat_cmp IsRootRow FitsRoot a.root2 roots × (a.root ≡ [])

-- the items of the answers
pub record AreItems (is_first : Bool) (a : QueriedRows) (m : MetadataRows) (lengths : List (List ℕ × ℕ)) : Type 0 where
  pub root : AreRoots is_first a (map root_shows m.roots.items)
  pub current : AreRead IsSlotRow FitsSlot a.current (current_items (slot_view m.timestamp) (slot_view m.snapshot))
  pub shelf : AreGathered row_cmp IsShelfRow FitsShelf a.shelf (map document_shows m.shelf.items)
  pub blob : AreGathered (slice_cmp nat_cmp) IsLengthRow FitsLength a.blob lengths

-- and the rows that they are
pub record AreContents (is_first : Bool) (a : QueriedRows) (t : Contents) : Type 0 where
  pub root : AreRoots is_first a t.roots
  pub current : AreRead IsSlotRow FitsSlot a.current (current_items t.timestamp t.snapshot)
  pub shelf : AreRead IsShelfRow FitsShelf a.shelf t.shelf
  pub blob : AreRead IsBlobRow FitsBlob a.blob t.blobs

pub record AreSorted (a : QueriedRows) : Type 0 where
  pub root : AreOrdered nat_cmp IsFirstRow FitsFirst a.root
  pub shelf : AreOrdered row_cmp IsShelfRow FitsShelf a.shelf
  pub blob : AreOrdered (slice_cmp nat_cmp) IsLengthRow FitsLength a.blob
  pub root2 : AreOrdered nat_cmp IsRootRow FitsRoot a.root2

-- the rows of `schema` are all 1, or all 2
abbrev pub Tell : Bool → List Row → Type 0
Tell is_first rows = (r : Row) → Has rows r → IsOf (if is_first then 1 else 2) r

-- `mixed` are rows of `schema` that are not all of one version, `crossed` is a root in the table of the other schema.
pub data AreDamaged (a : QueriedRows) : Type 0 where
  root : AreSpoiled IsFirstRow FitsFirst a.root → AreDamaged a
  current : AreSpoiled IsSlotRow FitsSlot a.current → AreDamaged a
  shelf : AreSpoiled IsShelfRow FitsShelf a.shelf → AreDamaged a
  blob : AreSpoiled IsLengthRow FitsLength a.blob → AreDamaged a
  root2 : AreSpoiled IsRootRow FitsRoot a.root2 → AreDamaged a
  mixed : (r s : Row) → Has a.version r → (IsOf 1 r → ⊥) → Has a.version s → (IsOf 2 s → ⊥) → AreDamaged a
  crossed : (is_first : Bool) (r : Row) → Tell is_first a.version → Has (if is_first then a.root2 else a.root) r → AreDamaged a

-- ---- one target file

abbrev pub one_text : List ℕ
one_text = codes "SELECT bytes FROM blob WHERE digest = ?1"

-- a row of one cell, which has these bytes
abbrev pub HasBytes : List Row → List ℕ → Type 0
HasBytes rows bytes = (row : Row) × Has rows row × (column row 0 ≡ Blob bytes)
