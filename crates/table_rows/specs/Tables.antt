-- What the tables hold.
use Rattle.std.specs.Prelude.{◌≡◌, ◌⊎◌, ◌<◌, ◌^◌, ℕ, pos, List, [], ◌∷◌, ◌++◌, map, Option, Some, None, IsTrue, IsUtf8, codes}
use Rattle.std.specs.List.{AllByRecursion}
use Rattle.std.specs.Ordering.{nat_cmp, on, then_cmp}
use Rattle.std.specs.declared.cmp.Ordering.{Ordering}
use Rattle.std.specs.Cmp.Lexicographic.{slice_cmp}
use Rattle.std.specs.List.Sorted.{IsStrictlySortedBy}
use Rattle.hex.specs.Hex.{encode_lower}
use Rattle.sha2.specs.Sha256.{sha256}
use Rattle.sqlite_rules.specs.Lists.{Has}
use Rattle.sqlite.specs.declared.types.Value.TheVariants.{Int, Text, Blob}
use Rattle.sqlite.specs.Order.{Row}
use Rattle.sqlite_trees.specs.Tree.{Trees}
use Rattle.sqlite.specs.Effect.{Database, IsDatabase}
use Rattle.sqlite.specs.State.{State}
use Rattle.repository_rows.specs.Contents.{Contents, no_rows}
pub use Rattle.sql_tables.specs.Cells.{IsDigest}
use Rattle.sql_tables.specs.Described.{AreEmpty}
use Rattle.table_rows.specs.Schema.{the_schema, held, HasSix, IsBeginning}
use Rattle.table_rows.specs.Rows.{root_cells, root2_cells, current_cells, shelf_cells, blob_cells, version_cells}
use Rattle.sql_tables.specs.Rows.{AreRows, AreKeyed}

-- ---- the cells of the rows

-- a root of `root2`: version, profile and bytes
abbrev pub root_row : ℕ × (ℕ × List ℕ) → Row
root_row r = Int (pos r.0) ∷ Int (pos r.1.0) ∷ Blob r.1.1 ∷ []

-- the same of `root`, under schema 1: version and bytes
abbrev pub first_row : ℕ × (ℕ × List ℕ) → Row
first_row r = Int (pos r.0) ∷ Blob r.1.1 ∷ []

abbrev pub slot_row : List ℕ → ℕ × List ℕ → Row
slot_row slot r = Text slot ∷ Int (pos r.0) ∷ Blob r.1 ∷ []

abbrev pub slot_rows : List ℕ → Option (ℕ × List ℕ) → List Row
slot_rows slot None = []
slot_rows slot (Some r) = slot_row slot r ∷ []

abbrev pub current_rows : Option (ℕ × List ℕ) → Option (ℕ × List ℕ) → List Row
current_rows timestamp snapshot = slot_rows (codes "timestamp") timestamp ++ slot_rows (codes "snapshot") snapshot

abbrev pub shelf_row : (List ℕ × ℕ) × List ℕ → Row
shelf_row r = Text r.0.0 ∷ Int (pos r.0.1) ∷ Blob r.1 ∷ []

abbrev pub blob_row : List ℕ × List ℕ → Row
blob_row r = Text (encode_lower r.0) ∷ Blob r.1 ∷ []

-- the one row of `schema`
abbrev pub version_row : ℕ → Row
version_row n = Int (pos n) ∷ []

-- ---- what is held

-- The trees of the six tables, which are those of `the_schema`, hold these rows, as sets, and schema 2: the roots stand in `root2`, and `root` is empty.
pub record HoldsTables (trees : Trees) (t : Contents) : Type 0 where
  pub root : AreRows root_cells (trees 0) []
  pub current : AreRows current_cells (trees 1) (current_rows t.timestamp t.snapshot)
  pub shelf : AreRows shelf_cells (trees 3) (map shelf_row t.shelf)
  pub blob : AreRows blob_cells (trees 5) (map blob_row t.blobs)
  pub version : AreRows version_cells (trees 7) (version_row 2 ∷ [])
  pub root2 : AreRows root2_cells (trees 8) (map root_row t.roots)

-- The same of schema 1: each root has profile 1 and stands in `root`, and `root2` is empty.
pub record HoldsFirst (trees : Trees) (t : Contents) : Type 0 where
  pub profiles : AllByRecursion (λ r. r.1.0 ≡ 1) t.roots
  pub root : AreRows root_cells (trees 0) (map first_row t.roots)
  pub current : AreRows current_cells (trees 1) (current_rows t.timestamp t.snapshot)
  pub shelf : AreRows shelf_cells (trees 3) (map shelf_row t.shelf)
  pub blob : AreRows blob_cells (trees 5) (map blob_row t.blobs)
  pub version : AreRows version_cells (trees 7) (version_row 1 ∷ [])
  pub root2 : AreRows root2_cells (trees 8) []

-- Schema 2, and all six tables are there: so say the trees themselves, which list them. No other opening of these trees finds fewer.
abbrev pub HoldsWhole : Trees → Contents → Type 0
HoldsWhole trees t = (db : Database) × (db.trees ≡ trees) × IsDatabase db × HasSix db.schema × HoldsTables (held db.schema db.trees) t

-- between two transactions: the connection is open, the six tables are there, and hold these rows and schema 2
pub record IsStore (s : State) (t : Contents) : Type 0 where
  pub is_open : IsTrue s.is_open
  pub schema : HasSix s.now.schema
  pub settled : s.now ≡ s.committed
  pub holds : HoldsTables (held s.now.schema s.now.trees) t

-- no row in any of the six tables
abbrev pub AreBare : Trees → Type 0
AreBare = AreEmpty the_schema

-- What the trees of the six tables stand for. Six empty tables are no rows yet.
abbrev pub StandsFor : Trees → Contents → Type 0
StandsFor trees t = HoldsTables trees t ⊎ (HoldsFirst trees t ⊎ (AreBare trees × (t ≡ no_rows)))

-- What a database stands for: it has the first of the six tables, or all, and they hold the rows, and the absent ones count as empty.
abbrev pub Stands : Database → Contents → Type 0
Stands db t = IsBeginning db.schema × StandsFor (held db.schema db.trees) t

-- the same rows, in any order
pub record AreSame (t u : Contents) : Type 0 where
  pub roots : (x : _) → (Has t.roots x → Has u.roots x) × (Has u.roots x → Has t.roots x)
  pub timestamp : t.timestamp ≡ u.timestamp
  pub snapshot : t.snapshot ≡ u.snapshot
  pub shelf : (x : _) → (Has t.shelf x → Has u.shelf x) × (Has u.shelf x → Has t.shelf x)
  pub blobs : (x : _) → (Has t.blobs x → Has u.blobs x) × (Has u.blobs x → Has t.blobs x)

-- ---- what fits the columns

-- a version, and so a profile, has 32 bits
abbrev pub IsVersion : ℕ → Type 0
IsVersion n = n < 2 ^ 32

pub record IsFit (t : Contents) : Type 0 where
  pub roots : AllByRecursion (λ r. IsVersion r.0 × IsVersion r.1.0) t.roots
  pub one_root : AreKeyed t.roots
  pub timestamp : (r : _) → t.timestamp ≡ Some r → IsVersion r.0
  pub snapshot : (r : _) → t.snapshot ≡ Some r → IsVersion r.0
  pub shelf : AllByRecursion (λ r. IsUtf8 r.0.0 × IsVersion r.0.1) t.shelf
  pub one_row : AreKeyed t.shelf
  pub blobs : AllByRecursion (λ r. IsDigest r.0) t.blobs
  pub one_blob : AreKeyed t.blobs

-- each target file has the SHA-256 under which it stands
abbrev pub HaveDigests : Contents → Type 0
HaveDigests t = AllByRecursion (λ r. sha256 r.1 ≡ r.0) t.blobs

-- by role, and then by version
abbrev pub row_cmp : List ℕ × ℕ → List ℕ × ℕ → Ordering
row_cmp = then_cmp (on (λ k. k.0) (slice_cmp nat_cmp)) (on (λ k. k.1) nat_cmp)

-- each key is below those after it
pub record AreRising (t : Contents) : Type 0 where
  pub roots : IsStrictlySortedBy nat_cmp (map (λ r. r.0) t.roots)
  pub shelf : IsStrictlySortedBy row_cmp (map (λ r. r.0) t.shelf)
  pub blobs : IsStrictlySortedBy (slice_cmp nat_cmp) (map (λ r. r.0) t.blobs)
