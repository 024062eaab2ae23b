-- What is read of the rows.
use Rattle.std.specs.Prelude.{◌≡◌, ◌≢◌, Bool, true, false, ℕ, List}
use Rattle.sqlite_trees.specs.Tree.{Trees}
use Rattle.repository_rows.specs.declared.MetadataRows.{MetadataRows}
use Rattle.repository_rows.specs.Contents.{Contents, contents_with, lengths_of, no_rows}
use Rattle.table_rows.specs.Tables.{AreBare, AreRising, HaveDigests, HoldsFirst, HoldsTables, IsFit, StandsFor}

-- What is read of rows that fit: those of the metadata, and the digest and length of each target file. Each file has its digest.
pub record IsReadAs (metadata : MetadataRows) (lengths : List (List ℕ × ℕ)) (t : Contents) : Type 0 where
  pub rows : t ≡ contents_with metadata t.blobs
  pub files : lengths ≡ lengths_of t.blobs
  pub digests : HaveDigests t
  pub fit : IsFit t
  pub rising : AreRising t

-- what the trees hold that were read: schema 1, or schema 2
abbrev pub HoldsAs : Bool → Trees → Contents → Type 0
HoldsAs true trees t = HoldsFirst trees t
HoldsAs false trees t = HoldsTables trees t

-- What was read where `schema` has no row: either nothing is there, or the trees stand for nothing.
pub record IsUnbegun (trees : Trees) (t : Contents) : Type 0 where
  pub bare : t ≡ no_rows → AreBare trees
  pub other : t ≢ no_rows → (u : Contents) → StandsFor trees u → ⊥
