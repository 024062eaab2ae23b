-- The document that a search misses, and shelves that hold more. (TUF 1.0, section 5.6.7, a client that fetches the documents of
-- delegated roles one after the other.)
use Rattle.std.specs.Prelude.{◌≡◌, ℕ, Some, None, Err}
use Rattle.keys_roles.specs.Plain.{look_up}
use Rattle.document_parts.specs.Documents.{Targets, MetaFile}
use Rattle.metadata.specs.File.{Bytes, Name, File}
use Rattle.denials.specs.Orders.{Stop}
use Rattle.delegations.specs.Delegation.{Edge}
use Rattle.delegations.specs.Rows.{row_at}
use Rattle.delegations.specs.Search.{Shelf, MeetsEdge, Vouched, visit, search}

-- a shelf of the same top edge and the same listing, which has each listed row that the other has
pub record HasRowsOf (V W : Shelf) : Type 0 where
  pub top : W.top ≡ V.top
  pub listing : W.listing ≡ V.listing
  pub rows : (role : Name) (entry : MetaFile) (file : File Targets) → look_up V.listing role ≡ Some entry
      → row_at V.rows role entry.version ≡ Some file → row_at W.rows role entry.version ≡ Some file

-- what a search misses is the listed version of the role of an edge, and is not on the shelf. That edge vouches for each document
-- that meets it; and where the visit by it ends in a denial over a shelf that holds more, so does the search
pub record IsMissed (V : Shelf) (path : Bytes) (now : ℕ) (role : Name) (version : ℕ) : Type 0 where
  pub edge : Edge
  pub into : edge.role ≡ role
  pub entry : MetaFile
  pub listed : look_up V.listing role ≡ Some entry
  pub at : entry.version ≡ version
  pub absent : row_at V.rows role version ≡ None
  pub vouches : (new : File Targets) → MeetsEdge V edge new → Vouched V role new now
  pub ends : (W : Shelf) → HasRowsOf V W → (s : Stop) → visit W edge now (Err s) → search W path now (Err s)
