-- The documents of a batch, as the body of the request has them.
use Rattle.std.specs.Prelude.{◌≡◌, ℕ, ◌<◌, ◌≤◌, List, ◌∷◌, ◌++◌, length}
use Rattle.std.specs.List.{flat_map, AllByRecursion}
use Rattle.std.specs.Fmt.{decimal}
use Rattle.path_patterns.specs.Grammar.{IsName}
use Rattle.limits.specs.Limits.{most_documents}

-- a document: its name, and its bytes
abbrev pub Document : Type 0
Document = List ℕ × List ℕ

-- a document with its name and its length before it: the name, a space, the number of the bytes in decimal, a line feed, and
-- the bytes
abbrev pub frame : Document → List ℕ
frame d = d.0 ++ 32 ∷ (decimal (length d.1) ++ 10 ∷ d.1)

-- what a batch may have: the name is one of a role, and the number of the bytes has at most 7 digits
pub record CanStand (d : Document) : Type 0 where
  pub name : IsName d.0
  pub short : length d.1 < 10000000

-- the body is 1 to 160 documents, each with its name and its length before it, and nothing else
pub record IsBatch (body : List ℕ) (documents : List Document) : Type 0 where
  pub each : AllByRecursion CanStand documents
  pub least : 0 < length documents
  pub most : length documents ≤ most_documents
  pub whole : body ≡ flat_map frame documents

-- a text is a document with its name and its length before it, and then the rest
pub record Opens (text : List ℕ) (d : Document) (rest : List ℕ) : Type 0 where
  pub stands : CanStand d
  pub whole : text ≡ frame d ++ rest

-- a text has a document at its front, with its name and its length before it
abbrev pub BeginsWithDocument : List ℕ → Type 0
BeginsWithDocument text = (d : Document) × (rest : List ℕ) × Opens text d rest
