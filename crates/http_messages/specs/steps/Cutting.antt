-- Where a text is cut.
use Rattle.std.specs.Prelude.{◌≡◌, ◌≢◌, ℕ, ◌<◌, List, ◌++◌, length, slice_index}
use Rattle.http_messages.specs.Framing.{Document, frame}

-- the byte is not in the text
abbrev pub Lacks : ℕ → List ℕ → Type 0
Lacks c text = (k : ℕ) → k < length text → slice_index text k ≢ c

-- a text is a document with its length before it, and then the rest, whatever stands for its name: no space does
pub record Cuts (text : List ℕ) (d : Document) (rest : List ℕ) : Type 0 where
  pub name : Lacks 32 d.0
  pub short : length d.1 < 10000000
  pub whole : text ≡ frame d ++ rest
