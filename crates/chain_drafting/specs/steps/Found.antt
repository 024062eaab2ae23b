-- What the code's answers stand for.
use Rattle.std.specs.Prelude.{ℕ, ◌<◌, List, codes, length, slice_index_or, take, string_bytes}
use Rattle.std.specs.List.{AllByRecursion}
use Rattle.canonical_json.specs.Json.{Json}
use Rattle.canonical_json.specs.Spelling.{IsCanonical}
use Rattle.document_parts.specs.Documents.{Document}
use Rattle.drafting.specs.Members.{IsObjectAt}
use Rattle.keys_roles.specs.Views.{id_text, key_view, rows_view}
use Rattle.keys_roles.specs.declared.Key.{Key}
use Rattle.keys_roles.specs.declared.KeyId.{KeyId}
use Rattle.chain_drafting.specs.Finding.{Answer, one, none, several, FindsIn, IsCalled, IsNotCalled, key_table}
use Rattle.chain_drafting.specs.declared.finding.Found.{Found}
use Rattle.chain_drafting.specs.declared.finding.Found.TheVariants as found

abbrev pub found_view : Found → Answer
found_view (found.One k) = one (key_view k.key) (string_bytes k.name)
found_view found.None = none
found_view found.Several = several

-- the row at this place is called so, and none before it is
pub record IsFirstCalled (rows : List (KeyId × Key)) (names : Json) (word : List ℕ) (place : ℕ) : Type 0 where
  pub within : place < length rows
  pub before : AllByRecursion (IsNotCalled names word) (rows_view (take place rows))
  pub called : (d : KeyId × Key) → IsCalled names word (id_text (slice_index_or rows place d).0)

-- what the word finds in the document
pub record FindsBy (document : Document) (word : List ℕ) (answer : Answer) : Type 0 where
  pub part : Json
  pub names : Json
  pub signed : IsCanonical part document.signed
  pub named : IsObjectAt part (codes "names") names
  pub finds : FindsIn (key_table document.body) names word answer
