-- Keys by what a document calls them.
use Rattle.std.specs.Prelude.{◌≡◌, ◌⊎◌, ℕ, ◌≤◌, List, [], ◌∷◌, ◌++◌, length, codes, Option, Some, None}
use Rattle.std.specs.List.{AllByRecursion}
use Rattle.canonical_json.specs.Json.{Json, text, HasMember}
use Rattle.canonical_json.specs.Spelling.{IsCanonical}
use Rattle.keys_roles.specs.Plain.{Key, Table}
use Rattle.document_parts.specs.Documents.{Body, Delegations, Document, root, targets}
use Rattle.metadata.specs.Shape.{IsDocument}
use Rattle.document_parts.specs.declared.documents.Kind.{Kind}
use Rattle.drafting.specs.Members.{IsObjectAt}
use Rattle.drafting.specs.Drafts.{File}

abbrev pub delegated_keys : Option Delegations → Table
delegated_keys None = []
delegated_keys (Some d) = d.keys

-- the keys of a root, or those of the delegations of targets metadata
abbrev pub key_table : Body → Table
key_table (root r) = r.keys
key_table (targets t) = delegated_keys t.delegations
key_table body = []

-- the word is the first digits of the id, 8 or more
abbrev pub IsFront : List ℕ → List ℕ → Type 0
IsFront word id = (8 ≤ length word) × ((more : List ℕ) × (id ≡ word ++ more))

-- the names call the key of this id so, or its id begins so
abbrev pub IsCalled : Json → List ℕ → List ℕ → Type 0
IsCalled names word id = HasMember names id (text word) ⊎ IsFront word id

abbrev pub IsNotCalled : Json → List ℕ → List ℕ × Key → Type 0
IsNotCalled names word row = IsCalled names word row.0 → ⊥

-- what a word finds: one key with what it is called, none, or more than one
pub data Answer : Type 0 where
  one : Key → List ℕ → Answer
  none : Answer
  several : Answer

-- the names call the key of this id so, or they call it nothing and the word does
abbrev pub IsNameOf : Json → List ℕ → List ℕ → List ℕ → Type 0
IsNameOf names word id name = HasMember names id (text name) ⊎ ((name ≡ word) × ((t : List ℕ) → HasMember names id (text t) → ⊥))

-- just one row of the table is called so, and has this key and this name
pub record IsOne (table : Table) (names : Json) (word : List ℕ) (key : Key) (name : List ℕ) : Type 0 where
  pub front : Table
  pub id : List ℕ
  pub back : Table
  pub is : table ≡ front ++ (id, key) ∷ back
  pub called : IsCalled names word id
  pub named : IsNameOf names word id name
  pub before : AllByRecursion (IsNotCalled names word) front
  pub behind : AllByRecursion (IsNotCalled names word) back

-- at least two rows are
pub record AreSeveral (table : Table) (names : Json) (word : List ℕ) : Type 0 where
  pub front : Table
  pub first : List ℕ × Key
  pub middle : Table
  pub second : List ℕ × Key
  pub back : Table
  pub is : table ≡ front ++ first ∷ (middle ++ second ∷ back)
  pub first_called : IsCalled names word first.0
  pub second_called : IsCalled names word second.0

abbrev pub FindsIn : Table → Json → List ℕ → Answer → Type 0
FindsIn table names word (one key name) = IsOne table names word key name
FindsIn table names word none = AllByRecursion (IsNotCalled names word) table
FindsIn table names word several = AreSeveral table names word

-- what the word finds in the document of the kind that the file is
pub record Finds (kind : Kind) (file : File) (word : List ℕ) (answer : Answer) : Type 0 where
  pub document : Document
  pub part : Json
  pub names : Json
  pub is : IsDocument kind file document
  pub signed : IsCanonical part document.signed
  pub named : IsObjectAt part (codes "names") names
  pub finds : FindsIn (key_table document.body) names word answer
