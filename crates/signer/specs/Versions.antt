-- Which document a message is: its kind and its version, by the two members of a signed part that say so (TUF 1.0, sections 4.3 to 4.6).
use Rattle.std.specs.Prelude.{◌≢◌, ℕ, List, codes}
use Rattle.canonical_json.specs.Json.{Json, HasMember}
use Rattle.canonical_json.specs.Spelling.{IsCanonical}
use Rattle.metadata.specs.Shape.{IsSignedBy}
use Rattle.keys_roles.specs.Plain.{Signature}
use Rattle.sqlite_rules.specs.Lists.{Has}
use Rattle.leaf_plans.specs.Book.{Book, Keeps, LeafRow}

-- the message is canonical JSON, and has both members, with these values
pub record Says (message : List ℕ) (kind version : Json) : Type 0 where
  pub value : Json
  pub canonical : IsCanonical value message
  pub has_kind : HasMember value (codes "_type") kind
  pub has_version : HasMember value (codes "version") version

-- Two messages that differ, and say the same kind and the same version. What says no version, as a layout or a link, has no rival, nor has
-- what is no canonical JSON.
pub record AreRivals (m n : List ℕ) : Type 0 where
  pub differ : m ≢ n
  pub kind : Json
  pub version : Json
  pub first : Says m kind version
  pub second : Says n kind version

-- among these entries of a leaf history this leaf of the key is kept for a rival of the message
abbrev pub IsRivalLeaf : List LeafRow → List ℕ → List ℕ → ℕ → Type 0
IsRivalLeaf leaves key message leaf = (other : List ℕ) × Has leaves (record { key = key; leaf = leaf; message = other }) × AreRivals message other

-- the book keeps no leaf of the key for a rival of the message
abbrev pub LacksRivals : Book → List ℕ → List ℕ → Type 0
LacksRivals b key message = (leaf : ℕ) → IsRivalLeaf b.leaves key message leaf → ⊥

-- the same of what is signed of a file
abbrev pub LacksRivalsOf : Book → List ℕ → List ℕ → Type 0
LacksRivalsOf b key file = (entries : List Signature) (message : List ℕ) → IsSignedBy file entries message → LacksRivals b key message

-- no key has two leaves for two rivals
abbrev pub HasNoRivals : Book → Type 0
HasNoRivals b = (key m n : List ℕ) (k l : ℕ) → Keeps b key k m → Keeps b key l n → AreRivals m n → ⊥
