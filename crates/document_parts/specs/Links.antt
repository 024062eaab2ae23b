-- What a link says (in-toto 1.0, section 4.4): the artifacts of a step before it and after it, by their paths, each with its digest.
use Rattle.std.specs.Prelude.{◌≡◌, ℕ, List, Some}
use Rattle.keys_roles.specs.Plain.{look_up}
use Rattle.document_parts.specs.Rules.{Side, materials, products}

abbrev pub Artifacts : Type 0
Artifacts = List (List ℕ × List ℕ)

pub record Link : Type 0 where
  pub name : List ℕ
  pub materials : Artifacts
  pub products : Artifacts

abbrev pub side_of : Side → Link → Artifacts
side_of materials l = l.materials
side_of products l = l.products

-- the path is listed with this digest
abbrev pub HasDigest : Artifacts → List ℕ → List ℕ → Type 0
HasDigest artifacts path digest = look_up artifacts path ≡ Some digest

-- the path is listed
abbrev pub Lists : Artifacts → List ℕ → Type 0
Lists artifacts path = (digest : List ℕ) × HasDigest artifacts path digest
