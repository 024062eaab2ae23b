-- Artifact rules, and which lists of words they are (in-toto 1.0, section 4.3.3; this project's profile).
use Rattle.std.specs.Prelude.{◌≡◌, ℕ, List, [], ◌∷◌, ◌++◌, codes, Option, Some, None}
use Rattle.path_patterns.specs.Grammar.{IsTargetPath, IsPattern, IsName}

-- the artifacts of a link that a rule list is about, or that a rule looks for
pub data Side : Type 0 where
  materials : Side
  products : Side

-- a rule that takes what stands in the link of another step
pub record Match : Type 0 where
  pub pattern : List ℕ
  -- the folder here, the side there, and the folder there
  pub from : Option (List ℕ)
  pub side : Side
  pub to : Option (List ℕ)
  pub step : List ℕ

pub data ArtifactRule : Type 0 where
  create : List ℕ → ArtifactRule
  delete : List ℕ → ArtifactRule
  modify : List ℕ → ArtifactRule
  allow : List ℕ → ArtifactRule
  disallow : List ℕ → ArtifactRule
  require : List ℕ → ArtifactRule
  matching : Match → ArtifactRule

abbrev pub side_word : Side → List ℕ
side_word materials = codes "MATERIALS"
side_word products = codes "PRODUCTS"

-- `IN` and a folder, or nothing
abbrev pub in_words : Option (List ℕ) → List (List ℕ)
in_words None = []
in_words (Some folder) = codes "IN" ∷ folder ∷ []

-- MATCH pattern [IN folder] WITH MATERIALS or PRODUCTS [IN folder] FROM step
abbrev pub match_words : Match → List (List ℕ)
match_words m =
    codes "MATCH" ∷ m.pattern ∷ (in_words m.from ++ codes "WITH" ∷ side_word m.side ∷ (in_words m.to ++ codes "FROM" ∷ m.step ∷ []))

abbrev pub rule_words : ArtifactRule → List (List ℕ)
rule_words (create p) = codes "CREATE" ∷ p ∷ []
rule_words (delete p) = codes "DELETE" ∷ p ∷ []
rule_words (modify p) = codes "MODIFY" ∷ p ∷ []
rule_words (allow p) = codes "ALLOW" ∷ p ∷ []
rule_words (disallow p) = codes "DISALLOW" ∷ p ∷ []
rule_words (require path) = codes "REQUIRE" ∷ path ∷ []
rule_words (matching m) = match_words m

abbrev pub IsFolder : Option (List ℕ) → Type 0
IsFolder None = Unit {0}
IsFolder (Some folder) = IsTargetPath folder

abbrev pub IsArtifactRule : ArtifactRule → Type 0
IsArtifactRule (create p) = IsPattern p
IsArtifactRule (delete p) = IsPattern p
IsArtifactRule (modify p) = IsPattern p
IsArtifactRule (allow p) = IsPattern p
IsArtifactRule (disallow p) = IsPattern p
IsArtifactRule (require path) = IsTargetPath path
IsArtifactRule (matching m) = IsPattern m.pattern × IsFolder m.from × IsFolder m.to × IsName m.step

-- the words are those of the rule
abbrev pub AreWordsOf : List (List ℕ) → ArtifactRule → Type 0
AreWordsOf words rule = IsArtifactRule rule × (words ≡ rule_words rule)
