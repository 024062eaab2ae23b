-- What single rules take of one path.
use Rattle.std.specs.Prelude.{◌≡◌, ◌≢◌, ℕ, List, Some}
use Rattle.path_patterns.specs.Matching.{MatchesFlat}
use Rattle.document_parts.specs.Links.{HasDigest, Link, Lists, side_of}
use Rattle.document_parts.specs.Rules.{Match}
use Rattle.artifact_rules.specs.Rules.{link_of, path_in}

abbrev pub IsCreated : Link → List ℕ → Type 0
IsCreated link path = Lists link.products path × (Lists link.materials path → ⊥)

abbrev pub IsDeleted : Link → List ℕ → Type 0
IsDeleted link path = Lists link.materials path × (Lists link.products path → ⊥)

-- the path is on both sides of the link, with two digests
abbrev pub IsChanged : Link → List ℕ → Type 0
IsChanged link path = (d : List ℕ) × (e : List ℕ) × HasDigest link.materials path d × HasDigest link.products path e × (d ≢ e)

-- the pattern matches what stands after the folder in the path
abbrev pub Concerns : Match → List ℕ → Type 0
Concerns m path = (rest : List ℕ) × (path ≡ path_in m.from rest) × MatchesFlat m.pattern rest

-- a path of this digest is taken
pub record TakesWith (m : Match) (links : List Link) (path digest : List ℕ) : Type 0 where
  pub rest : List ℕ
  pub link : Link
  pub in_folder : path ≡ path_in m.from rest
  pub matches : MatchesFlat m.pattern rest
  pub step : link_of links m.step ≡ Some link
  pub there : HasDigest (side_of m.side link) (path_in m.to rest) digest
