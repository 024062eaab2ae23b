-- When a list of artifact rules holds of a link (in-toto 1.0, section 4.3.3). A rule takes paths of one side of the link; what an
-- earlier rule takes does not reach a later one.
use Rattle.std.specs.Prelude.{◌≡◌, ◌≢◌, ℕ, ◌<◌, List, ◌∷◌, ◌++◌, find, Option, Some, None, slice_get, bytes_eq}
use Rattle.std.specs.declared.cmp.Ordering.TheVariants.{Greater}
use Rattle.path_patterns.specs.Matching.{MatchesFlat}
use Rattle.document_parts.specs.Links.{Artifacts, HasDigest, Link, Lists, side_of}
use Rattle.document_parts.specs.Rules.{Side, Match, ArtifactRule, create, delete, modify, allow, disallow, require, matching}
use Rattle.document_parts.specs.Sorted.{compared}

-- the link of a step: the first of its name
abbrev pub link_of : List Link → List ℕ → Option Link
link_of links step = find (λ l. bytes_eq l.name step) links

-- the path of the rest in the folder, or the rest itself
abbrev pub path_in : Option (List ℕ) → List ℕ → List ℕ
path_in None rest = rest
path_in (Some folder) rest = folder ++ 47 ∷ rest

-- What stands in the folder under the path matches, and in the other folder the link of the step has it with the same digest.
pub record TakesMatch (m : Match) (side : Artifacts) (links : List Link) (path : List ℕ) : Type 0 where
  pub rest : List ℕ
  pub link : Link
  pub digest : List ℕ
  pub in_folder : path ≡ path_in m.from rest
  pub matches : MatchesFlat m.pattern rest
  pub step : link_of links m.step ≡ Some link
  pub here : HasDigest side path digest
  pub there : HasDigest (side_of m.side link) (path_in m.to rest) digest

module _ (side : Side) (link : Link) (links : List Link) where
  -- the rule takes the path, if it is still there
  abbrev pub Takes : ArtifactRule → List ℕ → Type 0
  Takes (create p) path = MatchesFlat p path × Lists link.products path × (Lists link.materials path → ⊥)
  Takes (delete p) path = MatchesFlat p path × Lists link.materials path × (Lists link.products path → ⊥)
  Takes (modify p) path = MatchesFlat p path × ((d : List ℕ) × (e : List ℕ) × HasDigest link.materials path d × HasDigest link.products path e × (d ≢ e))
  Takes (allow p) path = MatchesFlat p path
  Takes (disallow p) path = ⊥
  Takes (require p) path = ⊥
  Takes (matching m) path = TakesMatch m (side_of side link) links path

  module _ (rules : List ArtifactRule) where
    -- the path is one of the side, and no rule before number j takes it
    abbrev pub Reaches : ℕ → List ℕ → Type 0
    Reaches j path = Lists (side_of side link) path × ((i : ℕ) (r : ArtifactRule) → i < j → slice_get rules i ≡ Some r → Takes r path → ⊥)

    -- a forbidden path is left
    abbrev pub LeavesForbidden : ℕ → List ℕ → List ℕ → Type 0
    LeavesForbidden j pattern path = MatchesFlat pattern path × Reaches j path

    -- rule number j, which is r, fails
    abbrev pub Fails : ℕ → ArtifactRule → Type 0
    Fails j (disallow pattern) = (path : List ℕ) × LeavesForbidden j pattern path
    Fails j (require path) = Reaches j path → ⊥
    Fails j r = ⊥

    abbrev pub FailsAt : ℕ → Type 0
    FailsAt j = (r : ArtifactRule) × (slice_get rules j ≡ Some r) × Fails j r

    -- no rule fails
    abbrev pub RulesHold : Type 0
    RulesHold = (j : ℕ) → FailsAt j → ⊥

    abbrev pub FailsFirst : ℕ → Type 0
    FailsFirst j = FailsAt j × ((i : ℕ) → i < j → FailsAt i → ⊥)

    -- the first rule that fails forbids a path that is left, of which this is the least in byte order
    pub record RulesForbid (j : ℕ) (path : List ℕ) : Type 0 where
      pub pattern : List ℕ
      pub first : FailsFirst j
      pub rule : slice_get rules j ≡ Some (disallow pattern)
      pub left : LeavesForbidden j pattern path
      pub least : (other : List ℕ) → LeavesForbidden j pattern other → compared path other ≢ Greater

    -- the first rule that fails asks for this path, which is not left
    pub record RulesRequire (j : ℕ) (path : List ℕ) : Type 0 where
      pub first : FailsFirst j
      pub rule : slice_get rules j ≡ Some (require path)
