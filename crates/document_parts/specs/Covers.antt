-- Which paths a delegation covers (TUF 1.0, section 4.5), and for which a root requires a layout, each as a fact and as a test.
use Rattle.std.specs.Prelude.{ℕ, List, [], Bool, Contains}
use Rattle.std.specs.List.{list_any}
use Rattle.std.specs.Option.{unwrap_or}
use Rattle.path_patterns.specs.Matching.{MatchesSegmented, PrefixCovers}
use Rattle.path_patterns.specs.Tests.{matches_segmented, prefix_covers}
use Rattle.document_parts.specs.Documents.{Root, Scope, patterns, prefixes, Delegation}

abbrev pub ScopeCovers : Scope → List ℕ → Type 0
ScopeCovers (patterns ps) path = (p : List ℕ) × Contains ps p × MatchesSegmented p path
ScopeCovers (prefixes ps) path = (p : List ℕ) × Contains ps p × PrefixCovers p path

abbrev pub Covers : Delegation → List ℕ → Type 0
Covers d path = ScopeCovers d.scope path

abbrev pub scope_covers : Scope → List ℕ → Bool
scope_covers (patterns ps) path = list_any (λ p. matches_segmented p path) ps
scope_covers (prefixes ps) path = list_any (λ p. prefix_covers p path) ps

abbrev pub covers : Delegation → List ℕ → Bool
covers d path = scope_covers d.scope path

-- the patterns of the paths that need a layout: none where the root has none
abbrev pub required_patterns : Root → List (List ℕ)
required_patterns r = unwrap_or r.required []

abbrev pub RequiresLayout : Root → List ℕ → Type 0
RequiresLayout r path = (p : List ℕ) × Contains (required_patterns r) p × MatchesSegmented p path

abbrev pub requires_layout : Root → List ℕ → Bool
requires_layout r path = list_any (λ p. matches_segmented p path) (required_patterns r)
