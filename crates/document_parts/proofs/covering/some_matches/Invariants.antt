use Rattle.std.proofs.Common.{◌≡◌, length}
use Rattle.std.specs.List.{list_any}
use Rattle.path_patterns.specs.Tests as tests
use Rattle.document_parts.proofs.covering.some_matches.Given as goal

abbrev pub invariant-patterns : goal.invariant-patterns
invariant-patterns l = list_any (λ p. tests.matches_segmented p l.path) l.fn.patterns ≡ list_any (λ p. tests.matches_segmented p l.path) l.rest

abbrev pub decreases-patterns : goal.decreases-patterns
decreases-patterns l = length l.rest
