use Rattle.std.proofs.Common.{◌≡◌, length, map, string_bytes}
use Rattle.std.specs.List.{list_any}
use Rattle.path_patterns.specs.Tests as tests
use Rattle.path_patterns.proofs.matching.some_prefix_covers.Given as goal

abbrev pub invariant-prefixes : goal.invariant-prefixes
invariant-prefixes l =
    list_any (λ p. tests.prefix_covers p l.path) (map string_bytes l.fn.prefixes) ≡ list_any (λ p. tests.prefix_covers p l.path) (map string_bytes l.rest)

abbrev pub decreases-prefixes : goal.decreases-prefixes
decreases-prefixes l = length l.rest
