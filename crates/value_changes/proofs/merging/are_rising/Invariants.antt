use Rattle.std.proofs.Common.{◌∷◌, length}
use denote.Text.{Utf8}
use denote.Shadow.{shadow}
use Rattle.canonical_json.specs.Json.{names}
use Rattle.canonical_json.specs.Spelling.{AreRising}
use Rattle.canonical_json.specs.View.{members_view}
use Rattle.value_changes.proofs.merging.are_rising.Given as goal

-- the names rise exactly where the last one passed rises into those that are left
abbrev pub invariant-names : goal.invariant-names
invariant-names l =
    shadow (Utf8 l.name)
    × (AreRising (names (members_view l.fn.members)) → AreRising (l.name ∷ names (members_view l.rest)))
    × (AreRising (l.name ∷ names (members_view l.rest)) → AreRising (names (members_view l.fn.members)))

abbrev pub decreases-names : goal.decreases-names
decreases-names l = length l.rest
