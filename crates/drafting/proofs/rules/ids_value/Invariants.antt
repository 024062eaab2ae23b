use Rattle.std.proofs.Common.{◌≡◌, ◌++◌, length, map}
use Rattle.canonical_json.specs.View.{view}
use Rattle.drafting.specs.Roots.{ids_of}
use Rattle.drafting.specs.steps.Rules.{keys_view}
use Rattle.drafting.proofs.rules.ids_value.Given as goal

abbrev pub invariant-keys : goal.invariant-keys
invariant-keys l = map view l.ids.items ++ ids_of (keys_view l.rest) ≡ ids_of (keys_view l.fn.keys)

abbrev pub decreases-keys : goal.decreases-keys
decreases-keys l = length l.rest
