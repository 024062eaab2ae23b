use Rattle.std.proofs.Common.{◌≡◌, ◌++◌, length, map}
use Rattle.canonical_json.specs.Json.{text}
use Rattle.canonical_json.specs.View.{view}
use Rattle.drafting.specs.steps.Rows.{texts_view}
use Rattle.chain_drafting.proofs.lists.texts_value.Given as goal

abbrev pub invariant-words : goal.invariant-words
invariant-words l = map view l.list.items ++ map (λ w. text w) (texts_view l.rest) ≡ map (λ w. text w) (texts_view l.fn.words)

abbrev pub decreases-words : goal.decreases-words
decreases-words l = length l.rest
