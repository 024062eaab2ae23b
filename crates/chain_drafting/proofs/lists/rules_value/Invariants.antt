use Rattle.std.proofs.Common.{◌≡◌, ◌++◌, length, map}
use Rattle.canonical_json.specs.View.{view}
use Rattle.chain_drafting.specs.Layouts.{texts}
use Rattle.chain_drafting.specs.steps.Said.{words_view}
use Rattle.chain_drafting.proofs.lists.rules_value.Given as goal

abbrev pub invariant-rules : goal.invariant-rules
invariant-rules l = map view l.list.items ++ map texts (words_view l.rest) ≡ map texts (words_view l.fn.rules)

abbrev pub decreases-rules : goal.decreases-rules
decreases-rules l = length l.rest
