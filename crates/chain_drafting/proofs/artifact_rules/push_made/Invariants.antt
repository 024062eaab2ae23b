use Rattle.std.proofs.Common.{◌≡◌, ◌++◌, length, map}
use Rattle.canonical_json.specs.View.{view}
use Rattle.drafting.specs.steps.Rows.{texts_view}
use Rattle.chain_drafting.specs.Layouts.{made, texts}
use Rattle.chain_drafting.proofs.artifact_rules.push_made.Given as goal

abbrev pub invariant-products : goal.invariant-products
invariant-products l =
    map view l.list.items ++ map texts (made (texts_view l.rest)) ≡ map view l.fn.list.items ++ map texts (made (texts_view l.fn.products))

abbrev pub decreases-products : goal.decreases-products
decreases-products l = length l.rest
