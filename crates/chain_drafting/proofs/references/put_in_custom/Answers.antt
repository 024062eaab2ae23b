use Rattle.std.proofs.Common.{codes, subst}
use Rattle.canonical_json.specs.Json.{Json}
use Rattle.drafting.specs.Members.{Puts}
use Rattle.drafting.proofs.Results.{on_ok}
use Rattle.drafting.proofs.Rows.{shown}
use Rattle.chain_drafting.specs.References.{PutsReference}
use Rattle.chain_drafting.specs.steps.Said.{reference_view}
use Rattle.chain_drafting.proofs.Within.{inside}
use Rattle.chain_drafting.proofs.references.put_in_custom.Goals as goal

pub returns : goal.returns
returns c =
    let a = shown c.args.listing.now.items in
    let b = shown c.take_object-custom.new.members.items in
    let d = shown c.put.new.members.items in
    let new = shown c.put_layout.new.custom.items in
    on_ok _ _ c.put.result c.put.ensures.puts (λ put.
    inside (codes "custom") (PutsReference (reference_view c.args.said.now)) a b d (shown c.take_object-custom.result.items) new
    c.take_object-custom.ensures.object c.take_object-custom.ensures.others (subst (λ (x : Json). Puts (codes "custom") x b d) c.object_value.ensures put)
    c.in_ok-put_layout.ensures)
