use Rattle.std.proofs.Common.{codes, inr, refl, subst}
use Rattle.canonical_json.specs.Json.{Json}
use Rattle.drafting.specs.Members.{Puts}
use Rattle.drafting.proofs.Rows.{none_in, shown}
use Rattle.chain_drafting.specs.References.{PutsReference}
use Rattle.chain_drafting.specs.Within.{Inside}
use Rattle.chain_drafting.specs.steps.Said.{reference_view}
use Rattle.chain_drafting.proofs.Within.{inside}
use Rattle.chain_drafting.proofs.references.put_in_listing.Goals as goal

pub returns-clause-ok : goal.returns-clause-ok
returns-clause-ok c =
    let a = shown c.args.targets.now.items in
    let b = shown c.take_object-listing.new.members.items in
    let d = shown c.put.new.members.items in
    let new = shown c.put_in_custom.new.listing.items in
    inside c.args.target.now (Inside (codes "custom") (PutsReference (reference_view c.args.said.now))) a b d (shown c.take_object-listing.result.items) new
    c.take_object-listing.ensures.object c.take_object-listing.ensures.others (subst (λ (x : Json). Puts c.args.target.now x b d) c.object_value.ensures c.in_ok-put.ensures.puts)
    c.in_ok-put_in_custom.ensures

pub returns-then-not-is_there-clause-err : goal.returns-then-not-is_there-clause-err
returns-then-not-is_there-clause-err c =
    inr (refl, none_in c.args.targets.now.items c.deref.result.now c.args.target.now c.deref.ensures.value (c.is_there.ensures.none c.if-not-is_there.true))
