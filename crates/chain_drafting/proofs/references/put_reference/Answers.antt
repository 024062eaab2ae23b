use Rattle.std.proofs.Common.{codes, subst}
use Rattle.canonical_json.specs.Json.{Json}
use Rattle.drafting.specs.Members.{Puts}
use Rattle.drafting.proofs.Rows.{shown}
use Rattle.chain_drafting.specs.References.{PutsReference}
use Rattle.chain_drafting.specs.Within.{Inside}
use Rattle.chain_drafting.specs.steps.Said.{reference_view}
use Rattle.chain_drafting.proofs.Within.{inside}
use Rattle.chain_drafting.proofs.references.put_reference.Goals as goal

pub returns-clause-ok : goal.returns-clause-ok
returns-clause-ok c =
    let a = shown c.args.members.now.items in
    let b = shown c.take_object-targets.new.members.items in
    let d = shown c.put.new.members.items in
    let new = shown c.put_in_listing.new.targets.items in
    inside (codes "targets") (Inside c.args.target.now (Inside (codes "custom") (PutsReference (reference_view c.args.said.now)))) a b d (shown c.take_object-targets.result.items) new
    c.take_object-targets.ensures.object c.take_object-targets.ensures.others (subst (λ (x : Json). Puts (codes "targets") x b d) c.object_value.ensures c.in_ok-put.ensures.puts)
    c.in_ok-put_in_listing.ensures.ok
