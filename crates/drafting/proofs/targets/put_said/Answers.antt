use Rattle.std.proofs.Common.{codes, subst}
use Rattle.canonical_json.specs.Json.{Json}
use Rattle.canonical_json.specs.View.{members_view}
use Rattle.drafting.specs.Members.{Puts}
use Rattle.drafting.specs.steps.Rows.{addition_view}
use Rattle.drafting.proofs.Listings.{listed}
use Rattle.drafting.proofs.Results.{on_ok}
use Rattle.drafting.proofs.Rows.{shown}
use Rattle.drafting.proofs.targets.put_said.Goals as goal

pub returns : goal.returns
returns c =
    let a = shown c.args.listing.now.items in
    let b = shown c.put.new.members.items in
    let d = shown c.put-2.new.members.items in
    on_ok _ _ c.put-2.result c.put-2.ensures.puts (λ q.
    listed (addition_view c.args.said.now).1 a b (members_view c.put-2.new.members.items)
    (subst (λ (x : Json). Puts (codes "hashes") x a b) c.in_ok-value.ensures c.in_ok-put.ensures.puts)
    (subst (λ (x : Json). Puts (codes "length") x b d) c.number_value.ensures q))
