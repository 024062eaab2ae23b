use Rattle.std.proofs.Common.{codes, subst}
use Rattle.canonical_json.specs.Json.{Json}
use Rattle.drafting.specs.Members.{Puts}
use Rattle.chain_drafting.specs.Delegations.{key_rows}
use Rattle.chain_drafting.specs.steps.Delegated.{all_view}
use Rattle.drafting.proofs.Holders.{one_put}
use Rattle.drafting.proofs.Results.{on_ok}
use Rattle.drafting.proofs.Rows.{shown}
use Rattle.chain_drafting.proofs.delegating.put_keys.Goals as goal

pub returns : goal.returns
returns c =
    let a = shown c.args.inner.now.items in
    let b = shown c.take_object-keys.new.members.items in
    let d = shown c.put.new.members.items in
    on_ok _ _ c.put.result c.put.ensures.puts (λ put.
    one_put (codes "keys") (key_rows (all_view c.args.delegated.now)) (shown c.args.list.now) a b d (shown c.take_object-keys.result.items) (shown c.add_keys.new.table.items)
    (shown c.keep_named.new.table.items) c.take_object-keys.ensures.object c.take_object-keys.ensures.others c.in_ok-add_keys.ensures c.keep_named.ensures
    (subst (λ (x : Json). Puts (codes "keys") x b d) c.object_value.ensures put))
