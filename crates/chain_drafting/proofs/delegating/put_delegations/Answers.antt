use Rattle.std.proofs.Common.{inr, subst}
use Rattle.canonical_json.specs.Json.{Json}
use Rattle.drafting.specs.Targets.{IsUnlisted}
use Rattle.chain_drafting.specs.steps.Delegated.{delegation_changes_view}
use Rattle.drafting.specs.steps.Rows.{rows_view, texts_view}
use Rattle.chain_drafting.proofs.DelegationParts.{delegations_put}
use Rattle.chain_drafting.proofs.RoleRows.{shown_by_role}
use Rattle.drafting.proofs.Rows.{shown}
use Rattle.chain_drafting.proofs.delegating.put_delegations.Goals as goal

pub returns-clause-ok : goal.returns-clause-ok
returns-clause-ok c =
    delegations_put (delegation_changes_view c.args.changes.now) (shown c.take_object-inner.result.items) (shown c.take_rows.new.inner.items)
    (shown c.args.members.now.items) (shown c.take_object-inner.new.members.items) (shown c.put_or_drop.new.members.items)
    c.in_ok-list.list.items c.remove_all.new.targets.items c.put_each.new.list.items
    c.take_object-inner.ensures.object c.take_object-inner.ensures.others c.in_ok-list.ensures.rows c.take_rows.ensures.others
    c.in-Ok.ensures.ok c.in-Ok.ensures.rest c.in_ok-put_each.ensures c.in_ok-put_or_drop.ensures

pub returns-in-Err-clause-err : goal.returns-in-Err-clause-err
returns-in-Err-clause-err c =
    let h = c.in-Err.ensures.err in
    let rows = c.in_ok-list.list.items in
    inr (
      shown c.take_object-inner.result.items,
      rows_view rows,
      h.0,
      c.take_object-inner.ensures.object,
      c.in_ok-list.ensures.rows,
      subst (λ (v : Json). IsUnlisted (texts_view c.args.changes.now.undelegate.now) v h.0) (shown_by_role rows) h.1,
      h.2,
    )
