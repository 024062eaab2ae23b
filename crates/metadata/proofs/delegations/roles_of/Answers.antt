use Rattle.std.proofs.Common.{◌∷◌, [], List, ap, sym, subst, ◌∙◌}
use Rattle.std.proofs.lemmas.List.{map-append}
use Rattle.std.proofs.lemmas.Result.{err_from_is_err_and}
use Rattle.canonical_json.specs.View.{view, items_view}
use Rattle.document_parts.specs.Bodies.{IsDelegation}
use Rattle.document_parts.specs.Documents as plain
use Rattle.document_parts.specs.steps.Tables.{spelled_table}
use Rattle.metadata.specs.steps.Spelled.{spelled_delegation, spelled_list}
use Rattle.document_parts.proofs.Elements.{none_left}
use Rattle.document_parts.proofs.Found.{each_item_proper}
use Rattle.document_parts.proofs.Growing.{ItemsGrow, items_first, items_grow, items_left, items_done}
use Rattle.document_parts.proofs.Ill.{ill_again}
use Rattle.metadata.proofs.delegations.roles_of.Goals as goal

pub returns-in_err-role-clause-err : goal.returns-in_err-role-clause-err
returns-in_err-role-clause-err c =
    let p = err_from_is_err_and c.from_residual.result c.from_residual.ensures.1 in
    rw (p.1, p.2) (ill_again _ c.in_err-role.ensures.err
    (items_first (IsDelegation (spelled_table c.args.keys.now)) (items_view c.args.items.now) (items_view c.items.rest.now) (items_view c.in-Some.later.now) (view c.in-Some.item.now)
    (ap items_view c.in-Some.ensures.cases.0) c.items.invariant.left))

pub items-preserved : goal.items-preserved
items-preserved c =
    let all = items_view c.args.items.now in
    let rest = items_view c.items.rest.now in
    let later = items_view c.in-Some.later.now in
    let value = view c.in-Some.item.now in
    let at = ap items_view c.in-Some.ensures.cases.0 in
    let grown = items_grow (IsDelegation (spelled_table c.args.keys.now)) all rest later value (spelled_delegation c.in_ok-role.role) (spelled_list c.items.roles.items) at c.in_ok-role.ensures.ok c.items.invariant.grow in
    let items = ap spelled_list c.in_ok-push.ensures.items ∙ map-append spelled_delegation c.items.roles.items (c.in_ok-role.role ∷ []) in
    record {
      grow = subst (λ (z : List plain.Delegation). ItemsGrow (IsDelegation (spelled_table c.args.keys.now)) all later z) (sym items) grown;
      left = items_left (IsDelegation (spelled_table c.args.keys.now)) all rest later value at c.items.invariant.left;
      proper = (each_item_proper rest later value at c.items.invariant.proper).1;
    }

pub returns-clause-ok : goal.returns-clause-ok
returns-clause-ok c =
    items_done (IsDelegation (spelled_table c.args.keys.now)) (items_view c.args.items.now) (items_view c.items.rest.now) (spelled_list c.items.roles.items)
    (ap items_view (none_left c.items.rest.now c.in_default.ensures.cases)) c.items.invariant.grow
