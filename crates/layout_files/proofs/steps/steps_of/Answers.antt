use Rattle.std.proofs.Common.{◌∷◌, [], List, ap, sym, subst, ◌∙◌}
use Rattle.std.proofs.lemmas.List.{map-append}
use Rattle.std.proofs.lemmas.Result.{err_from_is_err_and}
use Rattle.canonical_json.specs.View.{view, items_view}
use Rattle.document_parts.specs.Bodies.{IsStep}
use Rattle.document_parts.specs.Documents as plain
use Rattle.document_parts.specs.steps.Tables.{spelled_table}
use Rattle.layout_files.specs.steps.Spelled.{spelled_step, spelled_steps}
use Rattle.document_parts.proofs.Elements.{none_left}
use Rattle.document_parts.proofs.Found.{each_item_proper}
use Rattle.document_parts.proofs.Growing.{ItemsGrow, items_first, items_grow, items_left, items_done}
use Rattle.document_parts.proofs.Ill.{ill_again}
use Rattle.layout_files.proofs.steps.steps_of.Goals as goal

pub returns-in_err-step-clause-err : goal.returns-in_err-step-clause-err
returns-in_err-step-clause-err c =
    let p = err_from_is_err_and c.from_residual.result c.from_residual.ensures.1 in
    rw (p.1, p.2) (ill_again _ c.in_err-step.ensures.err
    (items_first (IsStep (spelled_table c.args.keys.now)) (items_view c.args.items.now) (items_view c.items.rest.now) (items_view c.in-Some.later.now) (view c.in-Some.item.now)
    (ap items_view c.in-Some.ensures.cases.0) c.items.invariant.left))

pub items-preserved : goal.items-preserved
items-preserved c =
    let all = items_view c.args.items.now in
    let rest = items_view c.items.rest.now in
    let later = items_view c.in-Some.later.now in
    let value = view c.in-Some.item.now in
    let at = ap items_view c.in-Some.ensures.cases.0 in
    let grown = items_grow (IsStep (spelled_table c.args.keys.now)) all rest later value (spelled_step c.in_ok-step.step) (spelled_steps c.items.steps.items) at c.in_ok-step.ensures.ok c.items.invariant.grow in
    let items = ap spelled_steps c.in_ok-push.ensures.items ∙ map-append spelled_step c.items.steps.items (c.in_ok-step.step ∷ []) in
    record {
      grow = subst (λ (z : List plain.Step). ItemsGrow (IsStep (spelled_table c.args.keys.now)) all later z) (sym items) grown;
      left = items_left (IsStep (spelled_table c.args.keys.now)) all rest later value at c.items.invariant.left;
      proper = (each_item_proper rest later value at c.items.invariant.proper).1;
    }

pub returns-clause-ok : goal.returns-clause-ok
returns-clause-ok c =
    items_done (IsStep (spelled_table c.args.keys.now)) (items_view c.args.items.now) (items_view c.items.rest.now) (spelled_steps c.items.steps.items)
    (ap items_view (none_left c.items.rest.now c.in_default.ensures.cases)) c.items.invariant.grow
