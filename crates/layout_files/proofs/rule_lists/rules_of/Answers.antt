use Rattle.std.proofs.Common.{◌∷◌, [], List, map, ap, sym, subst, ◌∙◌}
use Rattle.std.proofs.lemmas.List.{map-append}
use Rattle.std.proofs.lemmas.Result.{err_from_is_err_and}
use Rattle.canonical_json.specs.View.{view, items_view}
use Rattle.document_parts.specs.Bodies.{IsListedRule}
use Rattle.document_parts.specs.RuleViews.{rule_view}
use Rattle.document_parts.specs.Rules.{ArtifactRule}
use Rattle.document_parts.proofs.Elements.{none_left}
use Rattle.document_parts.proofs.Growing.{ItemsGrow, items_first, items_grow, items_left, items_done}
use Rattle.document_parts.proofs.Ill.{ill_again}
use Rattle.layout_files.proofs.rule_lists.rules_of.Goals as goal

pub returns-in_err-rule-clause-err : goal.returns-in_err-rule-clause-err
returns-in_err-rule-clause-err c =
    let p = err_from_is_err_and c.from_residual.result c.from_residual.ensures.1 in
    rw (p.1, p.2) (ill_again _ c.in_err-rule.ensures.err
    (items_first IsListedRule (items_view c.args.items.now) (items_view c.items.rest.now) (items_view c.in-Some.later.now) (view c.in-Some.item.now)
    (ap items_view c.in-Some.ensures.cases.0) c.items.invariant.left))

pub items-preserved : goal.items-preserved
items-preserved c =
    let all = items_view c.args.items.now in
    let rest = items_view c.items.rest.now in
    let later = items_view c.in-Some.later.now in
    let value = view c.in-Some.item.now in
    let at = ap items_view c.in-Some.ensures.cases.0 in
    let grown = items_grow IsListedRule all rest later value (rule_view c.in_ok-rule.rule) (map rule_view c.items.rules.items) at c.in_ok-rule.ensures.ok c.items.invariant.grow in
    let items = ap (map rule_view) c.in_ok-push.ensures.items ∙ map-append rule_view c.items.rules.items (c.in_ok-rule.rule ∷ []) in
    record {
      grow = subst (λ (z : List ArtifactRule). ItemsGrow IsListedRule all later z) (sym items) grown;
      left = items_left IsListedRule all rest later value at c.items.invariant.left;
    }

pub returns-clause-ok : goal.returns-clause-ok
returns-clause-ok c =
    items_done IsListedRule (items_view c.args.items.now) (items_view c.items.rest.now) (map rule_view c.items.rules.items)
    (ap items_view (none_left c.items.rest.now c.in_default.ensures.cases)) c.items.invariant.grow
