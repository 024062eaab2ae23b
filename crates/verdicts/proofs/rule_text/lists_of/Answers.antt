use Rattle.std.proofs.Common.{ap}
use Rattle.std.proofs.lemmas.Result.{err_from_is_err_and}
use Rattle.canonical_json.specs.View.{view, items_view}
use Rattle.document_parts.specs.Members.{IsArray, IsText, ItemsAre}
use Rattle.document_parts.proofs.Elements.{none_left}
use Rattle.document_parts.proofs.Growing.{items_first, items_done}
use Rattle.verdicts.specs.RuleCase.{lists_view}
use Rattle.verdicts.proofs.Parts.{by_shape}
use Rattle.verdicts.proofs.rule_text.lists_of.Goals as goal

pub returns-in_err-texts-clause-fault : goal.returns-in_err-texts-clause-fault
returns-in_err-texts-clause-fault c =
    let p = err_from_is_err_and c.from_residual.result c.from_residual.ensures.1 in
    let all = items_view c.args.items.now in
    rw (p.1, p.2) (by_shape (ItemsAre (IsArray IsText) all) _ _ c.in_err-texts.ensures.err (λ ls is.
    items_first (IsArray IsText) all (items_view c.items.rest.now) (items_view c.in-Some.later.now) (view c.in-Some.item.now)
    (ap items_view c.in-Some.ensures.cases.0) c.items.invariant.left (ls, is)))

pub returns-clause-ok : goal.returns-clause-ok
returns-clause-ok c =
    items_done (IsArray IsText) (items_view c.args.items.now) (items_view c.items.rest.now) (lists_view c.items.lists.items)
    (ap items_view (none_left c.items.rest.now c.in_default.ensures.cases)) c.items.invariant.grow
