use Rattle.std.proofs.Common.{map, string_bytes, ap}
use Rattle.std.proofs.lemmas.Result.{err_from_is_err_and}
use Rattle.canonical_json.specs.View.{view, items_view}
use Rattle.path_patterns.specs.Grammar.{IsHashPrefix}
use Rattle.document_parts.specs.Bodies.{IsTextOf}
use Rattle.document_parts.proofs.Elements.{none_left}
use Rattle.document_parts.proofs.Growing.{items_first, items_done}
use Rattle.document_parts.proofs.Ill.{ill_again}
use Rattle.document_parts.proofs.scopes.prefix_texts_of.Goals as goal

pub returns-in_err-prefix-clause-err : goal.returns-in_err-prefix-clause-err
returns-in_err-prefix-clause-err c =
    let p = err_from_is_err_and c.from_residual.result c.from_residual.ensures.1 in
    rw (p.1, p.2) (ill_again _ c.in_err-prefix.ensures.err
    (items_first (IsTextOf IsHashPrefix) (items_view c.args.items.now) (items_view c.items.rest.now) (items_view c.in-Some.later.now) (view c.in-Some.item.now)
    (ap items_view c.in-Some.ensures.cases.0) c.items.invariant.left))

pub returns-clause-ok : goal.returns-clause-ok
returns-clause-ok c =
    items_done (IsTextOf IsHashPrefix) (items_view c.args.items.now) (items_view c.items.rest.now) (map string_bytes c.items.prefixes.items)
    (ap items_view (none_left c.items.rest.now c.in_default.ensures.cases)) c.items.invariant.grow
