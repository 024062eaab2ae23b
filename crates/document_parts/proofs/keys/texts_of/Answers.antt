use Rattle.document_parts.proofs.Elements.{none_left}
use Rattle.std.proofs.Common.{refl, ap, inr}
use Rattle.canonical_json.specs.View.{view, items_view}
use Rattle.document_parts.specs.Members.{IsText}
use Rattle.document_parts.specs.steps.Tables.{texts_view}
use Rattle.document_parts.proofs.Growing.{items_fail, items_done}
use Rattle.document_parts.proofs.keys.texts_of.Goals as goal

pub returns-in_default-text_of-clause-err : goal.returns-in_default-text_of-clause-err
returns-in_default-text_of-clause-err c =
    inr (
      refl,
      items_fail IsText (items_view c.args.items.now) (items_view c.items.rest.now) (items_view c.in-Some.later.now) (view c.in-Some.item.now)
          (ap items_view c.in-Some.ensures.cases.0) c.items.invariant.left c.in_default-text_of.ensures,
    )

pub returns-clause-ok : goal.returns-clause-ok
returns-clause-ok c =
    items_done IsText (items_view c.args.items.now) (items_view c.items.rest.now) (texts_view c.items.texts.items) (ap items_view (none_left c.items.rest.now c.in_default.ensures.cases)) c.items.invariant.grow
