use Rattle.std.proofs.Common.{◌≡◌, false, true, refl, inr, sym, ◌∙◌}
use Rattle.canonical_json.specs.View.{view}
use Rattle.document_parts.specs.steps.Tables.{texts_view, spelled_table}
use Rattle.document_parts.proofs.PartsOnce.{over_same}
use Rattle.document_parts.proofs.keys.read_role_rule.Goals as goal

pub returns-in_default-clause-err : goal.returns-in_default-clause-err
returns-in_default-clause-err c = inr (refl, λ r. c.in_default.ensures r.0.threshold r.1.1)

pub returns-else-is_over-clause-err : goal.returns-else-is_over-clause-err
returns-else-is_over-clause-err c = inr (
  refl,
  λ r.
      let over = over_same c.args.name.now (view c.args.value.now) (spelled_table c.args.table.now)
      record { keyids = texts_view c.in_ok-ids.ids.items; threshold = c.in-Some.threshold } r.0 c.requires
      (view c.in-Some-member_of.list.now, c.in-Some-member_of.ensures.found, c.in_ok-ids.ensures.ok) c.in-Some.ensures r.1 in
      let e : false ≡ true = sym c.if-is_over.false ∙ c.is_over.ensures.1 over in
      absurd (cc),
)
