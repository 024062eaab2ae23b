use Rattle.std.proofs.Common.{◌≡◌, false, true, refl, inr, subst, sym, ◌∙◌, arith}
use Rattle.canonical_json.specs.View.{view, items_view}
use Rattle.keys_roles.specs.Rules.{AreDistinct}
use Rattle.document_parts.specs.Bodies.{IsStep}
use Rattle.document_parts.specs.steps.Tables.{spelled_table}
use Rattle.layout_files.specs.steps.Spelled.{spelled_step, spelled_steps, step_names}
use Rattle.layout_files.proofs.LayoutsOnce.{step-once}
use Rattle.document_parts.specs.Documents as documents
use Rattle.document_parts.proofs.Elements.{distinct_views}
use Rattle.document_parts.proofs.Growing.{array_len, items_len}
use Rattle.document_parts.proofs.Once.{array-once}
use Rattle.layout_files.proofs.steps.read_steps.Goals as goal

pub returns-then-not-are_few-clause-err : goal.returns-then-not-are_few-clause-err
returns-then-not-are_few-clause-err c = inr (
  refl,
  λ t.
      let count = array_len (IsStep (spelled_table c.args.keys.now)) (view c.args.value.now) c.in-Some.items.now t.0 c.in-Some.ensures t.1.0 in
      let few = c.are_few.ensures.1 (omega (arith, count, t.1.1), omega (arith, count, t.1.2)) in
      let e : false ≡ true = sym c.if-not-are_few.true ∙ few in
      absurd (cc),
)

pub returns-then-are_distinct-clause-ok : goal.returns-then-are_distinct-clause-ok
returns-then-are_distinct-clause-ok c =
    let few = c.are_few.ensures.0 c.if-not-are_few.false in
    let count = items_len (IsStep (spelled_table c.args.keys.now)) c.in-Some.items.now (spelled_steps c.in_ok-steps.steps.items) c.in_ok-steps.ensures.ok in (
      (items_view c.in-Some.items.now, c.in-Some.ensures, c.in_ok-steps.ensures.ok),
      omega (arith, count, few.0),
      omega (arith, count, few.1),
      subst (λ ss. AreDistinct (step_names (spelled_steps ss))) c.deref.ensures.value ((distinct_views (λ (x : documents.Step). x.name) spelled_step _).0 (c.are_distinct.ensures.0 c.if-are_distinct.true)),
    )

pub returns-else-are_distinct-clause-err : goal.returns-else-are_distinct-clause-err
returns-else-are_distinct-clause-err c = inr (
  refl,
  λ t.
      let same = array-once (IsStep (spelled_table c.args.keys.now)) (step-once (spelled_table c.args.keys.now)) (view c.args.value.now) t.0 (spelled_steps c.in_ok-steps.steps.items) c.requires t.1.0
      (items_view c.in-Some.items.now, c.in-Some.ensures, c.in_ok-steps.ensures.ok) in
      let e : false ≡ true = sym c.if-are_distinct.false ∙ c.are_distinct.ensures.1 ((distinct_views (λ (x : documents.Step). x.name) spelled_step _).1 (subst (λ ss. AreDistinct (step_names (spelled_steps ss))) (sym c.deref.ensures.value) (subst (λ ss. AreDistinct (step_names ss)) same t.1.3))) in
      absurd (cc),
)
