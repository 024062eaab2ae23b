use Rattle.std.proofs.Common.{◌≡◌, false, true, refl, inr, subst, sym, ◌∙◌, arith}
use Rattle.canonical_json.specs.View.{view, items_view}
use Rattle.keys_roles.specs.Rules.{AreDistinct}
use Rattle.document_parts.specs.Bodies.{IsDelegation}
use Rattle.document_parts.specs.steps.Tables.{spelled_table}
use Rattle.metadata.specs.steps.Spelled.{spelled_delegation, spelled_list, names_of}
use Rattle.document_parts.specs.Documents as documents
use Rattle.document_parts.proofs.DelegationsOnce.{delegation-once}
use Rattle.document_parts.proofs.Elements.{distinct_views}
use Rattle.document_parts.proofs.Growing.{array_len, items_len}
use Rattle.document_parts.proofs.Once.{array-once}
use Rattle.metadata.proofs.delegations.read_roles.Goals as goal

pub returns-then-items-gt-MOST_DELEGATIONS-clause-err : goal.returns-then-items-gt-MOST_DELEGATIONS-clause-err
returns-then-items-gt-MOST_DELEGATIONS-clause-err c = inr (
  refl,
  λ t.
      let count = array_len (IsDelegation (spelled_table c.args.keys.now)) (view c.args.value.now) c.in-Some.items.now t.0 c.in-Some.ensures t.1.0 in
      absurd (omega (arith, count, t.1.1)),
)

pub returns-then-are_distinct-clause-ok : goal.returns-then-are_distinct-clause-ok
returns-then-are_distinct-clause-ok c =
    let count = items_len (IsDelegation (spelled_table c.args.keys.now)) c.in-Some.items.now (spelled_list c.in_ok-roles.roles.items) c.in_ok-roles.ensures.ok in
    ((items_view c.in-Some.items.now, c.in-Some.ensures, c.in_ok-roles.ensures.ok), omega (arith, count), subst (λ ds. AreDistinct (names_of (spelled_list ds))) c.deref.ensures.value ((distinct_views (λ (x : documents.Delegation). x.name) spelled_delegation _).0 (c.are_distinct.ensures.0 c.if-are_distinct.true)))

pub returns-else-are_distinct-clause-err : goal.returns-else-are_distinct-clause-err
returns-else-are_distinct-clause-err c = inr (
  refl,
  λ t.
      let same = array-once (IsDelegation (spelled_table c.args.keys.now)) (delegation-once (spelled_table c.args.keys.now)) (view c.args.value.now) t.0 (spelled_list c.in_ok-roles.roles.items) c.requires t.1.0
      (items_view c.in-Some.items.now, c.in-Some.ensures, c.in_ok-roles.ensures.ok) in
      let e : false ≡ true = sym c.if-are_distinct.false ∙ c.are_distinct.ensures.1 ((distinct_views (λ (x : documents.Delegation). x.name) spelled_delegation _).1 (subst (λ ds. AreDistinct (names_of (spelled_list ds))) (sym c.deref.ensures.value) (subst (λ ds. AreDistinct (names_of ds)) same t.1.2))) in
      absurd (cc),
)
