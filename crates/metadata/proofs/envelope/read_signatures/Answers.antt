use Rattle.std.proofs.Common.{◌≡◌, false, true, refl, inr, subst, sym, ◌∙◌, arith}
use Rattle.canonical_json.specs.View.{view, items_view}
use Rattle.keys_roles.specs.Rules.{AreDistinct}
use Rattle.keys_roles.specs.Views.{entry_view, entries_view}
use Rattle.document_parts.specs.Members.{ItemsAre}
use Rattle.document_parts.specs.Parts.{IsEntry, ids_of}
use Rattle.keys_roles.specs.Plain as plain
use Rattle.document_parts.proofs.Elements.{distinct_views}
use Rattle.document_parts.proofs.Growing.{items_len, same_items}
use Rattle.document_parts.proofs.Once.{array-once}
use Rattle.document_parts.proofs.PartsOnce.{signature-once}
use Rattle.metadata.proofs.envelope.read_signatures.Goals as goal

pub returns-then-items-gt-MOST_SIGNATURES-clause-err : goal.returns-then-items-gt-MOST_SIGNATURES-clause-err
returns-then-items-gt-MOST_SIGNATURES-clause-err c = inr (
  refl,
  λ t.
      let same = same_items (view c.args.value.now) t.1.0.0 (items_view c.in-Some.items.now) t.1.0.1 c.in-Some.ensures in
      let count = items_len IsEntry c.in-Some.items.now t.0 (subst (λ vs. ItemsAre IsEntry vs t.0) same t.1.0.2) in
      absurd (omega (arith, count, t.1.1)),
)

pub returns-then-are_distinct-clause-ok : goal.returns-then-are_distinct-clause-ok
returns-then-are_distinct-clause-ok c =
    let count = items_len IsEntry c.in-Some.items.now (entries_view c.in_ok-signatures.signatures.items) c.in_ok-signatures.ensures.ok in
    ((items_view c.in-Some.items.now, c.in-Some.ensures, c.in_ok-signatures.ensures.ok), omega (arith, count), subst (λ ss. AreDistinct (ids_of (entries_view ss))) c.deref.ensures.value ((distinct_views (λ (x : plain.Signature). x.keyid) entry_view _).0 (c.are_distinct.ensures.0 c.if-are_distinct.true)))

pub returns-else-are_distinct-clause-err : goal.returns-else-are_distinct-clause-err
returns-else-are_distinct-clause-err c = inr (
  refl,
  λ t.
      let same = array-once IsEntry signature-once (view c.args.value.now) t.0 (entries_view c.in_ok-signatures.signatures.items) c.requires t.1.0
      (items_view c.in-Some.items.now, c.in-Some.ensures, c.in_ok-signatures.ensures.ok) in
      let e : false ≡ true = sym c.if-are_distinct.false ∙ c.are_distinct.ensures.1 ((distinct_views (λ (x : plain.Signature). x.keyid) entry_view _).1 (subst (λ ss. AreDistinct (ids_of (entries_view ss))) (sym c.deref.ensures.value) (subst (λ es. AreDistinct (ids_of es)) same t.1.2))) in
      absurd (cc),
)
