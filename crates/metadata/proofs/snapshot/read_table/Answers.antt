use Rattle.std.proofs.Common.{◌≡◌, ℕ, List, false, true, codes, map, refl, inr, subst, sym, ap, ◌∙◌, arith}
use Rattle.std.specs.List.{AllByRecursion, Contains}
use Rattle.canonical_json.specs.View.{view, members_view}
use Rattle.document_parts.specs.Bodies.{IsMetaRow, IsListable}
use Rattle.document_parts.specs.Documents.{MetaFile}
use Rattle.document_parts.specs.Members.{MembersAre}
use Rattle.metadata.specs.steps.Entries.{rows_view}
use Rattle.document_parts.proofs.Found.{meta-row-once}
use Rattle.document_parts.proofs.Growing.{members_len, same_members}
use Rattle.document_parts.proofs.Once.{object-once}
use Rattle.metadata.proofs.snapshot.read_table.Goals as goal

pub returns-then-members-gt-MOST_ROLES-clause-err : goal.returns-then-members-gt-MOST_ROLES-clause-err
returns-then-members-gt-MOST_ROLES-clause-err c = inr (
  refl,
  λ t.
      let same = same_members (view c.args.value.now) t.1.each.0 (members_view c.in-Some.members.now) t.1.each.1 c.in-Some.ensures in
      let count = members_len IsMetaRow c.in-Some.members.now t.0 (subst (λ ms. MembersAre IsMetaRow ms t.0) same t.1.each.2) in
      absurd (omega (arith, count, t.1.most)),
)

pub returns-then-not-is_listed-clause-err : goal.returns-then-not-is_listed-clause-err
returns-then-not-is_listed-clause-err c = inr (
  refl,
  λ t.
      let same = object-once IsMetaRow meta-row-once (view c.args.value.now) t.0 (rows_view c.in_ok-rows.rows.items) c.requires t.1.each
      (members_view c.in-Some.members.now, c.in-Some.ensures, c.in_ok-rows.ensures.ok) in
      let found = same ∙ ap rows_view (sym c.deref.ensures.value) in
      let listed = c.is_listed.ensures.1 (subst (λ (z : List (List ℕ × MetaFile)). Contains (map (λ e. e.0) z) (codes "targets")) found t.1.targets) in
      let e : false ≡ true = sym c.if-not-is_listed.true ∙ listed in
      absurd (cc),
)

pub returns-else-are_listable-clause-err : goal.returns-else-are_listable-clause-err
returns-else-are_listable-clause-err c = inr (
  refl,
  λ t.
      let same = object-once IsMetaRow meta-row-once (view c.args.value.now) t.0 (rows_view c.in_ok-rows.rows.items) c.requires t.1.each
      (members_view c.in-Some.members.now, c.in-Some.ensures, c.in_ok-rows.ensures.ok) in
      let found = same ∙ ap rows_view (sym c.deref-2.ensures.value) in
      let listable = c.are_listable.ensures.1 (subst (λ (z : List (List ℕ × MetaFile)). AllByRecursion (λ e. IsListable e.0) z) found t.1.listable) in
      let e : false ≡ true = sym c.if-are_listable.false ∙ listable in
      absurd (cc),
)

pub returns-then-are_listable-clause-ok : goal.returns-then-are_listable-clause-ok
returns-then-are_listable-clause-ok c =
    let count = members_len IsMetaRow c.in-Some.members.now (rows_view c.in_ok-rows.rows.items) c.in_ok-rows.ensures.ok in
    record {
      each = (members_view c.in-Some.members.now, c.in-Some.ensures, c.in_ok-rows.ensures.ok);
      most = omega (arith, count);
      targets = subst (λ (z : List (List ℕ × MetaFile)). Contains (map (λ e. e.0) z) (codes "targets")) (ap rows_view c.deref.ensures.value)
          (c.is_listed.ensures.0 c.if-not-is_listed.false);
      listable = subst (λ (z : List (List ℕ × MetaFile)). AllByRecursion (λ e. IsListable e.0) z) (ap rows_view c.deref-2.ensures.value)
          (c.are_listable.ensures.0 c.if-are_listable.true);
    }
