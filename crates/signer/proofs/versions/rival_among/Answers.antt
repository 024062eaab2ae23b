use Rattle.std.proofs.Common.{◌≡◌, ◌∷◌, [], ℕ, List, inl, inr, map, length, sym, arith, rules}
use Rattle.leaf_plans.specs.Views.{kept_view}
use Rattle.leaf_plans.specs.declared.entries.LeafRow.{LeafRow}
use Rattle.leaf_plans.proofs.Deciding.{when_false}
use Rattle.leaf_plans.proofs.Listed.{first_or_later, is_later}
use Rattle.signer.specs.Versions.{IsRivalLeaf}
use Rattle.signer.proofs.versions.rival_among.Goals as goal

pub leaves-preserved : goal.leaves-preserved
leaves-preserved c =
    let rest = c.leaves.rest.now in
    let kept = c.in-Some.kept.now in
    let later = c.in-Some.later.now in
    let so = c.leaves.invariant in
    let is : rest ≡ kept ∷ later = search rules in (
      λ e h. so.0 e (is_later kept_view rest later kept e is h),
      λ leaf h.
          let r = so.1 leaf h in
          elim (first_or_later kept_view rest later kept _ is r.1) [
            | inl here ↦ absurd (when_false _ _ c.in_ok-found.found c.if-found.false c.in_ok-found.ensures leaf r.0 (sym here) r.2)
            | inr there ↦ (r.0, there, r.2)
          ],
    )

none_left : (rest : List LeafRow) (key message : List ℕ) (leaf : ℕ) → length rest ≡ 0 → IsRivalLeaf (map kept_view rest) key message leaf → ⊥
none_left [] key message leaf none r = r.1
none_left (e ∷ rest) key message leaf none r = absurd (omega arith)

pub returns : goal.returns
returns c leaf h = none_left c.leaves.rest.now _ _ leaf c.in_default.ensures.cases (c.leaves.invariant.1 leaf h)
