use Rattle.std.proofs.Common.{◌≡◌, ◌∷◌, [], List, inl, inr, map, length, sym, arith, rules}
use Rattle.sqlite_rules.specs.Lists.{Has}
use Rattle.leaf_plans.specs.Book.{LeafRow as Kept}
use Rattle.leaf_plans.specs.Views.{kept_view}
use Rattle.leaf_plans.specs.declared.entries.LeafRow.{LeafRow}
use Rattle.leaf_plans.proofs.Listed.{first_or_later, is_later}
use Rattle.signer.proofs.rivals_below.rival_under.Goals as goal

pub leaves-preserved : goal.leaves-preserved
leaves-preserved c =
    let rest = c.leaves.rest.now in
    let kept = c.in-Some.kept.now in
    let later = c.in-Some.later.now in
    let so = c.leaves.invariant in
    let is : rest ≡ kept ∷ later = search rules in (
      λ e h. so.0 e (is_later kept_view rest later kept e is h),
      λ q public h long leaf r.
          elim (first_or_later kept_view rest later kept _ is (so.1 q public h long leaf r)) [
            | inl here ↦ absurd ((rw c.in-Ok-None.field-0-is at c.in-Ok-None.ensures) q public (sym here) long leaf r)
            | inr there ↦ there
          ],
    )

none_left : (rest : List LeafRow) (e : Kept) → length rest ≡ 0 → Has (map kept_view rest) e → ⊥
none_left [] e none h = h
none_left (x ∷ rest) e none h = absurd (omega arith)

pub returns : goal.returns
returns c q public h long leaf r = none_left c.leaves.rest.now _ c.in_default.ensures.cases (c.leaves.invariant.1 q public h long leaf r)
