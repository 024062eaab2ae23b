use Rattle.std.proofs.Common.{◌≡◌, ◌∷◌, inl, inr, rules}
use Rattle.leaf_plans.specs.Views.{kept_view}
use Rattle.leaf_plans.proofs.Listed.{first_or_later, is_later}
use Rattle.leaf_book.proofs.reading.place_of.Goals as goal

pub leaves-preserved : goal.leaves-preserved
leaves-preserved c =
    let rest = c.leaves.rest.now in
    let other = c.in-Some.other.now in
    let later = c.in-Some.later.now in
    let so = c.leaves.invariant in
    let is : rest ≡ other ∷ later = search rules in (
      λ e h. so.0 e (is_later kept_view rest later other e is h),
      λ new. so.1 (λ f h. elim (first_or_later kept_view rest later other f is h) [ inl here ↦ c.in-New.ensures f (inl here) | inr there ↦ new f there ]),
    )
