use Rattle.std.proofs.Common.{◌≡◌, ◌∷◌, inl, inr, sym, rules}
use Rattle.leaf_plans.specs.Views.{kept_view}
use Rattle.leaf_plans.proofs.Listed.{first_or_later, is_later}
use Rattle.signer.proofs.trees.message_of.Goals as goal

pub leaves-preserved : goal.leaves-preserved
leaves-preserved c =
    let rest = c.leaves.rest.now in
    let kept = c.in-Some.kept.now in
    let later = c.in-Some.later.now in
    let so = c.leaves.invariant in
    let is : rest ≡ kept ∷ later = search rules in (
      λ e h. so.0 e (is_later kept_view rest later kept e is h),
      λ message h. elim (first_or_later kept_view rest later kept _ is (so.1 message h)) [ inl here ↦ absurd (c.if-is_of.ensures message (sym here)) | inr there ↦ there ],
    )
