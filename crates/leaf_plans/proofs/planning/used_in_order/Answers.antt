use Rattle.std.proofs.Common.{rules, ◌≡◌, ◌≤◌, ◌+◌, ◌∷◌, ℕ, List, arith, inl, inr, map, subst, sym}
use Rattle.std.proofs.lemmas.Bool.{cases_lt}
use Rattle.sqlite_rules.specs.Lists.{Has}
use Rattle.keys_roles.specs.Views.{id_text}
use Rattle.leaf_plans.specs.Views.{kept_view}
use Rattle.leaf_plans.proofs.Listed.{is_first, is_later}
use Rattle.leaf_plans.proofs.planning.used_in_order.Goals as goal

pub leaves-preserved-then-is_of : goal.leaves-preserved-then-is_of
leaves-preserved-then-is_of c =
    let rest = c.leaves.rest.now in
    let kept = c.in-Some.kept.now in
    let later = c.in-Some.later.now in
    let so = c.leaves.invariant in
    let is : rest ≡ kept ∷ later = search rules in
    let most : c.saturating_add-next.result ≤ c.leaves.next + 1 = search rules in (
      λ e h. so.0 e (is_later kept_view rest later kept e is h),
      λ n below. elim (cases_lt n c.leaves.next) [
        | inl sooner ↦ so.1 n sooner
        | inr here ↦
            let same : c.leaves.next ≡ n = omega (arith, below, most, here) in
            subst (λ (k : ℕ). (message : List ℕ) × Has (map kept_view c.args.leaves.now) (record { key = id_text c.args.key.now; leaf = k; message = message })) same
            (kept.message.items, so.0 _ (is_first kept_view rest later kept _ is (sym c.if-is_of.ensures)))
      ],
    )
