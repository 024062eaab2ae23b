use Rattle.std.proofs.Common.{◌≡◌, ℕ, List, inl, inr, arith, map, subst}
use Rattle.std.proofs.lemmas.Bool.{cases_lt}
use Rattle.sqlite_rules.specs.Lists.{Has}
use Rattle.keys_roles.specs.Views.{id_text}
use Rattle.leaf_plans.specs.Views.{kept_view}
use Rattle.leaf_plans.proofs.planning.least_unused.Goals as goal

pub numbers-preserved : goal.numbers-preserved
numbers-preserved c = λ n below.
    elim (cases_lt n c.numbers.leaf) [
      | inl sooner ↦ c.numbers.invariant n sooner
      | inr here ↦
          let same : c.numbers.leaf ≡ n = omega (arith, below, here) in
          subst (λ (k : ℕ). (message : List ℕ) × Has (map kept_view c.args.leaves.now) (record { key = id_text c.args.key.now; leaf = k; message = message })) same c.if-not-is_used.ensures
    ]
