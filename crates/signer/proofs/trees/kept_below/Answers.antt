use Rattle.std.proofs.Common.{ℕ, List, inl, inr, arith, ap, sym, subst, ◌∙◌}
use Rattle.std.proofs.lemmas.Bool.{cases_lt}
use Rattle.leaf_plans.specs.Book.{Keeps}
use Rattle.signer.specs.Below.{IsHeldBelow}
use Rattle.signer.specs.Levels.{key_by}
use Rattle.signer.proofs.trees.kept_below.Goals as goal

pub trees-preserved : goal.trees-preserved
trees-preserved g c = λ n below.
    elim (cases_lt n c.trees.q) [
      | inl sooner ↦ c.trees.invariant n sooner
      | inr here ↦ subst (λ (k : ℕ). IsHeldBelow c.args.book.now.book c.args.pair.now c.args.message.now k → ⊥) (omega (arith, below, here))
          (λ held. c.in_default.ensures held.0 held.1)
    ]

pub returns : goal.returns
returns g c = λ n k.
    let within = c.used_within-count.ensures n k.1.0
    (subst (λ (key : List ℕ). Keeps c.args.book.now.book key n k.1.0) (sym (c.id_of.ensures ∙ ap key_by c.top.ensures)) k.1.1.0) in
    c.trees.invariant n (omega (arith, within, c.trees-test.false)) k
