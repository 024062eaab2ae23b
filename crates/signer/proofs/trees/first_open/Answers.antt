use Rattle.std.proofs.Common.{ℕ, List, inl, inr, arith, ap, sym, subst, ◌∙◌}
use Rattle.std.proofs.lemmas.Bool.{cases_lt}
use Rattle.leaf_plans.specs.Book.{Keeps}
use Rattle.signer.specs.Below.{HasLeafBelow}
use Rattle.signer.specs.Levels.{key_by}
use Rattle.signer.proofs.trees.first_open.Goals as goal

pub trees-preserved : goal.trees-preserved
trees-preserved g c = λ n below.
    elim (cases_lt n c.trees.q) [
      | inl sooner ↦ c.trees.invariant n sooner
      | inr here ↦ subst (λ (k : ℕ). HasLeafBelow c.args.book.now.book c.args.pair.now k → ⊥) (omega (arith, below, here)) c.if-is_open.ensures
    ]

pub returns : goal.returns
returns g c = λ n k.
    let within = c.used_within-count.ensures n k.0
    (subst (λ (key : List ℕ). Keeps c.args.book.now.book key n k.0) (sym (c.id_of.ensures ∙ ap key_by c.top.ensures)) k.1.0) in
    c.trees.invariant n (omega (arith, within, c.trees-test.false)) k
