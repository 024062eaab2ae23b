use Rattle.std.proofs.Common.{ℕ, inl, inr, arith, subst}
use Rattle.std.proofs.lemmas.Bool.{cases_lt}
use Rattle.keys_roles.specs.Views.{id_text}
use Rattle.signer.specs.Below.{NamesParams}
use Rattle.signer.proofs.lower.lower_params.Goals as goal

pub leaves-preserved : goal.leaves-preserved
leaves-preserved g c = λ n other below h.
    elim (cases_lt n c.leaves.q) [
      | inl sooner ↦ c.leaves.invariant n other sooner h
      | inr here ↦ c.in_default.ensures other (subst (λ (k : ℕ). NamesParams c.args.book.now.book (id_text c.args.top.now) other k) (omega (arith, below, here)) h)
    ]

pub returns : goal.returns
returns g c = λ q params h.
    let within = c.used_within-count.ensures q h.0 h.1 in
    c.leaves.invariant q params (omega (arith, within, c.leaves-test.false)) h
