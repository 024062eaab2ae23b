use Rattle.std.proofs.Common.{ℕ, ◌<◌}
use Rattle.keys_roles.specs.Views.{id_text}
use Rattle.lms.specs.declared.Params.{Params}
use Rattle.signer.specs.Below.{NamesParams}
use Rattle.signer.proofs.lower.lower_params.Given as goal

-- no leaf so far is kept for a public key
abbrev pub invariant-leaves : goal.invariant-leaves
invariant-leaves g l = (n : ℕ) (other : Params) → n < l.q → NamesParams l.book.book (id_text l.top) other n → ⊥
