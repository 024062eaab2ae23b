use Rattle.std.proofs.Common.{Err}
use Rattle.std.proofs.lemmas.Result.{err_from_is_err_and}
use Rattle.denials.specs.Orders.{Order}
use Rattle.trusted_state.specs.Answers.{Gives, denies, forgoes, gives}
use Rattle.trusted_state.specs.declared.refusal.Refusal.{Refusal}
use Rattle.trusted_state.proofs.OrderSteps.{given_by}
use Rattle.granting.proofs.seeing.search_of.Goals as goal

-- a denial is one, whatever would have been given
same_denial : {A B Y : Type 0} {m : Order B} {view : A → B} {wide : Y → B} {r : Refusal} → Gives m view (Err r) → Gives m wide (Err r)
same_denial (denies h) = denies h
same_denial forgoes = forgoes

pub returns-in_err-shelf-clause-shelf : goal.returns-in_err-shelf-clause-shelf
returns-in_err-shelf-clause-shelf c =
    let p = err_from_is_err_and c.from_residual.result c.from_residual.ensures.1 in
    rw (p.1, p.2) (same_denial c.in_err-shelf.ensures.shelf)

pub returns-clause-shelf : goal.returns-clause-shelf
returns-clause-shelf c = gives (given_by c.in_ok-shelf.ensures.shelf)
