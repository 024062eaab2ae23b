use Rattle.std.proofs.Common.{[], ◌∷◌, subst, sym, true}
use Rattle.std.specs.Prelude.{is_ok}
use Rattle.cli_placing.specs.Calls.{did, give_mode}
use Rattle.cli_placing.specs.Puts.{Runs, modes, done}
use Rattle.cli_placing.proofs.Calling.{called_none, called_one, runs_one}
use Rattle.cli_placing.proofs.putting.given_mode.Goals as goal

pub returns-in-Some : goal.returns-in-Some
returns-in-Some g c = λ name names.
    let ok = is_ok c.give_mode.result in
    called_one _ _ _ _ (c.give_mode.ensures name names)
    (subst (λ stood. Runs (modes name stood) (did (give_mode name c.in-Some.mode) ok ∷ []) ok) (sym c.in-Some.is) (runs_one _ ok))

pub returns-in-None : goal.returns-in-None
returns-in-None g c = λ name names. called_none _ _ (subst (λ stood. Runs (modes name stood) [] true) (sym c.in-None.is) done)
