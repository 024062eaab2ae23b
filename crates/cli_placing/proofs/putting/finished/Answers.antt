use Rattle.std.proofs.Common.{[], ◌∷◌, false}
use Rattle.cli_placing.specs.Calls.{write, sync, rename}
use Rattle.cli_placing.specs.Puts.{Runs, fails, modes}
use Rattle.cli_placing.proofs.Calling.{called_failed, called_one, called_run, called_step, called_stop}
use Rattle.cli_placing.proofs.putting.finished.Goals as goal

pub returns-in_err-write : goal.returns-in_err-write
returns-in_err-write g c = λ names.
    let told = (c.in_err-write.ensures c.args.beside.now names).1 in
    called_stop _ _ (write c.args.beside.now c.args.bytes.now ∷ []) _ c.from_residual.result c.from_residual.ensures.0 (called_step _ _ _ _ told)

pub returns-in_err-given_mode : goal.returns-in_err-given_mode
returns-in_err-given_mode g c = λ names.
    let begun = c.in_ok-write.ensures c.args.beside.now names in
    let written = called_step _ _ (write c.args.beside.now c.args.bytes.now) _ begun.1 in
    let last = c.in_err-given_mode.ensures c.args.beside.now begun.0 in
    called_stop _ _ (write c.args.beside.now c.args.bytes.now ∷ modes c.args.beside.now c.args.stood) _ c.from_residual-in_err-given_mode.result
    c.from_residual-in_err-given_mode.ensures.0 (called_run _ _ _ _ _ _ written last)

pub returns-in_err-sync : goal.returns-in_err-sync
returns-in_err-sync g c = λ names.
    let beside = c.args.beside.now in
    let begun = c.in_ok-write.ensures beside names in
    let written = called_step _ _ (write beside c.args.bytes.now) _ begun.1 in
    let given = called_run _ _ _ _ _ _ written (c.in_ok-given_mode.ensures beside begun.0) in
    let rest = rename beside c.args.place.now ∷ [] in
    let last = called_one _ _ _ (λ calls. Runs (sync beside ∷ rest) calls false) (c.in_err-sync.ensures beside begun.0) (fails (sync beside) rest) in
    called_failed _ _ _ c.from_residual-in_err-sync.result c.from_residual-in_err-sync.ensures.0
    (called_run _ _ _ (write beside c.args.bytes.now ∷ modes beside c.args.stood) (sync beside ∷ rest) _ given last)

pub returns : goal.returns
returns g c = λ names.
    let beside = c.args.beside.now in
    let begun = c.in_ok-write.ensures beside names in
    let written = called_step _ _ (write beside c.args.bytes.now) _ begun.1 in
    let given = called_run _ _ _ _ _ _ written (c.in_ok-given_mode.ensures beside begun.0) in
    let synced = called_step _ _ (sync beside) _ (c.in_ok-sync.ensures beside begun.0) in
    let renamed = called_step _ _ (rename beside c.args.place.now) _ c.rename.ensures in
    called_run _ _ _ (write beside c.args.bytes.now ∷ modes beside c.args.stood) (sync beside ∷ rename beside c.args.place.now ∷ []) _ given
    (called_run _ _ _ (sync beside ∷ []) (rename beside c.args.place.now ∷ []) _ synced renamed)
