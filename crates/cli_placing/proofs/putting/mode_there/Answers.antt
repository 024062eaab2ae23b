use Rattle.cli_placing.specs.Puts.{not_seen}
use Rattle.cli_placing.proofs.Calling.{called_one, called_other}
use Rattle.cli_placing.proofs.putting.mode_there.Goals as goal

pub returns-in-Ok-Other-clause-none : goal.returns-in-Ok-Other-clause-none
returns-in-Ok-Other-clause-none g c = called_other _ _ c.args.place.now c.in-Ok-Other.field-0 c.in-Ok-Other.field-0-is c.in-Ok-Other.ensures

pub returns-in-Err-clause-none : goal.returns-in-Err-clause-none
returns-in-Err-clause-none g c = called_one _ _ _ _ c.in-Err.ensures (λ bytes mode. not_seen)
