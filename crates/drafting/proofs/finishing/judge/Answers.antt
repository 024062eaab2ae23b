use Rattle.drafting.proofs.finishing.judge.Goals as goal

pub returns-in-Err-clause-err : goal.returns-in-Err-clause-err
returns-in-Err-clause-err c = c.unfit_fault.ensures.denial c.args.kind c.args.file.now c.in-Err.ensures.fault
