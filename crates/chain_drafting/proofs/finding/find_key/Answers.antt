use Rattle.chain_drafting.proofs.finding.find_key.Goals as goal

pub returns-in-Err-clause-fault : goal.returns-in-Err-clause-fault
returns-in-Err-clause-fault c = c.held_fault.ensures.denial c.args.kind c.args.file.now c.in-Err.ensures.fault
