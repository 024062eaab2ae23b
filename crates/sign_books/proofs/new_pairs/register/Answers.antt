use Rattle.sign_books.proofs.Leading.{registered}
use Rattle.sign_books.proofs.new_pairs.register.Goals as goal

pub returns-in-Ok : goal.returns-in-Ok
returns-in-Ok g c = registered _ _ c.args.pair.now.seed c.args.pair.now.params _ c.register_pair.ensures.registers

pub returns-in-Err : goal.returns-in-Err
returns-in-Err g c = registered _ _ c.args.pair.now.seed c.args.pair.now.params _ c.register_pair.ensures.registers
