use Rattle.std.proofs.Common.{arith}
use Rattle.lms.proofs.Counts.{chain_steps_small, height_small}
use Rattle.lms.proofs.verifying.root_of.Goals as goal

pub leaf_hash-leaf-requires : goal.leaf_hash-leaf-requires
leaf_hash-leaf-requires c = omega (arith, chain_steps_small c.args.key.now.ots c.message_hash-hash.result)

pub root_over-requires : goal.root_over-requires
root_over-requires c = omega (arith, chain_steps_small c.args.key.now.ots c.message_hash-hash.result, height_small c.args.key.now.lms, c.requires.path)
