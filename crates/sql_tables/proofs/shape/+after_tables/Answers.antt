use Rattle.std.proofs.Common.{arith}
use Rattle.sql_tables.proofs.Shapes.{blank, first_fits}
use Rattle.sql_tables.proofs.shape.+after_tables.Goals as goal

pub past-requires : goal.past-requires
past-requires t c = omega (arith, c.requires, first_fits c.args.tree c.args.described.now blank c.in-len1-up.len_at_least)
