use Rattle.std.proofs.Common.{arith, sym}
use Rattle.delegations.proofs.Files.{rows_length}
use Rattle.delegations.proofs.rows.Rows.len.Goals as goal

pub returns : goal.returns
returns c = sym (rows_length c.args.self.now)

pub overflow_add-result : goal.overflow_add-result
overflow_add-result c = let few = c.requires in let same = rows_length c.args.self.now in omega (arith, few, same)
