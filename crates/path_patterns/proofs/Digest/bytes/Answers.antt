use Rattle.std.proofs.Common.{arith}
use Rattle.path_patterns.proofs.Digest.bytes.Goals as goal

pub returns-clause-digest : goal.returns-clause-digest
returns-clause-digest c = (omega arith, c.are_bytes.ensures)
