use Rattle.std.proofs.Common.{arith}
use Rattle.path_patterns.proofs.Digits.{bytes_each}
use Rattle.path_patterns.proofs.digests.are_bytes.Goals as goal

pub returns : goal.returns
returns c = bytes_each c.args.bytes.now (λ i. omega (arith, c.type_inv.bytes i))
