use Rattle.std.proofs.Common.{sym}
use Rattle.delegations.specs.Delegation.{before}
use Rattle.state_parts.specs.declared.parts.BlobLength.{BlobLength}
use Rattle.trust_rules.proofs.PutInRoom.{at_first, at_none}
use Rattle.state_parts.proofs.taking.length_place.Goals as goal

pub returns-in-Some-clause-place : goal.returns-in-Some-clause-place
returns-in-Some-clause-place c =
    at_first {X = BlobLength} (λ b. before c.args.digest.now.0 b.digest.0) c.args.lengths.now c.in-Some.at (sym c.in-Some.ensures)

pub returns-in-None-clause-place : goal.returns-in-None-clause-place
returns-in-None-clause-place c =
    at_none {X = BlobLength} (λ b. before c.args.digest.now.0 b.digest.0) c.args.lengths.now (sym c.in-None.ensures)
