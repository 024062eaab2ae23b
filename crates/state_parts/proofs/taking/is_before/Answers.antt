use Rattle.std.proofs.Common.{sym, ◌∙◌}
use Rattle.trust_rules.proofs.PutInRoom.{none_before}
use Rattle.state_parts.proofs.taking.is_before.Goals as goal

pub returns : goal.returns
returns c = sym (none_before c.bytes.left.now c.bytes.right.now c.in_default.ensures.cases) ∙ c.bytes.invariant
