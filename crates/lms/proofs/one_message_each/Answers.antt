use Rattle.lms.proofs.HssLaws.{one_signed}
use Rattle.lms.proofs.one_message_each.Goals as goal

pub returns : goal.returns
returns c params below identifier secret f g m n leaves a b one s t = one_signed below params identifier secret f g m n leaves a b one s t
