use Rattle.delegations.proofs.Sound.{sound}
use Rattle.delegations.proofs.laws.search_is_sound.Goals as goal

pub returns : goal.returns
returns c = sound
