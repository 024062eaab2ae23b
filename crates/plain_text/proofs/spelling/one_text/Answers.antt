use Rattle.plain_text.proofs.OneText.{one_list, one_text}
use Rattle.plain_text.proofs.spelling.one_text.Goals as goal

pub returns : goal.returns
returns c = record { characters = one_list; texts = one_text }
