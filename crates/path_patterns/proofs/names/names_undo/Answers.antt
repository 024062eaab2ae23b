use Rattle.path_patterns.proofs.ConsistentNames.{asks_once, asked_by_one, asked_by_some}
use Rattle.path_patterns.proofs.names.names_undo.Goals as goal

pub returns : goal.returns
returns c = record { asks_once = asks_once; asked_by_one = asked_by_one; asked_by_some = asked_by_some }
