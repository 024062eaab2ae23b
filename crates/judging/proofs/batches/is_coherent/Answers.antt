use Rattle.judging.proofs.ChangesMake.{coherent_as}
use Rattle.judging.proofs.batches.is_coherent.Goals as goal

pub returns : goal.returns
returns c = coherent_as c.timestamp.ensures c.snapshot.ensures c.rows.ensures.view c.are_coherent.ensures
