use Rattle.http_messages.proofs.Frames.{one-batch}
use Rattle.http_messages.proofs.framing.one_batch.Goals as goal

pub returns : goal.returns
returns c = one-batch
