use Rattle.http_messages.proofs.Asking.{one-request}
use Rattle.http_messages.proofs.request.one_request.Goals as goal

pub returns : goal.returns
returns c = one-request c.one_digest.ensures.one
