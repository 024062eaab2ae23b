use Rattle.std.proofs.Common.{false}
use Rattle.http_serve.proofs.OneResponse.{one-response}
use Rattle.http_serve.proofs.laws.one_response.Goals as goal

pub returns : goal.returns
returns c = one-response c.names_undo.ensures.asks_once c.one_judgement.ensures.steps (c.one_request.ensures false)
