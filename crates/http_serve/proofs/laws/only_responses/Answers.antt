use Rattle.http_serve.proofs.OneResponse.{only-responses}
use Rattle.http_serve.proofs.laws.only_responses.Goals as goal

pub returns : goal.returns
returns c = only-responses
