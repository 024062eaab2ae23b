use Rattle.http_serve.proofs.Unavailable.{as_served}
use Rattle.http_serve.proofs.laws.unavailable_is_served.Goals as goal

pub returns : goal.returns
returns c = as_served
