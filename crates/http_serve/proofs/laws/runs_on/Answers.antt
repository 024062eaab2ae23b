use Rattle.http_serve.proofs.OneResponse.{runs-on}
use Rattle.http_serve.proofs.laws.runs_on.Goals as goal

pub returns : goal.returns
returns c = runs-on
