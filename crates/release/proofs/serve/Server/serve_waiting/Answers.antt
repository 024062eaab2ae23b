use Rattle.release.specs.Serving.{none}
use Rattle.release.proofs.serve.Server.serve_waiting.Goals as goal

pub returns-in-None : goal.returns-in-None
returns-in-None g c = none
