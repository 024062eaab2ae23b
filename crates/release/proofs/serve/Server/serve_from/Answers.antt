use Rattle.release.specs.Serving.{none}
use Rattle.release.proofs.serve.Server.serve_from.Goals as goal

pub returns-in-Err : goal.returns-in-Err
returns-in-Err g c = none
