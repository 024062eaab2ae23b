use Rattle.std.proofs.Common.{refl}
use Rattle.http_serve.specs.Response.{of_fault}
use Rattle.http_serve.proofs.Standings.{wrote}
use Rattle.http_serve.proofs.replies.write_fault.Goals as goal

pub returns-clause-wrote : goal.returns-clause-wrote
returns-clause-wrote g c = (wrote _ _ _ _ c.write_fault-written.ensures.ok c.write_fault-written.ensures.err, of_fault c.args.fault c.status.ensures refl refl)
