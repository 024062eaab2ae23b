use Rattle.std.proofs.Common.{refl}
use Rattle.http_serve.specs.Response.{of_done}
use Rattle.http_serve.proofs.Standings.{wrote}
use Rattle.http_serve.proofs.replies.write_done.Goals as goal

pub returns-clause-wrote : goal.returns-clause-wrote
returns-clause-wrote g c = (wrote _ _ _ _ c.write_response-written.ensures.ok c.write_response-written.ensures.err, of_done c.args.kind c.args.body.now refl refl refl)
