use Rattle.http_messages.specs.Request.{target}
use Rattle.http_serve.specs.Response.{asks}
use Rattle.http_serve.proofs.Unavailable.{of_command, of_want}
use Rattle.http_serve.proofs.serve.unavailable_target.Goals as goal
use Rattle.http_serve.proofs.serve.unavailable_target.Goals.{in-Ok, in-Err}

pub returns : goal.returns
returns c =
    elim c.match-read_asked.branch [
      | in-Ok w ↦ rw w.result-is (of_command (target c.args.text.now) _ (asks _ _ _ w.in-Ok.ensures))
      | in-Err w ↦ rw w.result-is (of_want (target c.args.text.now) tt)
    ]
