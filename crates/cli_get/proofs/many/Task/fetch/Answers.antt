use Rattle.client.proofs.Composing.{becomes}
use Rattle.cli_get.proofs.many.Task.fetch.Goals as goal

pub returns : goal.returns
returns g c = becomes _ _ c.fetch_by_each-done.ensures.serves (λ C D p. (p.1, λ clean. (p.2 clean).0))
