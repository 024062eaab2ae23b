use Rattle.client.proofs.Composing.{becomes}
use Rattle.cli_get.proofs.Fetching.{fetched_as, fetched_not}
use Rattle.cli_get.proofs.getting.FetchingWork.work.Goals as goal

pub returns-in-Ok : goal.returns-in-Ok
returns-in-Ok g c =
    fetched_as _ _ c.args.self.now.path.now c.args.self.now.now _ _ c.in-Ok.bytes c.in-Ok.is
    (becomes _ _ c.fetch_by_each-done.ensures.serves (λ C D p. (p.0, p.1, λ clean. (p.2 clean).0)))

pub returns-in-Err : goal.returns-in-Err
returns-in-Err g c =
    fetched_not _ _ c.args.self.now.path.now c.args.self.now.now _ _ c.in-Err.fault c.told.result c.in-Err.is
    (becomes _ _ c.fetch_by_each-done.ensures.serves (λ C D p. (p.0, p.1, λ clean. (p.2 clean).0)))
