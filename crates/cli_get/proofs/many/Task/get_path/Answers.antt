use Rattle.client.proofs.Composing.{becomes}
use Rattle.cli_get.proofs.Several.{granted_by}
use Rattle.cli_get.proofs.many.Task.get_path.Goals as goal

pub got-requires : goal.got-requires
got-requires g c =
    let (U, at) = c.stands.ensures.somewhere in granted_by c.args.path.now c.args.self.now.moment _ _ U c.fetch-fetched.result.0 at c.fetch-fetched.ensures

pub returns : goal.returns
returns g c = becomes _ _ c.fetch-fetched.ensures (λ C D p. p.0)
