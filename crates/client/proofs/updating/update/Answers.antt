use Rattle.client.proofs.Asks.{update-asks}
use Rattle.client.proofs.Composing.{becomes}
use Rattle.client.proofs.Runs.{update-runs}
use Rattle.client.proofs.updating.update.Goals as goal

pub returns-clause-updates : goal.returns-clause-updates
returns-clause-updates g c = becomes _ _ c.up_to_date.ensures (λ C D h. (h, update-runs g.F.Source.gives c.args.now _ _ C D _ h))

pub returns-clause-asks : goal.returns-clause-asks
returns-clause-asks g c =
    let (S, at) = c.stands.ensures.somewhere in
    let (T, to, h) = c.up_to_date.ensures.moves S at in
    update-asks g.F.Source.gives c.args.now _ _ S T _ h
