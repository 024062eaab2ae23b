use Rattle.client.proofs.Asks.{fetch-asks}
use Rattle.client.proofs.Rounds.{fetched_all}
use Rattle.client.proofs.fetching.fetch_target.Goals as goal

pub returns-clause-fetches : goal.returns-clause-fetches
returns-clause-fetches g c = fetched_all g.F.Source.gives c.args.now c.args.path.now _ _ _ _ c.rounds.result c.rounds.ensures

pub returns-clause-asks : goal.returns-clause-asks
returns-clause-asks g c =
    let (S, at) = c.stands.ensures.somewhere in
    let (T, to, h) = c.rounds.ensures.moves S at in
    fetch-asks g.F.Source.gives c.args.now _ c.args.path.now _ _ S T _ h
