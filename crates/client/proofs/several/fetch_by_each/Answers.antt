use Rattle.std.proofs.Common.{[]}
use Rattle.trust_rules.proofs.ShapedOnce.{Shapes}
use Rattle.client.specs.Session.{Fetches}
use Rattle.client.specs.Several.{IsLast}
use Rattle.client.proofs.Asks.{fetch-asks}
use Rattle.client.proofs.Composing.{becomes_at}
use Rattle.client.proofs.OneServes.{granted_by_each, one_serves}
use Rattle.client.proofs.Runs.{fetch-runs}
use Rattle.client.proofs.Turning.{turns-ask, turns-run}
use Rattle.client.proofs.several.fetch_by_each.Goals as goal

pub returns-clause-serves : goal.returns-clause-serves
returns-clause-serves g c =
    let shapes : Shapes = record { document = c.one_document.ensures; none = c.one_shape.ensures.none; one = c.one_shape.ensures.one } in
    becomes_at _ _ c.fetches.ensures (λ C D at h. (
      h,
      turns-run g.F.Sources.turns g.F.Sources.tells (Fetches _ g.F.Source.gives c.args.now c.args.path.now []) IsLast c.args.now (fetch-runs _ g.F.Source.gives c.args.now c.args.path.now []) 0 c.args.count _ _ _ _ C D h,
      λ trust. (
        granted_by_each _ g.F.Source.gives g.F.Sources.turns g.F.Sources.tells c.args.now c.args.count c.args.path.now _ _ C D _ h trust,
        one_serves c.laws.ensures.news c.laws.ensures.grants c.laws.ensures.steps shapes _ _ g.F.Source.gives g.F.Sources.turns g.F.Sources.tells c.args.count c.args.now c.args.path.now _ _ C D _ trust at.state.valid c.as_str-text.ensures.path h,
      ),
    ))

pub returns-clause-asks : goal.returns-clause-asks
returns-clause-asks g c =
    let (S, at) = c.stands.ensures.somewhere in
    let (T, to, h) = c.fetches.ensures.moves S at in
    turns-ask g.F.Source.gives g.F.Sources.turns g.F.Sources.tells (Fetches _ g.F.Source.gives c.args.now c.args.path.now []) IsLast 194
    (λ s t C D r k. let few = fetch-asks g.F.Source.gives c.args.now _ c.args.path.now s t C D r k in record { list = few.list; asked = few.asked; few = few.few })
    0 c.args.count _ _ _ _ S T h
