use Rattle.trust_rules.proofs.ShapedOnce.{Shapes}
use Rattle.client.specs.Session.{Updates}
use Rattle.client.specs.Several.{IsWanting}
use Rattle.client.proofs.Asks.{update-asks}
use Rattle.client.proofs.Composing.{becomes_at}
use Rattle.client.proofs.OneBrings.{one_brings}
use Rattle.client.proofs.Runs.{update-runs}
use Rattle.client.proofs.Turning.{turns-ask, turns-run}
use Rattle.client.proofs.several.update_by_each.Goals as goal

pub returns-clause-brings : goal.returns-clause-brings
returns-clause-brings g c =
    let shapes : Shapes = record { document = c.one_document.ensures; none = c.one_shape.ensures.none; one = c.one_shape.ensures.one } in
    becomes_at _ _ c.updates.ensures (λ C D at h. (
      h,
      one_brings c.laws.ensures.roots c.laws.ensures.news c.laws.ensures.steps shapes _ g.F.Source.gives g.F.Sources.turns g.F.Sources.tells c.args.count c.args.now _ _ C D _ at.state.valid h,
      turns-run g.F.Sources.turns g.F.Sources.tells (Updates g.F.Source.gives c.args.now) IsWanting c.args.now (update-runs g.F.Source.gives c.args.now) 0 c.args.count _ _ _ _ C D h,
    ))

pub returns-clause-asks : goal.returns-clause-asks
returns-clause-asks g c =
    let (S, at) = c.stands.ensures.somewhere in
    let (T, to, h) = c.updates.ensures.moves S at in
    turns-ask g.F.Source.gives g.F.Sources.turns g.F.Sources.tells (Updates g.F.Source.gives c.args.now) IsWanting 66 (update-asks g.F.Source.gives c.args.now) 0 c.args.count _ _ _ _ S T h
