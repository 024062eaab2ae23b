use Rattle.std.proofs.Common.{sym, ◌∙◌}
use Rattle.client.proofs.Roots.{without_root}
use Rattle.client.proofs.updating.take_root.Goals as goal

pub take_next-requires : goal.take_next-requires
take_next-requires g c = λ U of. sym c.in-Some.is ∙ c.root_version.ensures U of

pub returns-in-None : goal.returns-in-None
returns-in-None g c = without_root g.F.Source.gives c.args.now _ c.root_version.result c.args.source.now c.root_version.ensures c.in-None.is
