use Rattle.std.proofs.Common.{ap}
use Rattle.keys_roles.specs.Views.{id_text, ids_view, table_view}
use Rattle.metadata.specs.FileViews.{link_file}
use Rattle.layouts.specs.steps.Gathering.{SignsAs, goods_view}
use Rattle.layouts.proofs.Growing.{done, next}
use Rattle.layouts.proofs.Lists.{none_left}
use Rattle.layouts.proofs.gathering.with_signers.Goals as goal

pub ids-preserved : goal.ids-preserved
ids-preserved c =
    next (SignsAs (table_view c.args.keys.now) (link_file c.args.file.now)) (ids_view c.args.ids.now) (ids_view c.ids.rest.now) (ids_view c.in-Some.later.now) (id_text c.in-Some.id.now)
    (goods_view c.args.goods.items) (goods_view c.ids.goods.items) _ (ap ids_view c.in-Some.ensures.cases.0) c.in_ok-goods.ensures c.ids.invariant

pub returns : goal.returns
returns c =
    done (SignsAs (table_view c.args.keys.now) (link_file c.args.file.now)) (ids_view c.args.ids.now) (ids_view c.ids.rest.now)
    (goods_view c.args.goods.items) (goods_view c.ids.goods.items) (ap ids_view (none_left c.ids.rest.now c.in_default.ensures.cases)) c.ids.invariant
