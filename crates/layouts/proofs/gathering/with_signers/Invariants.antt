use Rattle.std.proofs.Common.{length}
use Rattle.keys_roles.specs.Views.{ids_view, table_view}
use Rattle.metadata.specs.FileViews.{link_file}
use Rattle.layouts.specs.steps.Gathering.{SignsAs, goods_view}
use Rattle.layouts.proofs.Growing.{Grown}
use Rattle.layouts.proofs.gathering.with_signers.Given as goal

abbrev pub invariant-ids : goal.invariant-ids
invariant-ids l = Grown (SignsAs (table_view l.keys) (link_file l.file)) (ids_view l.fn.ids) (ids_view l.rest) (goods_view l.fn.goods.items) (goods_view l.goods.items)

abbrev pub decreases-ids : goal.decreases-ids
decreases-ids l = length l.rest
