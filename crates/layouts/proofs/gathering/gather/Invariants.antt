use Rattle.std.proofs.Common.{[], length}
use Rattle.keys_roles.specs.Views.{table_view}
use Rattle.document_parts.specs.Views.{step_view}
use Rattle.layouts.specs.Views.{files_view}
use Rattle.layouts.specs.steps.Gathering.{MakesGood, goods_view}
use Rattle.layouts.proofs.Growing.{Grown}
use Rattle.layouts.proofs.gathering.gather.Given as goal

abbrev pub invariant-links : goal.invariant-links
invariant-links l = Grown (MakesGood (table_view l.keys) (step_view l.step)) (files_view l.fn.links) (files_view l.rest) [] (goods_view l.goods.items)

abbrev pub decreases-links : goal.decreases-links
decreases-links l = length l.rest
