use Rattle.std.proofs.Common.{◌↔◌, ◌⊎◌, inl, inr, [], ap}
use Rattle.keys_roles.specs.Views.{table_view}
use Rattle.metadata.specs.FileViews.{link_file}
use Rattle.document_parts.specs.Views.{step_view}
use Rattle.layouts.specs.Views.{files_view}
use Rattle.layouts.specs.steps.Gathering.{MakesGood, goods_view}
use Rattle.layouts.proofs.Growing.{done, next}
use Rattle.layouts.proofs.Lists.{none_left}
use Rattle.layouts.proofs.gathering.gather.Goals as goal

pub links-preserved : goal.links-preserved
links-preserved c =
    next (MakesGood (table_view c.args.keys.now) (step_view c.args.step.now)) (files_view c.args.links.now) (files_view c.links.rest.now) (files_view c.in-Some.later.now) (link_file c.in-Some.file.now)
    [] (goods_view c.links.goods.items) _ (ap files_view c.in-Some.ensures.cases.0) c.in_ok-goods.ensures c.links.invariant

alone : {A B : Type 0} → A ↔ (⊥ ⊎ B) → A ↔ B
alone {A} {B} h = ((λ a. right (h.0 a)), (λ b. h.1 (inr b)))
  where
    right : ⊥ ⊎ B → B
    right (inl none) = absurd none
    right (inr b) = b

pub returns : goal.returns
returns c = λ g. alone (done (MakesGood (table_view c.args.keys.now) (step_view c.args.step.now)) (files_view c.args.links.now) (files_view c.links.rest.now)
    [] (goods_view c.links.goods.items) (ap files_view (none_left c.links.rest.now c.in_default.ensures.cases)) c.links.invariant g)
