use Rattle.std.proofs.Common.{rules, ◌≡◌, ◌↔◌, ◌⊎◌, List, Result, Ok, Err, IfOk, subst}
use Rattle.keys_roles.specs.steps.Counting.{IsIn}
use Rattle.keys_roles.specs.Views.{ids_view, table_view}
use Rattle.keys_roles.specs.declared.KeyId.{KeyId}
use Rattle.metadata.specs.FileViews.{link_file}
use Rattle.document_parts.specs.Views.{step_view}
use Rattle.layouts.specs.steps.Gathering.{MakesGood, SignsAs, Some_of, goods_view}
use Rattle.layouts.proofs.Growing.{other_way}
use Rattle.layouts.proofs.StepLinks.{good_signs, signs_good}
use Rattle.layouts.proofs.gathering.with_link.Goals as goal

if_ok : {A E : Type 0} (P Q : A → Type 0) (r : Result A E) → ((a : A) → P a → Q a) → IfOk r P → IfOk r Q
if_ok P Q (Ok a) f h = f a h
if_ok P Q (Err e) f h = tt

pub returns-then-eq : goal.returns-then-eq
returns-then-eq c =
    let keys = table_view c.args.keys.now in
    let step = step_view c.args.step.now in
    let file = link_file c.args.file.now in
    let same : c.args.file.now.body.name ≡ c.args.step.now.name = search rules in
    if_ok _ _ c.with_signers.result
    (λ more is g.
    let by_ids = subst (λ (ids : List KeyId). IsIn (goods_view more.items) g ↔ (IsIn (goods_view c.args.goods.items) g ⊎ Some_of (SignsAs keys file) (ids_view ids) g)) c.deref.ensures.value (is g) in
    other_way (Some_of (SignsAs keys file) step.rule.keyids g) (MakesGood keys step file g) (signs_good keys step file g same) (good_signs keys step file g) by_ids)
    c.with_signers.ensures
