use Rattle.std.proofs.Common.{rules, ◌≡◌, ◌↔◌, ◌<◌, ◌≤◌, List, length, Some, None, IsTrue, inr, sym, subst, arith}
use Rattle.denials.specs.Orders.{fails}
use Rattle.keys_roles.specs.Views.{table_view}
use Rattle.document_parts.specs.RuleViews.{link_view}
use Rattle.document_parts.specs.Views.{step_view}
use Rattle.layouts.specs.Views.{files_view}
use Rattle.layouts.specs.steps.Gathering.{FirstAgrees, distinct_of, first_of, goods_view, tops_of}
use Rattle.layouts.specs.declared.step_links.Good.{Good}
use Rattle.layouts.proofs.StepLinks.{no_links, too_few, enough, agree_all, all_agree}
use Rattle.layouts.proofs.gathering.step_link.Goals as goal

pub returns-in_default-clause-err : goal.returns-in_default-clause-err
returns-in_default-clause-err c =
    let first = subst (λ (gs : List Good). first_of (goods_view gs) ≡ None) c.deref.ensures.value (sym c.in_default.ensures) in
    inr (fails (no_links (table_view c.args.keys.now) (step_view c.args.step.now) (files_view c.args.links.now) (goods_view c.in_ok-goods.goods.items) c.in_ok-goods.ensures first))

pub returns-then-count_tops-from-clause-err : goal.returns-then-count_tops-from-clause-err
returns-then-count_tops-from-clause-err c =
    let is = subst (λ (gs : List Good). c.count_tops.result ≡ length (distinct_of (tops_of (goods_view gs)))) c.deref-2.ensures.value c.count_tops.ensures.count in
    let limit : c.from.result ≡ c.args.step.now.rule.threshold = search rules in
    let less : c.count_tops.result < c.args.step.now.rule.threshold = omega (arith, limit, c.if-count_tops-from.true) in
    inr (fails (too_few (table_view c.args.keys.now) (step_view c.args.step.now) (files_view c.args.links.now) (goods_view c.in_ok-goods.goods.items) c.in_ok-goods.ensures c.count_tops.result is less))

pub returns-clause-link : goal.returns-clause-link
returns-clause-link c =
    let is = subst (λ (gs : List Good). c.count_tops.result ≡ length (distinct_of (tops_of (goods_view gs)))) c.deref-2.ensures.value c.count_tops.ensures.count in
    let limit : c.from.result ≡ c.args.step.now.rule.threshold = search rules in
    let more : c.args.step.now.rule.threshold ≤ c.count_tops.result = omega (arith, limit, c.if-count_tops-from.false) in
    let first = subst (λ (gs : List Good). first_of (goods_view gs) ≡ Some (link_view c.in-Some.link.now)) c.deref.ensures.value (sym c.in-Some.ensures) in
    enough (table_view c.args.keys.now) (step_view c.args.step.now) (files_view c.args.links.now) (goods_view c.in_ok-goods.goods.items) c.in_ok-goods.ensures c.count_tops.result (link_view c.in-Some.link.now) is more first

pub returns-clause-agree : goal.returns-clause-agree
returns-clause-agree c =
    let keys = table_view c.args.keys.now in
    let step = step_view c.args.step.now in
    let files = files_view c.args.links.now in
    let goods = goods_view c.in_ok-goods.goods.items in
    let told = subst (λ (gs : List Good). IsTrue c.all_agree-agree.result ↔ FirstAgrees (goods_view gs)) c.deref-3.ensures.value c.all_agree-agree.ensures in (
      λ h. agree_all keys step files goods c.in_ok-goods.ensures (told.0 h),
      λ h. told.1 (all_agree keys step files goods c.in_ok-goods.ensures h),
    )
