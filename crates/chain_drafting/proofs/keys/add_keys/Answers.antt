use Rattle.std.proofs.Common.{◌≡◌, ◌+◌, List, [], drop, sym, subst}
use Rattle.std.proofs.lemmas.List.{drop_all}
use Rattle.drafting.specs.Members.{PutsAll}
use Rattle.drafting.proofs.Lists.{puts_none}
use Rattle.drafting.proofs.Results.{drop_at}
use Rattle.drafting.proofs.Rows.{shown}
use Rattle.chain_drafting.specs.Layouts.{step_keys}
use Rattle.chain_drafting.specs.declared.layouts.StepDraft.{StepDraft}
use Rattle.chain_drafting.specs.steps.Said.{steps_view}
use Rattle.chain_drafting.proofs.keys.add_keys.Goals as goal

pub loop-step-preserved : goal.loop-step-preserved
loop-step-preserved c =
    λ d more.
    let m = shown c.loop-step.table.items in
    let i = c.loop-step.step-index in
    let is = drop_at c.args.steps.now i c.step-item.result c.loop-step-test.true c.step-item.is in
    c.loop-step.invariant d (subst (λ (r : List StepDraft). PutsAll (step_keys (steps_view r)) m d) (sym is)
    (c.in_ok-add_rule_keys.ensures (step_keys (steps_view (drop (i + 1) c.args.steps.now))) d more))

pub returns : goal.returns
returns c =
    let m = shown c.loop-step.table.items in
    let none : drop c.loop-step.step-index c.args.steps.now ≡ [] = drop_all c.loop-step.step-index c.args.steps.now c.loop-step-test.false in
    c.loop-step.invariant m (subst (λ (r : List StepDraft). PutsAll (step_keys (steps_view r)) m m) (sym none) (puts_none m))
