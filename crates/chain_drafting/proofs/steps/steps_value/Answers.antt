use Rattle.std.proofs.Common.{◌≡◌, ◌+◌, List, [], ◌++◌, None, Some, drop, map, sym, subst, ap, ◌∙◌}
use Rattle.std.proofs.lemmas.List.{append-nil, drop_all}
use Rattle.canonical_json.specs.Json.{Json, array}
use Rattle.canonical_json.specs.View.{items_of, view}
use Rattle.drafting.proofs.Results.{drop_at}
use Rattle.chain_drafting.specs.Layouts.{step_object, step_objects}
use Rattle.chain_drafting.specs.declared.layouts.StepDraft.{StepDraft}
use Rattle.chain_drafting.specs.steps.Said.{step_view, steps_view, text_of}
use Rattle.chain_drafting.proofs.Pushed.{goes_on, pushed}
use Rattle.chain_drafting.proofs.steps.steps_value.Goals as goal

pub loop-step-preserved : goal.loop-step-preserved
loop-step-preserved c =
    let i = c.loop-step.step-index in
    let step = c.step-item.result in
    let old = c.loop-step.list.items in
    let before = text_of c.loop-step.before in
    let is = drop_at c.args.steps.now i step c.loop-step-test.true c.step-item.is in
    let all = step_objects None (steps_view c.args.steps.now) in
    goes_on (map view old) (map view c.push.new.self.items) (step_object before (step_view step)) (step_objects (Some step.name.now) (steps_view (drop (i + 1) c.args.steps.now))) all
    (pushed old c.push.new.self.items c.in_ok-value.value (step_object before (step_view step)) c.in_ok-push.ensures.items c.in_ok-value.ensures)
    (subst (λ (r : List StepDraft). map view old ++ step_objects before (steps_view r) ≡ all) is c.loop-step.invariant)

pub returns : goal.returns
returns c =
    let steps = c.args.steps.now in
    let old = map view c.loop-step.list.items in
    let none : drop c.loop-step.step-index steps ≡ [] = drop_all c.loop-step.step-index steps c.loop-step-test.false in
    let left = subst (λ (r : List StepDraft). old ++ step_objects (text_of c.loop-step.before) (steps_view r) ≡ step_objects None (steps_view steps)) none c.loop-step.invariant in
    c.list_value.ensures ∙ ap (λ (l : List Json). array (items_of l)) (sym (append-nil old) ∙ left)
