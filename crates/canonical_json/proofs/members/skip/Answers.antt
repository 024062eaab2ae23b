use Rattle.std.proofs.Common.{sym, ap, ◌∙◌, rules, arith, length, ◌∷◌, [], ◌++◌, append_assoc}
use Rattle.canonical_json.specs.steps.Skipping.{behind_value}
use Rattle.canonical_json.proofs.Skips.{passed, stopped, none_left}
use Rattle.canonical_json.proofs.members.skip.Goals as goal

pub returns-in_default-step-clause-value : goal.returns-in_default-step-clause-value
returns-in_default-step-clause-value c =
    let at = c.in-Some.ensures.cases.0 in
    sym (c.bytes.invariant.value ∙ ap (behind_value c.bytes.inside c.bytes.place) at ∙ stopped c.bytes.inside c.bytes.place c.in-Some.b.now c.in-Some.later.now (search rules) ∙ sym at)

pub bytes-preserved : goal.bytes-preserved
bytes-preserved c =
    let at = c.in-Some.ensures.cases.0 in
    record {
      value = c.bytes.invariant.value ∙ ap (behind_value c.bytes.inside c.bytes.place) at ∙ passed c.bytes.inside c.in-Some-step.inner c.bytes.place c.in-Some-step.next c.in-Some.b.now c.in-Some.later.now (search rules);
      back = (c.bytes.invariant.back.0 ++ c.in-Some.b.now ∷ [], c.bytes.invariant.back.1 ∙ ap (λ xs. c.bytes.invariant.back.0 ++ xs) at ∙ sym (append_assoc c.bytes.invariant.back.0 (c.in-Some.b.now ∷ []) c.in-Some.later.now));
      room = (let before = c.bytes.invariant.room in let shorter = ap length at in let most = c.in-Some-step.ensures.most in omega arith);
    }

pub returns-clause-value : goal.returns-clause-value
returns-clause-value c = sym (c.bytes.invariant.value ∙ none_left c.bytes.inside c.bytes.place c.bytes.rest.now c.in_default.ensures.cases)
