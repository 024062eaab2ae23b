use Rattle.std.proofs.Common.{◌≡◌, sym, ap, subst, string_bytes, ◌∙◌, rules, Some, None, arith, suc, ◌+◌}
use Rattle.canonical_json.specs.Json.{object, Everywhere}
use Rattle.canonical_json.specs.Spelling.{IsOfCode}
use Rattle.canonical_json.specs.Faults.{first_fault, marks, member_marks}
use Rattle.canonical_json.specs.View.{view, members_view}
use Rattle.canonical_json.proofs.Judging.{opens, item_first, item_next, member_first, member_next, item_of_code, member_of_code}
use Rattle.std.proofs.lemmas.Str.{IsUtf8-had}
use Rattle.canonical_json.proofs.Turns.{view_object, view_text}
use Rattle.canonical_json.proofs.write_faults.+faults.Goals as goal

pub items_fault-returns-in-Some-value_fault-clause-first : goal.items_fault-returns-in-Some-value_fault-clause-first
items_fault-returns-in-Some-value_fault-clause-first t c =
    sym (c.items.invariant.first ∙ item_first c.args.outer c.items.rest.now c.in-Some.later.now c.in-Some.value.now c.in-Some-value_fault.fault c.in-Some.ensures.cases.0 (sym c.in-Some-value_fault.ensures.first))

pub items_fault-items-preserved : goal.items_fault-items-preserved
items_fault-items-preserved t c =
    let here = item_next c.args.outer c.items.rest.now c.in-Some.later.now c.in-Some.value.now c.in-Some.ensures.cases.0 (search rules) in
    record { first = c.items.invariant.first ∙ here; of_code = λ h. c.items.invariant.of_code (item_of_code c.items.rest.now c.in-Some.later.now c.in-Some.value.now c.in-Some.ensures.cases.0 (search rules) h) }

pub members_fault-returns-in-Some-value_fault-clause-first : goal.members_fault-returns-in-Some-value_fault-clause-first
members_fault-returns-in-Some-value_fault-clause-first t c =
    sym (c.members.invariant.first ∙ member_first c.args.outer _ c.members.rest.now c.in-Some.later.now c.in-Some.member.now c.in-Some-value_fault.fault c.in-Some.ensures.cases.0 (search rules) (sym c.in-Some-value_fault.ensures.first))

pub members_fault-members-preserved : goal.members_fault-members-preserved
members_fault-members-preserved t c =
    let here = member_next c.args.outer _ c.members.rest.now c.in-Some.later.now c.in-Some.member.now c.in-Some.ensures.cases.0 (search rules) (search rules)
    ∙ ap (λ n. first_fault (member_marks c.args.outer (Some n) (members_view c.in-Some.later.now))) (sym c.as_str-name.ensures.value) in
    record { first = c.members.invariant.first ∙ here; of_code = λ h. c.members.invariant.of_code (member_of_code c.members.rest.now c.in-Some.later.now c.in-Some.member.now c.in-Some.ensures.cases.0 (search rules) h) }

pub value_fault-returns-else-outer-ge-MAX_DEPTH-2-clause-first : goal.value_fault-returns-else-outer-ge-MAX_DEPTH-2-clause-first
value_fault-returns-else-outer-ge-MAX_DEPTH-2-clause-first t c =
    let inner = ap (λ ms. first_fault (member_marks (c.args.outer + 1) None (members_view ms))) c.deref-in-Object.ensures.value in
    let deeper : c.args.outer + 1 ≡ suc c.args.outer = omega arith in
    c.members_fault.ensures.first ∙ inner ∙ ap (λ n. first_fault (member_marks n None (members_view c.in-Object.members.items))) deeper
    ∙ sym (opens c.args.outer (member_marks (suc c.args.outer) None (members_view c.in-Object.members.items)) (omega arith))
    ∙ ap (λ j. first_fault (marks c.args.outer j)) (sym (view_object c.in-Object.members))
    ∙ ap (λ v. first_fault (marks c.args.outer (view v))) (sym c.in-Object.is)

pub value_fault-returns-else-outer-ge-MAX_DEPTH-2-clause-of_code : goal.value_fault-returns-else-outer-ge-MAX_DEPTH-2-clause-of_code
value_fault-returns-else-outer-ge-MAX_DEPTH-2-clause-of_code t c h =
    let seen : object (members_view c.deref-in-Object.result.now) ≡ view c.args.value.now =
    ap (λ ms. object (members_view ms)) c.deref-in-Object.ensures.value ∙ sym (view_object c.in-Object.members) ∙ ap view (sym c.in-Object.is) in
    let inner = c.members_fault.ensures.of_code h in
    subst (λ j. Everywhere IsOfCode j) seen ((inner.0, tt), inner.1)

pub value_fault-returns-in-Text-clause-of_code : goal.value_fault-returns-in-Text-clause-of_code
value_fault-returns-in-Text-clause-of_code t c h =
    let found = c.in-Text.field-0 in
    subst (λ j. Everywhere IsOfCode j) (sym (view_text found) ∙ ap view (sym c.in-Text.is)) (IsUtf8-had (string_bytes found) found.ok, tt)
