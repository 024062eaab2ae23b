use Rattle.std.proofs.Common.{◌≡◌, ◌++◌, ◌∷◌, [], ◌+◌, ◌<◌, length, sym, ap, subst, OnOk, OnErr, ◌∙◌, arith, rules, string_bytes, vec_len, vec_capacity}
use Rattle.canonical_json.specs.Json.{object}
use Rattle.canonical_json.specs.Spelling.{spelling, text_spelling}
use Rattle.canonical_json.specs.View.{view, members_view}
use Rattle.canonical_json.proofs.Appending.{more_front, item_inside, list_written, member_inside, member_written, object_written}
use Rattle.canonical_json.proofs.Turns.{view_object}
use Rattle.canonical_json.proofs.Room.{appended_len, item_room, bracket_room, member_room, brace_room}
use Rattle.canonical_json.proofs.writer.+append.Goals as goal

pub list-value-requires : goal.list-value-requires
list-value-requires t c =
    let within = item_inside c.items.rest.now c.in-Some.later.now c.args.values.now c.in-Some.item.now c.in-Some.ensures.cases.0 c.items.invariant.inside in
    search rules

pub list-returns-clause-ok : goal.list-returns-clause-ok
list-returns-clause-ok t c =
    list_written c.items.first c.args.out.now.items c.items.out.items c.push-2.new.self.items c.args.values.now c.items.rest.now c.in_default.ensures.cases c.items.invariant.text c.in_ok-push-2.ensures.items

pub object-value-requires : goal.object-value-requires
object-value-requires t c =
    let within = member_inside c.members.rest.now c.in-Some.later.now c.args.members.now c.in-Some.member.now c.in-Some.ensures.cases.0 c.members.invariant.inside in
    search rules

pub object-members-preserved : goal.object-members-preserved
object-members-preserved t c =
    let m = c.in-Some.member.now in
    let within = member_inside c.members.rest.now c.in-Some.later.now c.args.members.now m c.in-Some.ensures.cases.0 c.members.invariant.inside in
    let written = member_written c.members.first c.members.out.items c.comma.new.out.items c.text.new.out.items c.push-in-Some.new.self.items c.value.new.out.items c.members.rest.now c.in-Some.later.now m
    c.in-Some.ensures.cases.0 c.in_ok-comma.ensures.ok (search rules) c.in_ok-push-2.ensures.items c.in_ok-value.ensures.ok in
    let commas = more_front _ _ _ c.members.invariant.front c.comma.ensures.front in
    let named = more_front _ _ _ commas c.text.ensures.front in
    let colon = more_front _ _ c.push-in-Some.new.self.items named (58 ∷ [], c.in_ok-push-2.ensures.items) in
    record {
      front = more_front _ _ _ colon c.value.ensures.front;
      room = omega (arith, c.members.invariant.room, c.comma.ensures.room, c.text.ensures.room, c.push-in-Some.ensures.capacity, c.value.ensures.room);
      inside = within.1;
      text = written ∙ c.members.invariant.text;
    }

pub object-returns-clause-ok : goal.object-returns-clause-ok
object-returns-clause-ok t c =
    object_written c.members.first c.args.out.now.items c.members.out.items c.push-2.new.self.items c.args.members.now c.members.rest.now c.in_default.ensures.cases c.members.invariant.text c.in_ok-push-3.ensures.items

pub value-returns-in-Object-clause-ok : goal.value-returns-in-Object-clause-ok
value-returns-in-Object-clause-ok t c =
    let seen : object (members_view c.deref-in-Object.result.now) ≡ view c.args.value.now =
    ap (λ ms. object (members_view ms)) c.deref-in-Object.ensures.value ∙ sym (view_object c.in-Object.members) ∙ ap view (sym c.in-Object.is) in
    subst (λ j. OnOk c.object.result (c.object.new.out.items ≡ c.args.out.now.items ++ spelling j)) seen c.object.ensures.ok

pub value-returns-in-Object-clause-short : goal.value-returns-in-Object-clause-short
value-returns-in-Object-clause-short t c =
    let seen : object (members_view c.deref-in-Object.result.now) ≡ view c.args.value.now =
    ap (λ ms. object (members_view ms)) c.deref-in-Object.ensures.value ∙ sym (view_object c.in-Object.members) ∙ ap view (sym c.in-Object.is) in
    subst (λ j. OnErr c.object.result (vec_capacity c.args.out.now < vec_len c.args.out.now + length (spelling j))) seen c.object.ensures.short

pub list-returns-in_err-comma-clause-short : goal.list-returns-in_err-comma-clause-short
list-returns-in_err-comma-clause-short t c =
    let most = item_room c.items.first c.args.out.now c.items.out c.args.values.now c.items.rest.now c.in-Some.later.now c.in-Some.item.now c.in-Some.ensures.cases.0 c.items.invariant.text in
    search rules

pub list-returns-in_err-value-clause-short : goal.list-returns-in_err-value-clause-short
list-returns-in_err-value-clause-short t c =
    let most = item_room c.items.first c.args.out.now c.items.out c.args.values.now c.items.rest.now c.in-Some.later.now c.in-Some.item.now c.in-Some.ensures.cases.0 c.items.invariant.text in
    let comma = appended_len c.items.out c.comma.new.out _ c.in_ok-comma.ensures.ok in
    search rules

pub list-returns-in_err-push-2-clause-short : goal.list-returns-in_err-push-2-clause-short
list-returns-in_err-push-2-clause-short t c =
    let most = bracket_room c.items.first c.args.out.now c.items.out c.args.values.now c.items.rest.now c.in_default.ensures.cases c.items.invariant.text in
    search rules

pub object-returns-in_err-comma-clause-short : goal.object-returns-in_err-comma-clause-short
object-returns-in_err-comma-clause-short t c =
    let most = member_room c.members.first c.args.out.now c.members.out c.args.members.now c.members.rest.now c.in-Some.later.now c.in-Some.member.now c.in-Some.ensures.cases.0 c.members.invariant.text in
    search rules

pub object-returns-in_err-text-clause-short : goal.object-returns-in_err-text-clause-short
object-returns-in_err-text-clause-short t c =
    let most = member_room c.members.first c.args.out.now c.members.out c.args.members.now c.members.rest.now c.in-Some.later.now c.in-Some.member.now c.in-Some.ensures.cases.0 c.members.invariant.text in
    let comma = appended_len c.members.out c.comma.new.out _ c.in_ok-comma.ensures.ok in
    search rules

pub object-returns-in_err-push-2-clause-short : goal.object-returns-in_err-push-2-clause-short
object-returns-in_err-push-2-clause-short t c =
    let most = member_room c.members.first c.args.out.now c.members.out c.args.members.now c.members.rest.now c.in-Some.later.now c.in-Some.member.now c.in-Some.ensures.cases.0 c.members.invariant.text in
    let comma = appended_len c.members.out c.comma.new.out _ c.in_ok-comma.ensures.ok in
    let named = appended_len c.comma.new.out c.text.new.out (text_spelling (string_bytes c.in-Some.member.now.0)) (search rules) in
    search rules

pub object-returns-in_err-value-clause-short : goal.object-returns-in_err-value-clause-short
object-returns-in_err-value-clause-short t c =
    let most = member_room c.members.first c.args.out.now c.members.out c.args.members.now c.members.rest.now c.in-Some.later.now c.in-Some.member.now c.in-Some.ensures.cases.0 c.members.invariant.text in
    let comma = appended_len c.members.out c.comma.new.out _ c.in_ok-comma.ensures.ok in
    let named = appended_len c.comma.new.out c.text.new.out (text_spelling (string_bytes c.in-Some.member.now.0)) (search rules) in
    search rules

pub object-returns-in_err-push-3-clause-short : goal.object-returns-in_err-push-3-clause-short
object-returns-in_err-push-3-clause-short t c =
    let most = brace_room c.members.first c.args.out.now c.members.out c.args.members.now c.members.rest.now c.in_default.ensures.cases c.members.invariant.text in
    search rules
