use Rattle.std.proofs.Common.{◌≡◌, string_bytes, rules}
use Rattle.std.proofs.lemmas.Result.{err_from_is_err_and}
use Rattle.loose_json.proofs.Plain.{Entry, Named, items_next, items_end, items_none, items_sound, item_inside, members_next, members_end, members_none, members_sound, member_inside, names_next, proper_object, passed_on, text_proper}
use Rattle.loose_json.proofs.+plain.Goals as goal

pub list-returns-in_err-value-clause-fault : goal.list-returns-in_err-value-clause-fault
list-returns-in_err-value-clause-fault t c =
    let p = err_from_is_err_and c.from_residual.result c.from_residual.ensures.1 in
    rw (p.1, p.2) (passed_on _ _ _ (items_none c.args.items.now c.items.rest.now c.in-Some.later.now c.in-Some.item.now c.items.found.items c.items.invariant.all c.in-Some.ensures.cases.0) c.in_err-value.ensures.fault)

pub list-items-preserved : goal.list-items-preserved
list-items-preserved t c =
    let at = c.in-Some.ensures.cases.0 in
    let more = c.in_ok-push.ensures.items in
    record {
      all = items_next c.args.items.now c.items.rest.now c.in-Some.later.now c.in-Some.item.now c.items.found.items c.push.new.self.items c.in_ok-value.value c.items.invariant.all at c.in_ok-value.ensures.value more;
      sound = items_sound c.items.found.items c.push.new.self.items c.in_ok-value.value c.items.invariant.sound c.in_ok-value.ensures.proper more;
      inside = (item_inside c.items.rest.now c.in-Some.later.now c.args.items.now c.in-Some.item.now at c.items.invariant.inside).1;
    }

pub list-returns-clause-value : goal.list-returns-clause-value
list-returns-clause-value t c = items_end c.args.items.now c.items.rest.now c.items.found.items c.items.invariant.all c.in_default.ensures.cases

pub object-returns-in_err-value-clause-fault : goal.object-returns-in_err-value-clause-fault
object-returns-in_err-value-clause-fault t c =
    let p = err_from_is_err_and c.from_residual.result c.from_residual.ensures.1 in
    let x : Entry = (c.in-Some.name.now, c.in-Some.member.now) in
    rw (p.1, p.2) (passed_on _ _ _ (members_none c.args.members.now.entries c.loop-name.name-iterator c.next.new.self x c.loop-name.found.items c.loop-name.invariant.all c.in-Some.ensures.steps) c.in_err-value.ensures.fault)

pub object-loop-name-preserved : goal.object-loop-name-preserved
object-loop-name-preserved t c =
    let x : Entry = (c.in-Some.name.now, c.in-Some.member.now) in
    let m : Named = (c.in_ok-name.name, c.in_ok-value.value) in
    let at = c.in-Some.ensures.steps in
    let more = c.in_ok-push.ensures.items in
    let same : string_bytes m.0 ≡ string_bytes x.0 = c.in_ok-name.ensures.cases in
    record {
      all = members_next c.args.members.now.entries c.loop-name.name-iterator c.next.new.self x c.loop-name.found.items c.push.new.self.items m c.loop-name.invariant.all at c.in_ok-value.ensures.value same more;
      named = names_next c.args.members.now.entries c.loop-name.name-iterator c.next.new.self x c.loop-name.found.items c.push.new.self.items m c.loop-name.invariant.named at same more;
      sound = members_sound c.loop-name.found.items c.push.new.self.items m c.loop-name.invariant.sound c.in_ok-value.ensures.proper more;
      inside = (member_inside c.loop-name.name-iterator c.next.new.self c.args.members.now.entries x at c.loop-name.invariant.inside).1;
    }

pub object-returns-clause-value : goal.object-returns-clause-value
object-returns-clause-value t c = members_end c.args.members.now.entries c.loop-name.name-iterator c.loop-name.found.items c.loop-name.invariant.all (search rules)

pub object-returns-clause-proper : goal.object-returns-clause-proper
object-returns-clause-proper t c =
    proper_object c.args.members.now.entries c.loop-name.name-iterator c.loop-name.found.items c.iter-name-items.ensures.ordered (search rules) c.loop-name.invariant.named c.loop-name.invariant.sound

pub plain_value-returns-in_ok-clone-in-String-clause-proper : goal.plain_value-returns-in_ok-clone-in-String-clause-proper
plain_value-returns-in_ok-clone-in-String-clause-proper t c = text_proper c.in_ok-clone-in-String.field-0
