use Rattle.std.proofs.lemmas.Result.{err_from_is_err_and}
use Rattle.denials.specs.Orders.{pass, decide, holds, fails}
use Rattle.trusted_state.specs.Answers.{gives, denies}
use Rattle.trust_rules.proofs.OrderLines.{yes, no}
use Rattle.trusted_state.proofs.OrderSteps.{by_rotation, given_by}
use Rattle.judging.proofs.FirstLines.{denied_by_two, first_of_two, second_of_two}
use Rattle.judging.proofs.roots.judge_root.Goals as goal

pub returns-in_err-after_root : goal.returns-in_err-after_root
returns-in_err-after_root c =
    let p = err_from_is_err_and c.from_residual.result c.from_residual.ensures.1 in
    rw (p.1, p.2) (denied_by_two c.in_err-after_root.ensures)

pub returns-then-not-is_signed : goal.returns-then-not-is_signed
returns-then-not-is_signed c =
    let two = given_by c.in_ok-after_root.ensures in
    denies (pass (first_of_two two) (pass (second_of_two two) (decide (fails (no c.if-not-is_signed.ensures)))))

pub returns-then-not-is_signed-2 : goal.returns-then-not-is_signed-2
returns-then-not-is_signed-2 c =
    let two = given_by c.in_ok-after_root.ensures in
    denies (pass (first_of_two two) (pass (second_of_two two) (pass (holds (yes c.if-not-is_signed.ensures)) (decide (fails (no c.if-not-is_signed-2.ensures))))))

pub returns-then-not-has_room_for_root : goal.returns-then-not-has_room_for_root
returns-then-not-has_room_for_root c =
    let two = given_by c.in_ok-after_root.ensures in
    denies (pass (first_of_two two) (pass (second_of_two two) (pass (holds (yes c.if-not-is_signed.ensures)) (pass (holds (yes c.if-not-is_signed-2.ensures))
    (decide (fails (no c.if-not-has_room_for_root.ensures)))))))

pub returns : goal.returns
returns c =
    let two = given_by c.in_ok-after_root.ensures in
    gives (pass (first_of_two two) (pass (second_of_two two) (pass (holds (yes c.if-not-is_signed.ensures)) (pass (holds (yes c.if-not-is_signed-2.ensures))
    (pass (holds (yes c.if-not-has_room_for_root.ensures)) (by_rotation c.keeps_roles.result c.keeps_roles.ensures))))))
