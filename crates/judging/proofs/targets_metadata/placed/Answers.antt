use Rattle.std.proofs.Common.{sym}
use Rattle.metadata.specs.FileViews.{targets_file}
use Rattle.trusted_state.specs.steps.Judging.{accepts, keeps, rejects}
use Rattle.trust_rules.proofs.OrderLines.{yes, no}
use Rattle.trusted_state.proofs.ShelfPlaces.{stands_there, taken_already, no_place, a_place}
use Rattle.judging.proofs.targets_metadata.placed.Goals as goal

pub returns-then-are_same-clause-judged : goal.returns-then-are_same-clause-judged
returns-then-are_same-clause-judged c = keeps (stands_there _ _ _ _ (targets_file c.in-Some.old.now) (rw (← c.as_str.ensures.value) c.in-Some.ensures) (rw (← c.bytes.ensures, ← c.bytes-in-Some.ensures) (yes c.if-are_same.ensures)))

pub returns-in-Some-clause-judged : goal.returns-in-Some-clause-judged
returns-in-Some-clause-judged c = rejects (taken_already _ _ _ _ (targets_file c.in-Some.old.now) (rw (← c.as_str.ensures.value) c.in-Some.ensures) (rw (← c.bytes.ensures, ← c.bytes-in-Some.ensures) (no c.if-are_same.ensures)))

pub returns-then-not-has_room_for_row-clause-judged : goal.returns-then-not-has_room_for_row-clause-judged
returns-then-not-has_room_for_row-clause-judged c = rejects (no_place _ _ _ _ (rw (← c.as_str.ensures.value) c.in_default.ensures) (no c.if-not-has_room_for_row.ensures))

pub returns-clause-judged : goal.returns-clause-judged
returns-clause-judged c = accepts (a_place _ _ _ _ (rw (← c.as_str.ensures.value) c.in_default.ensures) (yes c.if-not-has_room_for_row.ensures))

pub returns-clause-free : goal.returns-clause-free
returns-clause-free c = λ t. rw (← c.as_str.ensures.value) (sym c.in_default.ensures)
