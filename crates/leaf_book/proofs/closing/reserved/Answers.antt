use Rattle.std.proofs.Common.{◌≡◌, Err, IfOk, Ok, OnOk, Result, inl, inr, refl, subst}
use Rattle.sqlite.specs.Held.{state}
use Rattle.sqlite.specs.State.{HasCleanDisk}
use Rattle.keys_roles.specs.Views.{id_text}
use Rattle.leaf_book.specs.Calls.{Reserved, Reserves}
use Rattle.leaf_book.specs.declared.faults.BookFault.{BookFault}
use Rattle.leaf_book.proofs.Reopening.{recovers}
use Rattle.leaf_book.proofs.RunLemmas.{reserves_right}
use Rattle.leaf_book.proofs.closing.reserved.Goals as goal

-- what follows from an answer and from what it is known to come with
answered : {Q : Reserved → Type 0} {O : Type 0} (r : Result Reserved BookFault) → OnOk r O → ((a : Reserved) → r ≡ Ok a → O → Q a) → IfOk r Q
answered (Ok a) o f = f a refl o
answered (Err e) o f = tt

pub returns-clause-before_or_after : goal.returns-clause-before_or_after
returns-clause-before_or_after g c clean there found may =
    let is = c.into_connection-conn.ensures in
    elim (c.reserve-result.ensures.crash (subst (λ k. HasCleanDisk (state g.S.Store k)) is clean) there found (subst (λ k. (state g.S.Store k).may_leave found) is may)) [
      | inl before ↦ inl (recovers found c.args.book.book c.rests.ensures.right before)
      | inr after ↦ inr (after.0, after.1, after.2, recovers found after.1 (reserves_right c.args.book.book after.1 (id_text c.args.key.now) c.args.message.now after.0 c.rests.ensures.right after.2).0 after.3)
    ]

pub returns-clause-after : goal.returns-clause-after
returns-clause-after g c clean found may =
    let is = c.into_connection-conn.ensures in
    let early = subst (λ k. HasCleanDisk (state g.S.Store k)) is clean in
    let new = c.reserve-result.new.self.book in
    answered c.reserve-result.result (c.reserve-result.ensures.live early) (λ a is_ok opened. (
      new,
      subst (λ r. Reserves c.args.book.book (id_text c.args.key.now) c.args.message.now r new) is_ok c.reserve-result.ensures.reserves,
      recovers found new c.reserve-result.ensures.right (c.reserve-result.ensures.durable early opened.1 found (subst (λ k. (state g.S.Store k).may_leave found) is may)),
    ))
