use Rattle.std.proofs.Common.{◌≡◌, Err, IfOk, Ok, OnOk, Result, inl, inr, refl, subst}
use Rattle.sqlite.specs.Held.{state}
use Rattle.sqlite.specs.State.{HasCleanDisk}
use Rattle.keys_roles.specs.declared.KeyId.{KeyId}
use Rattle.leaf_book.specs.Calls.{Registers}
use Rattle.leaf_book.specs.Views.{id_answer}
use Rattle.leaf_book.specs.declared.faults.BookFault.{BookFault}
use Rattle.leaf_book.proofs.Reopening.{recovers}
use Rattle.leaf_book.proofs.RunLemmas.{registers_right}
use Rattle.leaf_book.proofs.closing.registered.Goals as goal

-- what follows from an answer and from what it is known to come with
answered : {Q : KeyId → Type 0} {O : Type 0} (r : Result KeyId BookFault) → OnOk r O → ((a : KeyId) → r ≡ Ok a → O → Q a) → IfOk r Q
answered (Ok a) o f = f a refl o
answered (Err e) o f = tt

pub returns-clause-before_or_after : goal.returns-clause-before_or_after
returns-clause-before_or_after g c clean there found may =
    let is = c.into_connection-conn.ensures in
    elim (c.register-result.ensures.crash (subst (λ k. HasCleanDisk (state g.S.Store k)) is clean) there found (subst (λ k. (state g.S.Store k).may_leave found) is may)) [
      | inl before ↦ inl (recovers found c.args.book.book c.rests.ensures.right before)
      | inr after ↦ inr (after.0, after.1, after.2, recovers found after.1 (registers_right c.args.book.book after.1 c.args.seed.now c.args.params after.0 c.rests.ensures.right after.2).0 after.3)
    ]

pub returns-clause-after : goal.returns-clause-after
returns-clause-after g c clean found may =
    let is = c.into_connection-conn.ensures in
    let early = subst (λ k. HasCleanDisk (state g.S.Store k)) is clean in
    let new = c.register-result.new.self.book in
    answered c.register-result.result (c.register-result.ensures.live early) (λ a is_ok opened. (
      new,
      subst (λ r. Registers c.args.book.book c.args.seed.now c.args.params (id_answer r) new) is_ok c.register-result.ensures.registers,
      recovers found new c.register-result.ensures.right (c.register-result.ensures.durable early opened.1 found (subst (λ k. (state g.S.Store k).may_leave found) is may)),
    ))
