use Rattle.std.proofs.Common.{Ok, inl, inr, refl, sym, subst, arith}
use Rattle.sqlite.specs.Held.{state}
use Rattle.sqlite.specs.State.{HasCleanDisk}
use Rattle.keys_roles.specs.Views.{id_text}
use Rattle.leaf_plans.specs.declared.planning.Plan.TheVariants.{New, Spent}
use Rattle.leaf_plans.specs.Book.{Book, IsBook, with_leaf}
use Rattle.leaf_book.specs.Rows.{HoldsWhole}
use Rattle.leaf_plans.specs.Planning.{IsPlan}
use Rattle.leaf_book.proofs.RunLemmas.{with_leaf_right}
use Rattle.leaf_book.proofs.book.Book.take.Goals as goal

pub returns-in-Spent-clause-reserves : goal.returns-in-Spent-clause-reserves
returns-in-Spent-clause-reserves g c =
    let same = c.touch.ensures.same in
    let p = subst (λ (b : Book). IsPlan b (id_text c.args.key.now) c.args.message.now Spent) same c.in-Spent.ensures in
    (p.0, p.1, same)

pub returns-in-Spent-clause-crash : goal.returns-in-Spent-clause-crash
returns-in-Spent-clause-crash g c clean was trees may =
    let early : HasCleanDisk (state g.S.Store c.args.self.now.conn) = omega (arith, clean, c.touch.ensures.survives.clean) in
    elim (c.touch.ensures.survives.crash clean trees may) [ inl before ↦ inl (c.rests.ensures.left early was trees before) | inr none ↦ absurd none ]

pub keep_leaf-requires-clause-right : goal.keep_leaf-requires-clause-right
keep_leaf-requires-clause-right g c =
    let p = c.in-New.ensures in
    with_leaf_right c.touch.new.self.book (id_text c.args.key.now) c.in-New.leaf c.args.message.now c.in-New.params (subst IsBook (sym c.touch.ensures.same) c.rests.ensures.right) p.0 p.1 p.2 p.3

pub returns-in-Ok-keep_leaf-clause-crash : goal.returns-in-Ok-keep_leaf-clause-crash
returns-in-Ok-keep_leaf-clause-crash g c clean was trees may =
    let key = id_text c.args.key.now in
    let same = c.touch.ensures.same in
    let p = subst (λ (b : Book). IsPlan b key c.args.message.now (New c.in-New.leaf c.in-New.params)) same c.in-New.ensures in
    let late : HasCleanDisk (state g.S.Store c.touch.new.self.conn) = c.keep_leaf.ensures.clean clean in
    elim (c.keep_leaf.ensures.crash clean (c.in-Ok.ensures.open late).1 trees may) [
      | inl before ↦ inl (subst (HoldsWhole trees) same before)
      | inr after ↦ inr (
        Ok (record { key = key; leaf = c.in-New.leaf; params = c.in-New.params; message = c.args.message.now }),
        with_leaf key c.in-New.leaf c.args.message.now c.args.self.now.book,
        (refl, refl, p.0, p.1, inr (p.2, p.3, refl)),
        subst (λ (b : Book). HoldsWhole trees (with_leaf key c.in-New.leaf c.args.message.now b)) same after,
      )
    ]

pub returns-in-Err-keep_leaf-clause-crash : goal.returns-in-Err-keep_leaf-clause-crash
returns-in-Err-keep_leaf-clause-crash g c clean was trees may =
    let key = id_text c.args.key.now in
    let same = c.touch.ensures.same in
    let p = subst (λ (b : Book). IsPlan b key c.args.message.now (New c.in-New.leaf c.in-New.params)) same c.in-New.ensures in
    let late : HasCleanDisk (state g.S.Store c.touch.new.self.conn) = c.keep_leaf.ensures.clean clean in
    elim (c.keep_leaf.ensures.crash clean (c.in-Ok.ensures.open late).1 trees may) [
      | inl before ↦ inl (subst (HoldsWhole trees) same before)
      | inr after ↦ inr (
        Ok (record { key = key; leaf = c.in-New.leaf; params = c.in-New.params; message = c.args.message.now }),
        with_leaf key c.in-New.leaf c.args.message.now c.args.self.now.book,
        (refl, refl, p.0, p.1, inr (p.2, p.3, refl)),
        subst (λ (b : Book). HoldsWhole trees (with_leaf key c.in-New.leaf c.args.message.now b)) same after,
      )
    ]
