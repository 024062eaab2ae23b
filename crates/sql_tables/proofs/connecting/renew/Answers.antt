use Rattle.std.proofs.Common.{◌∙◌, arith, sym, ap, IsTrue}
use Rattle.sqlite_trees.specs.View.{IsClean, View}
use Rattle.std.proofs.lemmas.Bool.{true_from_ne_false}
use Rattle.sql_tables.proofs.connecting.renew.Goals as goal

pub returns-in-Ok-over-clause-same : goal.returns-in-Ok-over-clause-same
returns-in-Ok-over-clause-same g c clean is_open =
    let old = c.into_store-store.result in
    let done = c.in-Ok.ensures.ok (omega (arith, clean, c.in-Ok-over.ensures.clean)) in
    let was_open : IsTrue (g.S.Store.view old).is_open = true_from_ne_false _ (λ shut. let e = sym done.sound ∙ g.met.S.Store.broken_if_shut old shut in cc) in
    c.in-Ok-over.ensures.trees clean ∙ ap (λ (v : View). v.trees) done.is ∙ (c.into_store-store.ensures.undone.undone was_open).0

pub returns-in-Ok-over-clause-was_open : goal.returns-in-Ok-over-clause-was_open
returns-in-Ok-over-clause-was_open g c clean is_open =
    let old = c.into_store-store.result in
    let sure : IsClean (g.S.Store.view c.commit.new.self) = omega (arith, clean, c.in-Ok-over.ensures.clean) in
    let done = c.in-Ok.ensures.ok sure in
    let was_open : IsTrue (g.S.Store.view old).is_open = true_from_ne_false _ (λ shut. let e = sym done.sound ∙ g.met.S.Store.broken_if_shut old shut in cc) in
    let tidy : IsClean (g.S.Store.view old) = omega (arith, sure, c.commit.ensures.clean) in
    (c.into_store-store.ensures.undone.kept tidy).was_open was_open

pub returns-in-Ok-over-clause-anew : goal.returns-in-Ok-over-clause-anew
returns-in-Ok-over-clause-anew g c busy clean = (c.in-Ok-over.ensures.opens clean).0.is_open
