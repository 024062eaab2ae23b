use Rattle.std.proofs.Common.{◌≡◌, ◌⊎◌, Err, IsTrue, Ok, Result, inl, inr, sym, subst, ap, arith}
use Rattle.sqlite_trees.specs.Tree.{Trees}
use Rattle.sqlite.specs.Effect.{IsDatabase}
use Rattle.sqlite.specs.Held.{state}
use Rattle.sqlite.specs.State.{HasCleanDisk, IsLive, State, Survives}
use Rattle.leaf_plans.specs.Book.{Book, IsBook}
use Rattle.leaf_book.specs.Rows.{Begins, IsRecorded, IsSettled, Stands, TreesStand}
use Rattle.leaf_book.proofs.Reopening.{stands_still}
use Rattle.leaf_book.proofs.book.Book.open_over.Goals as goal

pub over-requires-clause-rows : goal.over-requires-clause-rows
over-requires-clause-rows g c clean stays =
    let early : HasCleanDisk (state g.S.Store c.in-Ok.conn) = omega (arith, clean, c.prepare.ensures.crash.clean) in
    (c.in-Ok-prepare.ensures.found clean (c.in-Ok.ensures.settled early)).2

pub returns-in-Ok-prepare-clause-opened : goal.returns-in-Ok-prepare-clause-opened
returns-in-Ok-prepare-clause-opened g c clean =
    let db = (state g.S.Store c.in-Ok.conn).now in
    let late : HasCleanDisk (state g.S.Store c.prepare.new.conn) = subst (λ k. HasCleanDisk (state g.S.Store k)) c.over.ensures.conn clean in
    let early : HasCleanDisk (state g.S.Store c.in-Ok.conn) = omega (arith, late, c.prepare.ensures.crash.clean) in
    let found = c.in-Ok-prepare.ensures.found late (c.in-Ok.ensures.settled early) in
    let sound : IsDatabase db = (c.prepare.ensures.live found.0).0 in
    (subst IsBook (sym c.over.ensures.book) c.in-Ok-prepare.ensures.right, (db, c.in-Ok.ensures.same early found.0, sound, subst (λ (b : Book). Stands db b) (sym c.over.ensures.book) found.1))

pub returns-in-Ok-prepare-clause-rows : goal.returns-in-Ok-prepare-clause-rows
returns-in-Ok-prepare-clause-rows g c clean =
    let late : HasCleanDisk (state g.S.Store c.prepare.new.conn) = subst (λ k. HasCleanDisk (state g.S.Store k)) c.over.ensures.conn clean in
    let early : HasCleanDisk (state g.S.Store c.in-Ok.conn) = omega (arith, late, c.prepare.ensures.crash.clean) in
    let found = c.in-Ok-prepare.ensures.found late (c.in-Ok.ensures.settled early) in
    subst (λ k. IsRecorded (state g.S.Store k) c.over.result.book) (sym c.over.ensures.conn) (subst (IsRecorded (state g.S.Store c.prepare.new.conn)) (sym c.over.ensures.book) found.2)

pub returns-in-Err-prepare-clause-damaged : goal.returns-in-Err-prepare-clause-damaged
returns-in-Err-prepare-clause-damaged g c is clean =
    let db = (state g.S.Store c.in-Ok.conn).now in
    let early : HasCleanDisk (state g.S.Store c.in-Ok.conn) = omega (arith, clean, c.prepare.ensures.crash.clean) in
    let told = c.in-Err-prepare.ensures.damaged clean (ap Err is) in
    let sound : IsDatabase db = (c.prepare.ensures.live told.0).0 in
    (db, c.in-Ok.ensures.same early told.0, sound, told.1, told.2)

ok_same : {A E : Type 0} {a b : A} → ◌≡◌ {A = Result A E} (Ok a) (Ok b) → a ≡ b
ok_same e = let f = e in cc

pub returns-in-Ok-prepare-clause-crash : goal.returns-in-Ok-prepare-clause-crash
returns-in-Ok-prepare-clause-crash g c free =
    let same = ok_same (c.in-Ok.ensures.untouched free) in
    subst (λ k. Survives (state g.S.Store c.args.conn) (state g.S.Store k) (Begins (state g.S.Store c.args.conn))) (sym c.over.ensures.conn)
    (subst (λ k. Survives (state g.S.Store k) (state g.S.Store c.prepare.new.conn) (Begins (state g.S.Store k))) same c.prepare.ensures.crash)

pub returns-in-Err-prepare-clause-crash : goal.returns-in-Err-prepare-clause-crash
returns-in-Err-prepare-clause-crash g c free =
    let same = ok_same (c.in-Ok.ensures.untouched free) in
    subst (λ k. Survives (state g.S.Store k) (state g.S.Store c.prepare.new.conn) (Begins (state g.S.Store k))) same c.prepare.ensures.crash

-- what an opening leaves, where it was at rest
still : (old : State) (b : Book) (trees : Trees) → IsLive old → IsTrue old.is_open → IsSettled old → TreesStand old.committed.trees b → (old.may_leave trees → trees ≡ old.committed.trees) → old.may_leave trees ⊎ Begins old trees → TreesStand trees b
still old b trees live is_open settled stands only (inl before) = stands_still old b trees live is_open (settled is_open) stands (inl (only before))
still old b trees live is_open settled stands only (inr begins) = stands_still old b trees live is_open (settled is_open) stands (inr begins)

pub returns-in-Ok-prepare-clause-stays : goal.returns-in-Ok-prepare-clause-stays
returns-in-Ok-prepare-clause-stays g c free is_open b stands clean trees may =
    let same = ok_same (c.in-Ok.ensures.untouched free) in
    let survives = returns-in-Ok-prepare-clause-crash g c free in
    let early : HasCleanDisk (state g.S.Store c.args.conn) = omega (arith, clean, survives.clean) in
    let settled = subst (λ k. IsSettled (state g.S.Store k)) same (c.in-Ok.ensures.settled (subst (λ k. HasCleanDisk (state g.S.Store k)) (sym same) early)) in
    let live = subst (λ k. IsLive (state g.S.Store k)) same c.prepare.ensures.live in
    still (state g.S.Store c.args.conn) b trees live is_open settled stands (λ before. g.met.S.Store.settled c.args.conn.store trees is_open before) (survives.crash clean trees may)

pub returns-in-Err-prepare-clause-stays : goal.returns-in-Err-prepare-clause-stays
returns-in-Err-prepare-clause-stays g c free is_open b stands clean trees may =
    let same = ok_same (c.in-Ok.ensures.untouched free) in
    let survives = returns-in-Err-prepare-clause-crash g c free in
    let early : HasCleanDisk (state g.S.Store c.args.conn) = omega (arith, clean, survives.clean) in
    let settled = subst (λ k. IsSettled (state g.S.Store k)) same (c.in-Ok.ensures.settled (subst (λ k. HasCleanDisk (state g.S.Store k)) (sym same) early)) in
    let live = subst (λ k. IsLive (state g.S.Store k)) same c.prepare.ensures.live in
    still (state g.S.Store c.args.conn) b trees live is_open settled stands (λ before. g.met.S.Store.settled c.args.conn.store trees is_open before) (survives.crash clean trees may)
