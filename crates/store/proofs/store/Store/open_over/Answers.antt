use Rattle.std.proofs.lemmas.Bool.{true_from_ne_false}
use Rattle.std.proofs.Common.{◌≡◌, ◌∙◌, false, Ok, Err, Result, refl, sym, subst, subst₂, ap, arith}
use Rattle.std.specs.Prelude.{IsTrue}
use Rattle.trust_rules.specs.State.{State}
use Rattle.sqlite.specs.Effect.{IsDatabase}
use Rattle.sqlite.specs.Held.{state}
use Rattle.sqlite.specs.State.{HasCleanDisk, Survives}
use Rattle.sqlite_trees.specs.Tree.{Trees}
use Rattle.table_rows.specs.declared.faults.StoreFault.{StoreFault}
use Rattle.table_rows.specs.declared.faults.StoreFault.TheVariants.{Damaged, Database, OutOfMemory}
use Rattle.table_rows.specs.Tables.{IsStore, Stands}
use Rattle.store.specs.Standing.{IsStateOf, Opens, seen}
use Rattle.store.specs.StateRows.{Begins, HoldsNoState, LeavesStanding, OpensTo, RestsAt, TreesStand, rows_of}
use Rattle.store.proofs.Reopening.{shut_standing, stays_standing}
use Rattle.store.proofs.Standings.{stands_at}
use Rattle.store.proofs.store.Store.open_over.Goals as goal

pub new-requires-clause-rows : goal.new-requires-clause-rows
new-requires-clause-rows g c late there =
    let (U, of, found) = c.in-Ok-read_state.ensures.loaded in
    (rows_of U, (found late (c.in-Ok.ensures.settled (omega (arith, late, c.read_state.ensures.crash.clean)))).1)

pub over-store-requires : goal.over-store-requires
over-store-requires g c =
    let (U, of, found) = c.in-Ok-read_state.ensures.loaded in
    subst (λ k. (V : State) × IsStateOf c.in-Ok-read_state.held.held V × (HasCleanDisk (state g.S.Store k) → IsTrue (state g.S.Store k).is_open → IsStore (state g.S.Store k) (rows_of V)))
    (sym c.new.ensures) (U, of, λ late there. (found late (c.in-Ok.ensures.settled (omega (arith, late, c.read_state.ensures.crash.clean)))).1)

pub returns-in-Ok-read_state-clause-opened : goal.returns-in-Ok-read_state-clause-opened
returns-in-Ok-read_state-clause-opened g c =
    let conn = c.in-Ok.conn in
    let db = (state g.S.Store conn).now in
    let kept = c.in-Ok-read_state.held.held in
    let new = state g.S.Store c.read_state.new.conn in
    let (U, of, loaded) = c.in-Ok-read_state.ensures.loaded in
    let early : HasCleanDisk new → HasCleanDisk (state g.S.Store conn) = λ late. omega (arith, late, c.read_state.ensures.crash.clean) in
    let found : HasCleanDisk new → Stands db (rows_of U) × IsStore new (rows_of U) = λ late. loaded late (c.in-Ok.ensures.settled (early late)) in
    let stood : HasCleanDisk new → TreesStand (state g.S.Store c.args.conn).committed.trees (rows_of U) = λ late.
    let is_open = c.in-Ok-read_state.ensures.was_open late in
    (db, c.in-Ok.ensures.same (early late) is_open, (c.read_state.ensures.live is_open).0, (found late).0) in
    let opens : Opens (state g.S.Store c.args.conn) (seen kept new) = (
      U,
      stands_at kept new U of (λ late there. (found late).1),
      λ late. ((found late).1.is_open, (of.valid, stood late)),
    ) in
    subst₂ (λ k H. Opens (state g.S.Store c.args.conn) (seen H (state g.S.Store k))) (sym (c.over-store.ensures.conn ∙ c.new.ensures)) (sym c.over-store.ensures.kept) opens

pub returns-in-Ok-read_state-clause-durable : goal.returns-in-Ok-read_state-clause-durable
returns-in-Ok-read_state-clause-durable g c clean U at trees may = c.rests.ensures.left clean ((returns-in-Ok-read_state-clause-opened g c).2 clean).0 U at trees may

ok_same : {A E : Type 0} {a b : A} → ◌≡◌ {A = Result A E} (Ok a) (Ok b) → a ≡ b
ok_same e = let f = e in cc

pub returns-in-Ok-read_state-clause-crash : goal.returns-in-Ok-read_state-clause-crash
returns-in-Ok-read_state-clause-crash g c free =
    let same = ok_same (c.in-Ok.ensures.untouched free) in
    subst (λ k. Survives (state g.S.Store c.args.conn) (state g.S.Store k) (Begins (state g.S.Store c.args.conn))) (sym (c.over-store.ensures.conn ∙ c.new.ensures))
    (subst (λ k. Survives (state g.S.Store k) (state g.S.Store c.read_state.new.conn) (Begins (state g.S.Store k))) same c.read_state.ensures.crash)

-- of other faults nothing is said
if_damaged : (trees : Trees) (fault : StoreFault) → (fault ≡ Damaged → HoldsNoState trees) → OpensTo trees (Err fault)
if_damaged trees Damaged none = none refl
if_damaged trees Database none = tt
if_damaged trees OutOfMemory none = tt

pub returns-in-Err-read_state-clause-fault : goal.returns-in-Err-read_state-clause-fault
returns-in-Err-read_state-clause-fault g c clean = if_damaged (state g.S.Store c.args.conn).committed.trees _ (λ is.
    let db = (state g.S.Store c.in-Ok.conn).now in
    let early : HasCleanDisk (state g.S.Store c.in-Ok.conn) = omega (arith, clean, c.read_state.ensures.crash.clean) in
    let told = c.in-Err-read_state.ensures.damaged clean (c.in-Ok.ensures.settled early) (ap Err is) in
    let sound : IsDatabase db = (c.read_state.ensures.live told.0).0 in
    (db, c.in-Ok.ensures.same early told.0, sound, told.1, told.2))

pub returns-in-Err-read_state-clause-crash : goal.returns-in-Err-read_state-clause-crash
returns-in-Err-read_state-clause-crash g c free =
    let same = ok_same (c.in-Ok.ensures.untouched free) in
    subst (λ k. Survives (state g.S.Store k) (state g.S.Store c.read_state.new.conn) (Begins (state g.S.Store k))) same c.read_state.ensures.crash

-- the connection over which the rows are read, and the one that is left
pub returns-in-Ok-read_state-clause-stays : goal.returns-in-Ok-read_state-clause-stays
returns-in-Ok-read_state-clause-stays g c U rests =
    let mid = state g.S.Store c.in-Ok.conn in
    let free : c.args.conn.in_transaction ≡ false → RestsAt mid U = λ free. subst (λ k. RestsAt (state g.S.Store k) U) (sym (ok_same (c.in-Ok.ensures.untouched free))) rests in
    subst (λ k. LeavesStanding (state g.S.Store k) U) (sym (c.over-store.ensures.conn ∙ c.new.ensures))
    (stays_standing c.trees_tell_state.ensures.once c.trees_tell_state.ensures.sound (state g.S.Store c.args.conn) mid (state g.S.Store c.read_state.new.conn) U rests
    (λ there trees may. g.met.S.Store.settled c.in-Ok.conn.store trees there may) c.read_state.ensures.live c.in-Ok.ensures.settled c.in-Ok.ensures.same c.in-Ok.ensures.was_open
    (shut_standing mid U c.args.conn.in_transaction c.in-Ok.ensures.anew free) c.read_state.ensures.crash)

pub returns-in-Err-read_state-clause-stays : goal.returns-in-Err-read_state-clause-stays
returns-in-Err-read_state-clause-stays g c U rests =
    let mid = state g.S.Store c.in-Ok.conn in
    let free : c.args.conn.in_transaction ≡ false → RestsAt mid U = λ free. subst (λ k. RestsAt (state g.S.Store k) U) (sym (ok_same (c.in-Ok.ensures.untouched free))) rests in
    stays_standing c.trees_tell_state.ensures.once c.trees_tell_state.ensures.sound (state g.S.Store c.args.conn) mid (state g.S.Store c.read_state.new.conn) U rests
    (λ there trees may. g.met.S.Store.settled c.in-Ok.conn.store trees there may) c.read_state.ensures.live c.in-Ok.ensures.settled c.in-Ok.ensures.same c.in-Ok.ensures.was_open
    (shut_standing mid U c.args.conn.in_transaction c.in-Ok.ensures.anew free) c.read_state.ensures.crash

-- none is left only where a transaction was under way
pub returns-in-Err-clause-stays : goal.returns-in-Err-clause-stays
returns-in-Err-clause-stays g c U rests = true_from_ne_false _ (λ free. let e = c.in-Err.ensures.untouched free in cc)
