use Rattle.std.proofs.Common.{Ok, Err, OnErr, OnOk, Result, arith}
use Rattle.sqlite.specs.Held.{state}
use Rattle.repository_rows.specs.Contents.{Contents}
use Rattle.table_rows.specs.Tables.{IsStore}
use Rattle.store.proofs.stored_rows.StoredRows.write.Goals as goal

either : {A E : Type 0} {P : Type 0} (r : Result A E) → OnOk r P → OnErr r P → P
either (Ok a) ok err = ok
either (Err e) ok err = err

some_if : {A E : Type 0} (P : Contents → Type 0) (t : Contents) (r : Result A E) → OnErr r (P t) → OnErr r ((u : Contents) × P u)
some_if P t (Ok a) h = tt
some_if P t (Err e) h = (t, h)

pub invariant_of-self : goal.invariant_of-self
invariant_of-self g c = (
  c.write.ensures.autocommit,
  (λ clean stays.
      let (rows, is) = c.self.invariant.1 (omega (arith, clean, c.write.ensures.crash.clean)) (c.write.ensures.was_open clean stays) in
      either c.write.result (c.write.ensures.some clean rows is)
      (some_if (IsStore (state g.S.Store c.write.new.conn)) rows c.write.result (c.write.ensures.kept clean stays rows is))),
)
