use Rattle.std.proofs.Common.{◌∙◌, Result, ap, arith, sym, subst}
use Rattle.std.specs.Prelude.{IsTrue}
use Rattle.sqlite.specs.Held.{state}
use Rattle.sqlite.specs.State.{HasCleanDisk}
use Rattle.sha2.specs.Sha256.{sha256}
use Rattle.repository_rows.specs.Contents.{Contents}
use Rattle.machine.specs.Serving.{Leaves}
use Rattle.machine.specs.DeclaredLoadFault.{LoadFault}
use Rattle.table_rows.specs.Tables.{IsStore}
use Rattle.store.specs.steps.Loading.{HasFile}
use Rattle.store.proofs.Loads.{file_of, row_of, same_files}
use Rattle.store.proofs.stored_rows.StoredRowsBlobs.load.Goals.{in-Ok-true, in-Ok-false, in-Err-OutOfMemory, in-Err}
use Rattle.store.proofs.stored_rows.StoredRowsBlobs.load.Goals as goal

pub returns-clause-leaves : goal.returns-clause-leaves
returns-clause-leaves g c =
    let old = state g.S.Store c.self.inside.conn in
    let new = state g.S.Store c.load_blob.new.conn in
    let digest = c.args.digest.now.0 in
    let Left : Result (Unit {0}) LoadFault → Type 0 = λ r.
    Leaves (HasCleanDisk new × IsTrue new.is_open) (λ digest bytes. HasFile old digest bytes) digest c.args.out.now.items r c.load_blob.new.out.items in
    let rows : HasCleanDisk new → IsTrue new.is_open → (t : Contents) × IsStore old t = λ clean there.
    c.self.invariant.1 (omega (arith, clean, c.load_blob.ensures.survives.clean)) (c.load_blob.ensures.was_open clean there) in
    subst (λ k. Leaves (HasCleanDisk new × IsTrue new.is_open) (λ digest bytes. HasFile (state g.S.Store k) digest bytes) digest c.args.out.now.items c.match-load_blob.result c.load_blob.new.out.items) c.self.view_is
    (elim c.match-load_blob.branch [
      | in-Ok-true w ↦ subst Left (sym w.result-is) (
          let (bytes, same, right, stands) = w.in-Ok-true.ensures.found w.in-Ok-true.field-0-test in (
            bytes,
            same,
            right,
            (λ sure.
                let (t, is) = rows sure.0 sure.1 in
                let (x, has, digits, own) = stands sure.0 t is in
                file_of old t is digest bytes x has digits own right),
          ))
      | in-Ok-false w ↦ subst Left (sym w.result-is) (
        w.in-Ok-false.ensures.unfound w.in-Ok-false.field-0-test,
        (λ sure bytes file.
            let (t, is) = rows sure.0 sure.1 in
            let (x, has, digits, own) = row_of old t is digest bytes file in
            w.in-Ok-false.ensures.missing w.in-Ok-false.field-0-test sure.0 t is x has digits (ap sha256 own ∙ file.digest_is)),
      )
      | in-Err-OutOfMemory w ↦ subst Left (sym w.result-is) w.in-Err-OutOfMemory.ensures.failed
      | in-Err w ↦ subst Left (sym w.result-is) w.in-Err.ensures.failed
    ])

pub returns-clause-stays : goal.returns-clause-stays
returns-clause-stays g c sure digest bytes =
    let old = state g.S.Store c.self.inside.conn in
    let new = state g.S.Store c.load_blob.new.conn in
    let (t, is) = c.self.invariant.1 (omega (arith, sure.0, c.load_blob.ensures.survives.clean)) (c.load_blob.ensures.was_open sure.0 sure.1) in
    let then = c.load_blob.ensures.kept sure.0 sure.1 t is in
    subst (λ k. (HasFile (state g.S.Store k) digest bytes → HasFile new digest bytes) × (HasFile new digest bytes → HasFile (state g.S.Store k) digest bytes)) c.self.view_is
    (same_files old new t is then digest bytes, same_files new old t then is digest bytes)
