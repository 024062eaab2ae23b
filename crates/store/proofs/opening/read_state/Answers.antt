use Rattle.std.proofs.Common.{◌≡◌, ◌∙◌, Bool, true, false, Err, ap, arith, refl, sym, subst}
use Rattle.std.proofs.lemmas.Result.{err_from_is_err_and}
use Rattle.std.proofs.lemmas.List.Elements.{All-from_recursion}
use Rattle.sha2.specs.Sha256.{sha256}
use Rattle.sqlite.specs.Held.{state}
use Rattle.repository_rows.specs.Contents.{Contents}
use Rattle.trust_rules.proofs.ShapedOnce.{Shapes}
use Rattle.table_rows.specs.declared.faults.StoreFault.TheVariants.{Damaged}
use Rattle.repository_tables.specs.Migration.{IsEarlier}
use Rattle.table_rows.specs.Tables.{IsStore, Stands}
use Rattle.store.specs.Standing.{IsStateOf}
use Rattle.table_rows.specs.Schema.{held}
use Rattle.store.specs.StateRows.{rows_of}
use Rattle.store.proofs.Fitting.{one_stands, state_digests, state_fits, state_rises}
use Rattle.store.proofs.Renewing.{prepares, renews}
use Rattle.store.proofs.opening.read_state.Goals as goal

pub returns-in-Ok-clause-loaded : goal.returns-in-Ok-clause-loaded
returns-in-Ok-clause-loaded g c =
    let (t, read, stood) = c.in_ok-read.ensures.loaded in
    let some = rw (c.in-Ok-Some.field-0-is) at c.in-Ok-Some.ensures.some in
    let (S, valid, rows, held) = some t.blobs (sym read.files) (All-from_recursion (λ b. sha256 b.1 ≡ b.0) t.blobs read.digests) in
    let same : t ≡ rows_of S = read.rows ∙ sym rows in
    let is : IsStateOf c.in-Ok-Some.held.held S = record { valid = valid; held = held } in (
      S,
      is,
      (λ clean settled.
          let found = stood (omega (arith, clean, c.renew_schema.ensures.crash.clean)) settled in (
            subst (λ (t : Contents). Stands (state g.S.Store c.args.conn.now).now t) same found.0,
            store c.in_ok-read.read.2
                (λ e. subst (λ k. IsStore (state g.S.Store k) (rows_of S)) (sym (c.renew_schema.ensures.whole e)) (subst (λ (t : Contents). IsStore (state g.S.Store c.prepare.new.conn) t) same (found.1 e)))
                (λ e. c.in-Ok.ensures.wrote clean e S is (subst (λ (t : Contents). IsEarlier (state g.S.Store c.prepare.new.conn) t) same (found.2 e))),
          )),
    )
  where
    store : {A : Type 0} (b : Bool) → (b ≡ false → A) → (b ≡ true → A) → A
    store true f g = g refl
    store false f g = f refl

pub returns-in-Ok-clause-crash : goal.returns-in-Ok-clause-crash
returns-in-Ok-clause-crash g c =
    let (t, read, stood) = c.in_ok-read.ensures.loaded in
    let some = rw (c.in-Ok-Some.field-0-is) at c.in-Ok-Some.ensures.some in
    let (S, valid, rows, held) = some t.blobs (sym read.files) (All-from_recursion (λ b. sha256 b.1 ≡ b.0) t.blobs read.digests) in
    let same : t ≡ rows_of S = read.rows ∙ sym rows in
    renews c.nothing_is_valid.ensures c.in-Ok-Some.held.held c.in_ok-read.read.2 (state g.S.Store c.args.conn.now) (state g.S.Store c.prepare.new.conn) (state g.S.Store c.renew_schema.new.conn) S
    (record { valid = valid; held = held })
    (λ clean.
    let found = stood clean (c.leaves_committed.ensures.settled c.requires) in (
      c.in_ok-read.ensures.was_open clean,
      subst (λ (t : Contents). Stands (state g.S.Store c.args.conn.now).now t) same found.0,
      λ e. subst (λ (t : Contents). IsEarlier (state g.S.Store c.prepare.new.conn) t) same (found.2 e),
    ))
    c.prepare.ensures.crash c.renew_schema.ensures.crash

pub returns-in-Err-renew_schema-clause-crash : goal.returns-in-Err-renew_schema-clause-crash
returns-in-Err-renew_schema-clause-crash g c =
    let (t, read, stood) = c.in_ok-read.ensures.loaded in
    let some = rw (c.in-Ok-Some.field-0-is) at c.in-Ok-Some.ensures.some in
    let (S, valid, rows, held) = some t.blobs (sym read.files) (All-from_recursion (λ b. sha256 b.1 ≡ b.0) t.blobs read.digests) in
    let same : t ≡ rows_of S = read.rows ∙ sym rows in
    renews c.nothing_is_valid.ensures c.in-Ok-Some.held.held c.in_ok-read.read.2 (state g.S.Store c.args.conn.now) (state g.S.Store c.prepare.new.conn) (state g.S.Store c.renew_schema.new.conn) S
    (record { valid = valid; held = held })
    (λ clean.
    let found = stood clean (c.leaves_committed.ensures.settled c.requires) in (
      c.in_ok-read.ensures.was_open clean,
      subst (λ (t : Contents). Stands (state g.S.Store c.args.conn.now).now t) same found.0,
      λ e. subst (λ (t : Contents). IsEarlier (state g.S.Store c.prepare.new.conn) t) same (found.2 e),
    ))
    c.prepare.ensures.crash c.renew_schema.ensures.crash

pub returns-in_err-read-clause-crash : goal.returns-in_err-read-clause-crash
returns-in_err-read-clause-crash g c = prepares c.nothing_is_valid.ensures (state g.S.Store c.args.conn.now) (state g.S.Store c.prepare.new.conn) c.prepare.ensures.crash

pub returns-in-Ok-None-clause-crash : goal.returns-in-Ok-None-clause-crash
returns-in-Ok-None-clause-crash g c = prepares c.nothing_is_valid.ensures (state g.S.Store c.args.conn.now) (state g.S.Store c.prepare.new.conn) c.prepare.ensures.crash

pub returns-in-Err-clause-crash : goal.returns-in-Err-clause-crash
returns-in-Err-clause-crash g c = prepares c.nothing_is_valid.ensures (state g.S.Store c.args.conn.now) (state g.S.Store c.prepare.new.conn) c.prepare.ensures.crash

pub returns-in_err-read-clause-damaged : goal.returns-in_err-read-clause-damaged
returns-in_err-read-clause-damaged g c clean settled same =
    let law : Shapes = record { document = c.one_document.ensures; none = c.one_shape.ensures.none; one = c.one_shape.ensures.one } in
    let p = err_from_is_err_and c.from_residual.result c.from_residual.ensures.1 in
    let is = sym p.1 ∙ same in
    let fault : p.0 ≡ Damaged = cc in
    let this = ap Err (sym p.2 ∙ fault) in (
      c.in_err-read.ensures.found_open clean this,
      c.in_err-read.ensures.ours this,
      λ U valid stands. c.in_err-read.ensures.damaged clean this (rows_of U) (state_fits law U valid) (state_digests law U valid) stands,
    )

pub returns-in-Ok-None-clause-damaged : goal.returns-in-Ok-None-clause-damaged
returns-in-Ok-None-clause-damaged g c clean settled same =
    let law : Shapes = record { document = c.one_document.ensures; none = c.one_shape.ensures.none; one = c.one_shape.ensures.one } in
    let none = rw (c.in-Ok-None.field-0-is) at c.in-Ok-None.ensures.none in
    let db = (state g.S.Store c.args.conn.now).now in
    let trees = held db.schema db.trees in
    let (t, read, stood) = c.in_ok-read.ensures.loaded in (
      c.in_ok-read.ensures.was_open clean,
      c.in_ok-read.ensures.schema,
      λ U valid stands.
          none t.blobs (sym read.files) U valid
          (one_stands trees (rows_of U) t (state_fits law U valid) read.fit (state_rises law U valid) read.rising stands.1 (stood clean settled).0.1
          ∙ read.rows),
    )
