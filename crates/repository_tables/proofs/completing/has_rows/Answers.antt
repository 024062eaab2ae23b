use Rattle.std.proofs.Common.{◌≡◌, List, false, IfOk, OnOk, IsTrue, subst}
use Rattle.sqlite.specs.Held.{state}
use Rattle.sqlite.specs.State.{IsUnchanged}
use Rattle.sql_tables.specs.Described.{AllLook, AreEmpty, Description, schema_of}
use Rattle.repository_tables.proofs.MakingLemmas.{all_look}
use Rattle.repository_tables.proofs.completing.has_rows.Goals as goal

pub returns-clause-rows : goal.returns-clause-rows
returns-clause-rows g c clean =
    let old = state g.S.Store c.args.tx.now.conn.now in
    subst (λ (ds : List Description). AllLook ds → old.now.schema ≡ schema_of ds → IfOk c.has_rows.result (λ some. (some ≡ false → AreEmpty (schema_of ds) old.now.trees) × (IsTrue some → AreEmpty (schema_of ds) old.now.trees → ⊥))) c.six_tables.ensures (c.has_rows.ensures.rows clean) all_look

pub returns-clause-unchanged : goal.returns-clause-unchanged
returns-clause-unchanged g c clean =
    let old = state g.S.Store c.args.tx.now.conn.now in
    let new = state g.S.Store c.has_rows.new.tx.conn.now in
    subst (λ (ds : List Description). AllLook ds → old.now.schema ≡ schema_of ds → OnOk c.has_rows.result (IsUnchanged old new)) c.six_tables.ensures (c.has_rows.ensures.unchanged clean) all_look
