use Rattle.std.proofs.Common.{◌≡◌, ◌∙◌, List, ap, sym}
use Rattle.metadata.specs.File.{Bytes}
use Rattle.sqlite.specs.Held.{state}
use Rattle.trust_rules.proofs.ShapedOnce.{Shapes}
use Rattle.trust_rules.specs.State.{State, Trusted}
use Rattle.table_rows.specs.Schema.{held}
use Rattle.store.specs.StateRows.{rows_of}
use Rattle.store.proofs.Fitting.{same_tables, state_fits, state_rises}
use Rattle.store.proofs.laws.stands.Goals as goal

pub returns-clause-valid : goal.returns-clause-valid
returns-clause-valid g c U at = at.state.valid

fields : {t t' : Trusted} {b b' : List (Bytes × Bytes)} → t ≡ t' → b ≡ b' → ◌≡◌ {A = State} (record { trusted = t; blobs = b }) (record { trusted = t'; blobs = b' })
fields e f = cc

pub returns-clause-once : goal.returns-clause-once
returns-clause-once g c clean there U V at to =
    let law : Shapes = record { document = c.one_document.ensures; none = c.one_shape.ensures.none; one = c.one_shape.ensures.one } in
    let fit = state_fits law U at.state.valid in
    let fit' = state_fits law V to.state.valid in
    let now = (state g.S.Store c.args.store.now.conn).now in
    let trees = held now.schema now.trees in
    let rows = same_tables (rows_of U) (rows_of V) (state_rises law U at.state.valid) (state_rises law V to.state.valid)
    (c.one_contents.ensures trees (rows_of U) (rows_of V) fit fit' (at.rows clean there).holds (to.rows clean there).holds) in
    fields (ap (λ h. h.trusted) (at.state.held ∙ sym to.state.held)) (ap (λ t. t.blobs) rows)
