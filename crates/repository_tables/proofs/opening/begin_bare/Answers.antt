use Rattle.std.proofs.Common.{◌≡◌, IsTrue, true}
use Rattle.sqlite_trees.specs.Tree.{Trees}
use Rattle.sqlite.specs.Held.{state}
use Rattle.sqlite.proofs.StateLemmas.{survives_weaker}
use Rattle.table_rows.specs.Schema.{held}
use Rattle.table_rows.specs.Schema.{HasSome}
use Rattle.repository_rows.specs.Contents.{no_rows}
use Rattle.table_rows.specs.Tables.{AreBare, HoldsWhole}
use Rattle.repository_tables.proofs.opening.begin_bare.Goals as goal

pub returns-in_err-begin-clause-crash : goal.returns-in_err-begin-clause-crash
returns-in_err-begin-clause-crash g c =
    let old = state g.S.Store c.args.conn.now in
    let new = state g.S.Store c.begin.new.conn in
    survives_weaker old new _ (λ (trees : Trees). (c.args.is_bare ≡ true) × IsTrue old.is_open × (HasSome c.args.count old.now.schema → AreBare (held old.now.schema old.now.trees) → HoldsWhole trees no_rows))
    (λ _ db h. (c.if-not-is_bare.false, h.0, h.1))
    c.in_err-begin.ensures.crash
