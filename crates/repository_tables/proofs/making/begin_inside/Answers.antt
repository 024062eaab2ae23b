use Rattle.std.proofs.Common.{arith}
use Rattle.sqlite.specs.Held.{state}
use Rattle.sqlite.specs.State.{HasCleanDisk}
use Rattle.sql_tables.proofs.Calls.{OnOk_then}
use Rattle.repository_tables.proofs.CellLemmas.{bare_trees}
use Rattle.repository_tables.proofs.making.begin_inside.Goals as goal
use Rattle.repository_tables.specs.steps.Migrating.{bare_cells}

pub returns-clause-wrote : goal.returns-clause-wrote
returns-clause-wrote g c clean early =
    let mid : HasCleanDisk (state g.S.Store c.make_root2.new.tx.conn.now) = omega (arith, clean, c.put_version.ensures.uncommitted.survives.clean) in
    let inside = (c.in_ok-make_root2.ensures.wrote mid bare_cells early) in
    c.put_version.ensures.wrote clean inside.tables.is_open inside.tables.inside inside.six (bare_trees _ inside)

pub returns-clause-was_open : goal.returns-clause-was_open
returns-clause-was_open g c clean =
    let mid : HasCleanDisk (state g.S.Store c.make_root2.new.tx.conn.now) = omega (arith, clean, c.put_version.ensures.uncommitted.survives.clean) in
    OnOk_then c.put_version.result (c.put_version.ensures.was_open clean) (λ open_there. (c.make_root2.ensures.uncommitted.kept mid).was_open open_there)
