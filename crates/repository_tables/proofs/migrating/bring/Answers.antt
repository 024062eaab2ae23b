use Rattle.std.proofs.Common.{arith}
use Rattle.sqlite.specs.Held.{state}
use Rattle.sqlite.specs.State.{HasCleanDisk}
use Rattle.repository_tables.proofs.migrating.bring.Goals as goal

pub returns-clause-wrote : goal.returns-clause-wrote
returns-clause-wrote g c clean cells early =
    let emptied = state g.S.Store c.empty_root.new.tx.conn.now in
    let added = state g.S.Store c.add_roots.new.tx.conn.now in
    let bare = state g.S.Store c.empty_version.new.tx.conn.now in
    let at4 : HasCleanDisk bare = omega (arith, clean, c.add_version.ensures.uncommitted.survives.clean) in
    let at3 : HasCleanDisk added = omega (arith, at4, c.empty_version.ensures.uncommitted.survives.clean) in
    let at2 : HasCleanDisk emptied = omega (arith, at3, c.add_roots.ensures.uncommitted.survives.clean) in
    let at1 : HasCleanDisk (state g.S.Store c.make_root2.new.tx.conn.now) = omega (arith, at2, c.empty_root.ensures.uncommitted.survives.clean) in
    let one = c.in_ok-make_root2.ensures.wrote at1 cells early in
    let two = c.in_ok-empty_root.ensures.wrote at2 cells one in
    let three = c.in_ok-add_roots.ensures.wrote at3 _ two in
    let four = c.in_ok-empty_version.ensures.wrote at4 _ three in
    c.add_version.ensures.wrote clean _ four
