use Rattle.std.proofs.Common.{subst}
use Rattle.std.proofs.Math.Logic.{∥∥₁_map}
use Rattle.sqlite.specs.Held.{state}
use Rattle.sqlite.specs.State.{HasCleanDisk}
use Rattle.store.specs.Views.{command_view}
use Rattle.store.proofs.Standings.{replied}
use Rattle.store.proofs.closing.applied.Goals as goal

pub returns-clause-crash : goal.returns-clause-crash
returns-clause-crash g c clean there U at found may =
    let is = c.into_connection-conn.ensures in
    c.apply-result.ensures.crash (subst (λ k. HasCleanDisk (state g.S.Store k)) is clean) there U at found (subst (λ k. (state g.S.Store k).may_leave found) is may)

pub returns-clause-after : goal.returns-clause-after
returns-clause-after g c clean U at found may =
    let is = c.into_connection-conn.ensures in
    replied c.args.store.kept c.apply-result.new.self.kept (state g.S.Store c.args.store.conn) (state g.S.Store c.apply-result.new.self.conn) (command_view c.args.command) c.args.now
    c.apply-result.result c.apply-result.ensures (subst (λ k. HasCleanDisk (state g.S.Store k)) is clean) U at found
    (∥∥₁_map may (λ left. subst (λ k. (state g.S.Store k).may_leave found) is left))
