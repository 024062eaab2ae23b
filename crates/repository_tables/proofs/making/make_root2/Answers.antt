use Rattle.std.proofs.Common.{ℕ, subst}
use Rattle.sqlite.specs.Held.{state}
use Rattle.repository_tables.specs.steps.Migrating.{IsEarly}
use Rattle.repository_tables.proofs.MakingLemmas.{second_made, there_already}
use Rattle.repository_tables.proofs.making.make_root2.Goals as goal

pub returns-in_ok-execute-clause-wrote : goal.returns-in_ok-execute-clause-wrote
returns-in_ok-execute-clause-wrote g c clean cells early =
    let old = state g.S.Store c.args.tx.now.conn.now in
    second_made old (state g.S.Store c.execute.new.self.conn.now) cells c.in_ok-execute.field-0 (subst (λ (n : ℕ). IsEarly n old cells) c.if-count-eq5.true early) (c.in_ok-execute.ensures.runs clean early.inside)

pub returns-else-count-eq5-clause-wrote : goal.returns-else-count-eq5-clause-wrote
returns-else-count-eq5-clause-wrote g c clean cells early = there_already c.args.count (state g.S.Store c.args.tx.now.conn.now) cells c.if-count-eq5.false early
