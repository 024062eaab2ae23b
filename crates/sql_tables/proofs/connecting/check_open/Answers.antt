use Rattle.std.proofs.Common.{inl}
use Rattle.sqlite.specs.Held.{state}
use Rattle.sql_tables.proofs.Calls.{failed_open, failed_quietly, shown_open}
use Rattle.sql_tables.proofs.Queries.{read_same}
use Rattle.sql_tables.proofs.connecting.check_open.Goals as goal

pub returns-clause-open : goal.returns-clause-open
returns-clause-open g c clean = shown_open _ _ (state g.S.Store c.args.conn.now) (state g.S.Store c.query_all.new.self) _ (c.in_ok-query_all.ensures.ok clean)

pub returns-clause-was_open : goal.returns-clause-was_open
returns-clause-was_open g c clean stays = (shown_open _ _ (state g.S.Store c.args.conn.now) (state g.S.Store c.query_all.new.self) _ (c.in_ok-query_all.ensures.ok clean)).0

pub returns-clause-kept : goal.returns-clause-kept
returns-clause-kept g c clean schema tree shown keys reads has = inl (read_same reads (state g.S.Store c.args.conn.now) (state g.S.Store c.query_all.new.self) _ has (c.in_ok-query_all.ensures.ok clean))

pub returns-in_err-query_all-clause-was_open : goal.returns-in_err-query_all-clause-was_open
returns-in_err-query_all-clause-was_open g c clean stays = failed_open _ _ (state g.S.Store c.args.conn.now) (state g.S.Store c.query_all.new.self) _ stays (c.in_err-query_all.ensures.err clean)

pub returns-in_err-query_all-clause-kept : goal.returns-in_err-query_all-clause-kept
returns-in_err-query_all-clause-kept g c clean schema tree shown keys reads has = failed_quietly reads (state g.S.Store c.args.conn.now) (state g.S.Store c.query_all.new.self) _ has (c.in_err-query_all.ensures.err clean)
