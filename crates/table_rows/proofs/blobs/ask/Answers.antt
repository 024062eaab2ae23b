use Rattle.std.proofs.Common.{[], ◌∷◌}
use Rattle.sqlite.specs.declared.types.Value.TheVariants.{Text}
use Rattle.sqlite.specs.Held.{state}
use Rattle.sql_tables.proofs.Calls.{failed_open, shown_open}
use Rattle.table_rows.proofs.One.{one_failed, one_quietly, one_same}
use Rattle.std.proofs.Common.{inl}
use Rattle.table_rows.proofs.Looking.{looked}
use Rattle.table_rows.proofs.blobs.ask.Goals as goal

pub returns-clause-open : goal.returns-clause-open
returns-clause-open g c clean = shown_open _ _ (state g.S.Store c.args.conn.now) (state g.S.Store c.query_all.new.self) _ (c.in_ok-rows.ensures.ok clean)

pub returns-clause-was_open : goal.returns-clause-was_open
returns-clause-was_open g c clean stays = (shown_open _ _ (state g.S.Store c.args.conn.now) (state g.S.Store c.query_all.new.self) _ (c.in_ok-rows.ensures.ok clean)).0

pub returns-clause-kept : goal.returns-clause-kept
returns-clause-kept g c clean stays t is =
    looked (state g.S.Store c.args.conn.now) (state g.S.Store c.query_all.new.self) t stays
    (inl (one_same (Text c.args.digits.now ∷ []) (state g.S.Store c.args.conn.now) (state g.S.Store c.query_all.new.self) _ is.schema.0 (c.in_ok-rows.ensures.ok clean))) is

pub returns-clause-survives : goal.returns-clause-survives
returns-clause-survives g c = one_quietly c.args.digits.now (state g.S.Store c.args.conn.now) (state g.S.Store c.query_all.new.self) c.query_all.ensures.survives

pub returns-in_err-rows-clause-was_open : goal.returns-in_err-rows-clause-was_open
returns-in_err-rows-clause-was_open g c clean stays = failed_open _ _ (state g.S.Store c.args.conn.now) (state g.S.Store c.query_all.new.self) _ stays (c.in_err-rows.ensures.err clean)

pub returns-in_err-rows-clause-kept : goal.returns-in_err-rows-clause-kept
returns-in_err-rows-clause-kept g c clean stays t is =
    looked (state g.S.Store c.args.conn.now) (state g.S.Store c.query_all.new.self) t stays
    (one_failed (Text c.args.digits.now ∷ []) (state g.S.Store c.args.conn.now) (state g.S.Store c.query_all.new.self) _ is.schema.0 (c.in_err-rows.ensures.err clean)) is

pub returns-in_err-rows-clause-survives : goal.returns-in_err-rows-clause-survives
returns-in_err-rows-clause-survives g c = one_quietly c.args.digits.now (state g.S.Store c.args.conn.now) (state g.S.Store c.query_all.new.self) c.query_all.ensures.survives
