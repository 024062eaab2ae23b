use Rattle.std.proofs.Common.{rules}
use Rattle.sqlite.specs.Held.{state}
use Rattle.sqlite.proofs.StateLemmas.{survives_weaker}
use Rattle.leaf_book.proofs.Statements.{leaf_kept, leaf_params, may_keep_leaf, recorded_still}
use Rattle.leaf_book.proofs.Texts as texts
use Rattle.leaf_book.proofs.writing.insert_leaf.Goals as goal

pub returns-in_err-execute-clause-unchanged : goal.returns-in_err-execute-clause-unchanged
returns-in_err-execute-clause-unchanged g c clean stays b is =
    let held = recorded_still texts.insert_leaf (leaf_params c.args.digits.now c.args.leaf c.args.message.now) (state g.S.Store c.args.conn.now) (state g.S.Store c.execute.new.self) _ b stays is (rw (c.to_sql.ensures) at (c.in_err-execute.ensures.runs clean)) in
    search (rules, held)

pub returns-in_err-execute-clause-crash : goal.returns-in_err-execute-clause-crash
returns-in_err-execute-clause-crash g c =
    let old = state g.S.Store c.args.conn.now in
    survives_weaker old (state g.S.Store c.execute.new.self) _ _ (λ _ db h b is. may_keep_leaf old c.args.digits.now c.args.leaf c.args.message.now b db h is) (rw (c.to_sql.ensures) at c.execute.ensures.survives)

pub returns-clause-kept : goal.returns-clause-kept
returns-clause-kept g c clean b is =
    leaf_kept (state g.S.Store c.args.conn.now) (state g.S.Store c.execute.new.self) c.args.digits.now c.args.leaf c.args.message.now c.in_ok-execute.field-0 b is (rw (c.to_sql.ensures) at (c.in_ok-execute.ensures.runs clean))

pub returns-clause-crash : goal.returns-clause-crash
returns-clause-crash g c =
    let old = state g.S.Store c.args.conn.now in
    survives_weaker old (state g.S.Store c.execute.new.self) _ _ (λ _ db h b is. may_keep_leaf old c.args.digits.now c.args.leaf c.args.message.now b db h is) (rw (c.to_sql.ensures) at c.execute.ensures.survives)
