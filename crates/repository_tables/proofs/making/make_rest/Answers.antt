use Rattle.std.proofs.Common.{List, OnOk, subst}
use Rattle.sqlite.specs.Held.{state}
use Rattle.sql_tables.specs.Making.{IsMade}
use Rattle.sql_tables.specs.Described.{AllMake, Description, LacksRest, beginning, schema_of}
use Rattle.repository_tables.proofs.MakingLemmas.{all_make}
use Rattle.repository_tables.proofs.making.make_rest.Goals as goal

pub returns-clause-wrote : goal.returns-clause-wrote
returns-clause-wrote g c clean =
    let old = state g.S.Store c.args.tx.now.conn.now in
    let new = state g.S.Store c.make_rest.new.tx.conn.now in
    subst (λ (ds : List Description). AllMake ds → (rows : _) → LacksRest ds c.args.count rows → IsMade rows (beginning ds c.args.count) old → OnOk c.make_rest.result (IsMade rows (schema_of ds) new)) c.six_tables.ensures (c.make_rest.ensures.wrote clean) all_make
