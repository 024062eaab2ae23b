use Rattle.std.proofs.Common.{List, OnOk, subst, refl}
use Rattle.sqlite.specs.Effect.{IsDatabase}
use Rattle.sqlite.specs.Held.{state}
use Rattle.sql_tables.specs.Making.{IsMade}
use Rattle.sql_tables.specs.Described.{AllMake, Description, LacksRest, beginning, schema_of}
use Rattle.leaf_book.specs.steps.Making.{nowhere}
use Rattle.leaf_book.proofs.Texts.{all_make}
use Rattle.leaf_book.proofs.making.make_both.Goals as goal

pub returns-clause-wrote : goal.returns-clause-wrote
returns-clause-wrote g c clean is =
    let old = state g.S.Store c.args.tx.now.conn.now in
    let new = state g.S.Store c.make_rest.new.tx.conn.now in
    subst (λ (ds : List Description). AllMake ds → (rows : _) → LacksRest ds 0 rows → IsMade rows (beginning ds 0) old → OnOk c.make_rest.result (IsMade rows (schema_of ds) new)) c.two_tables.ensures (c.make_rest.ensures.wrote clean) all_make nowhere (λ n up few. refl) is

pub returns-clause-sound : goal.returns-clause-sound
returns-clause-sound g c clean is sound =
    let old = state g.S.Store c.args.tx.now.conn.now in
    let new = state g.S.Store c.make_rest.new.tx.conn.now in
    subst (λ (ds : List Description). AllMake ds → (rows : _) → LacksRest ds 0 rows → IsMade rows (beginning ds 0) old → IsDatabase old.now → OnOk c.make_rest.result (IsDatabase new.now)) c.two_tables.ensures (c.make_rest.ensures.sound clean) all_make nowhere (λ n up few. refl) is sound
