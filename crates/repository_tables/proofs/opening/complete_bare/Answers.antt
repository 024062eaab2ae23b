use Rattle.std.proofs.Common.{refl, subst}
use Rattle.sqlite.specs.Held.{state}
use Rattle.table_rows.specs.Schema.{held}
use Rattle.table_rows.specs.Tables.{StandsFor}
use Rattle.table_rows.proofs.Beginnings.{stands_bare}
use Rattle.table_rows.proofs.ItemLemmas.{nothing_read}
use Rattle.repository_tables.proofs.opening.complete_bare.Goals as goal

pub returns-then-branch-clause-empty : goal.returns-then-branch-clause-empty
returns-then-branch-clause-empty g c = (nothing_read c.empty.result c.new.result.items c.empty.ensures c.new.ensures.items, refl)

pub returns-else-branch-clause-damaged : goal.returns-else-branch-clause-damaged
returns-else-branch-clause-damaged g c schema clean is t fit right stands =
    let trees = (state g.S.Store c.args.conn.now).now.trees in
    (c.in_ok-complete.ensures.found clean schema).1 c.if-branch.false (stands_bare c.args.count trees t c.requires.few (subst (λ s. StandsFor (held s trees) t) schema stands.1))
