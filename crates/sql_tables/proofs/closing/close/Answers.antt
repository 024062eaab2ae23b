use Rattle.std.proofs.Common.{◌≡◌, ◌∙◌, arith, sym, subst}
use Rattle.std.proofs.Math.Logic.{∥∥₁_map}
use Rattle.sqlite_wal.specs.Reads.{AreClean}
use Rattle.sqlite_wal.specs.Files.{outcomes}
use Rattle.sqlite_trees.specs.Tree.{Trees}
use Rattle.sqlite_trees.specs.View.{IsClean}
use Rattle.sqlite_trees.proofs.Doubt.{no_doubt}
use Rattle.sqlite_store.specs.FileStore.{view}
use Rattle.sqlite_pool.proofs.StateLemmas.{clean_is, may_leave_is}
use Rattle.sqlite.specs.Files.{file_state}
use Rattle.sqlite.proofs.Theorems.{opens_again}
use Rattle.sql_tables.proofs.closing.close.Goals as goal

pub returns-clause-clean : goal.returns-clause-clean
returns-clause-clean g c honest =
    let last = c.into_store-store.result in
    let sure = subst (λ p. AreClean g.D.Disk p.0 p.1) c.close.ensures honest in
    let none : IsClean (view last) = no_doubt _ (clean_is last.pool ∙ sure) in
    omega (arith, none, c.into_store-store.ensures.quiet.clean)

pub returns-clause-left : goal.returns-clause-left
returns-clause-left g c honest left out found finds =
    let last = c.into_store-store.result in
    let sure = subst (λ p. AreClean g.D.Disk p.0 p.1) c.close.ensures honest in
    let none : IsClean (view last) = no_doubt _ (clean_is last.pool ∙ sure) in
    let may = may_leave_is last.pool left sure (subst (λ p. outcomes g.D.Disk p.0 p.1 left) c.close.ensures out) in
    let again = opens_again last (c.into_store-store.ensures.numbered none) (c.into_store-store.ensures.sound none) left may in
    ∥∥₁_map again (λ it.
    let same : found ≡ it.0 = finds it.0 it.2 in
    subst (λ (d : Trees). (file_state c.args.conn).may_leave d) (sym same) (c.into_store-store.ensures.quiet.outcomes it.0 it.1))
