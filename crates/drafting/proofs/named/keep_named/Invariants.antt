use Rattle.std.proofs.Common.{vec_len}
use Rattle.drafting.specs.Roots.{IsNamed}
use Rattle.drafting.proofs.Holders.{Loses}
use Rattle.drafting.proofs.Rows.{shown}
use Rattle.drafting.proofs.named.keep_named.Given as goal

abbrev pub invariant-table : goal.invariant-table
invariant-table l = Loses (IsNamed (shown l.roles)) (shown l.fn.table.items) (shown l.table.items)

abbrev pub decreases-table : goal.decreases-table
decreases-table l = vec_len l.table
