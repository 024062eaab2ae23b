use Rattle.std.proofs.Common.{take}
use Rattle.std.specs.List.{AllByRecursion}
use Rattle.keys_roles.specs.Views.{rows_view}
use Rattle.chain_drafting.specs.Finding.{IsNotCalled}
use Rattle.drafting.proofs.Rows.{shown}
use Rattle.chain_drafting.proofs.finding.first_called.Given as goal

-- none of those that were looked at is called so
abbrev pub invariant-loop-i : goal.invariant-loop-i
invariant-loop-i l = AllByRecursion (IsNotCalled (shown l.names) l.word) (rows_view (take l.i l.rows))
