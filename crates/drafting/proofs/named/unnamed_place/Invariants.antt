use Rattle.std.proofs.Common.{ℕ, ◌<◌, get_or, string_bytes}
use Rattle.drafting.specs.Roots.{IsNamed}
use Rattle.drafting.proofs.Rows.{Row, shown}
use Rattle.drafting.proofs.named.unnamed_place.Given as goal

abbrev pub invariant-loop-i : goal.invariant-loop-i
invariant-loop-i l = (k : ℕ) → k < l.i → (d : Row) → IsNamed (shown l.roles) (string_bytes (get_or l.table k d).0)
