use Rattle.std.proofs.Common.{◌≡◌, ℕ, ◌<◌, get_or, string_bytes}
use Rattle.drafting.proofs.Rows.{Row}
use Rattle.drafting.proofs.members.place_of.Given as goal

abbrev pub invariant-loop-i : goal.invariant-loop-i
invariant-loop-i l = (k : ℕ) → k < l.i → (d : Row) → string_bytes (get_or l.members k d).0 ≡ l.name → ⊥
