use Rattle.std.proofs.Common.{ℕ, ◌<◌, get_or, string_bytes}
use Rattle.canonical_json.specs.Spelling.{IsBefore}
use Rattle.drafting.proofs.Rows.{Row}
use Rattle.drafting.proofs.members.place_for.Given as goal

abbrev pub invariant-loop-i : goal.invariant-loop-i
invariant-loop-i l = (k : ℕ) → k < l.i → (d : Row) → IsBefore l.name (string_bytes (get_or l.members k d).0) → ⊥
