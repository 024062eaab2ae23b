use Rattle.std.proofs.Common.{◌≡◌, ℕ, ◌+◌, length}
use Rattle.canonical_json.specs.Json.{Json}
use Rattle.drafting.specs.Members.{without}
use Rattle.drafting.specs.Targets.{RemovesAll, IsUnlisted}
use Rattle.drafting.specs.steps.Rows.{rows_view, texts_view}
use Rattle.drafting.proofs.Rows.{shown}
use Rattle.drafting.proofs.targets.remove_all.Given as goal

-- what is left to be taken out comes on top of what was, and so does what is not listed
abbrev pub invariant-paths : goal.invariant-paths
invariant-paths l = record {
  count : l.at + length l.rest ≡ length l.fn.paths;
  rest : without (texts_view l.rest) (rows_view l.targets.items) ≡ without (texts_view l.fn.paths) (rows_view l.fn.targets.items);
  removes : (c : Json) → RemovesAll (texts_view l.rest) (shown l.targets.items) c → RemovesAll (texts_view l.fn.paths) (shown l.fn.targets.items) c;
  unlisted : (i : ℕ) → IsUnlisted (texts_view l.rest) (shown l.targets.items) i → IsUnlisted (texts_view l.fn.paths) (shown l.fn.targets.items) (l.at + i);
}

abbrev pub decreases-paths : goal.decreases-paths
decreases-paths l = length l.rest
