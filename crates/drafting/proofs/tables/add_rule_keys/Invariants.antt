use Rattle.std.proofs.Common.{ℕ, List, ◌++◌, length}
use Rattle.canonical_json.specs.Json.{Json}
use Rattle.drafting.specs.Members.{PutsAll}
use Rattle.drafting.specs.Roots.{keys_of}
use Rattle.drafting.specs.steps.Rules.{keys_view}
use Rattle.drafting.proofs.Rows.{shown}
use Rattle.drafting.proofs.tables.add_rule_keys.Given as goal

-- what is left to be put comes on top of what was put
abbrev pub invariant-keys : goal.invariant-keys
invariant-keys l =
    (rows : List (List ℕ × Json)) (c : Json) → PutsAll (keys_of (keys_view l.rest) ++ rows) (shown l.table.items) c
    → PutsAll (keys_of (keys_view l.fn.keys) ++ rows) (shown l.fn.table.items) c

abbrev pub decreases-keys : goal.decreases-keys
decreases-keys l = length l.rest
