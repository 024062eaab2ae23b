use Rattle.std.proofs.Common.{drop}
use Rattle.canonical_json.specs.Json.{Json}
use Rattle.drafting.specs.Members.{PutsAll}
use Rattle.drafting.specs.Roots.{name_rows}
use Rattle.drafting.specs.steps.Rules.{rules_view}
use Rattle.drafting.proofs.Rows.{shown}
use Rattle.drafting.proofs.tables.add_names.Given as goal

-- what is left to be put comes on top of what was put
abbrev pub invariant-loop-rule : goal.invariant-loop-rule
invariant-loop-rule l =
    (c : Json) → PutsAll (name_rows (rules_view (drop l.rule-index l.rules))) (shown l.table.items) c → PutsAll (name_rows (rules_view l.rules)) (shown l.fn.table.items) c
