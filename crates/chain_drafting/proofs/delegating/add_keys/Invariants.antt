use Rattle.std.proofs.Common.{drop}
use Rattle.canonical_json.specs.Json.{Json}
use Rattle.drafting.specs.Members.{PutsAll}
use Rattle.chain_drafting.specs.Delegations.{key_rows}
use Rattle.chain_drafting.specs.steps.Delegated.{all_view}
use Rattle.drafting.proofs.Rows.{shown}
use Rattle.chain_drafting.proofs.delegating.add_keys.Given as goal

-- what is left to be put comes on top of what was put
abbrev pub invariant-loop-said : goal.invariant-loop-said
invariant-loop-said l =
    (c : Json) → PutsAll (key_rows (all_view (drop l.said-index l.delegated))) (shown l.table.items) c → PutsAll (key_rows (all_view l.delegated)) (shown l.fn.table.items) c
