use Rattle.std.proofs.Common.{drop}
use Rattle.chain_drafting.specs.Delegations.{PutsEach}
use Rattle.drafting.specs.Members.{Rows}
use Rattle.chain_drafting.specs.steps.Delegated.{all_view}
use Rattle.drafting.specs.steps.Rows.{rows_view}
use Rattle.chain_drafting.proofs.delegations.put_each.Given as goal

-- what is left to be put comes on top of what was put
abbrev pub invariant-loop-said : goal.invariant-loop-said
invariant-loop-said l =
    (c : Rows) → PutsEach (all_view (drop l.said-index l.delegated)) (rows_view l.list.items) c → PutsEach (all_view l.delegated) (rows_view l.fn.list.items) c
