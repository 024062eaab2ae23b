use Rattle.std.proofs.Common.{◌≡◌, ◌+◌, List, [], drop, sym, subst}
use Rattle.std.proofs.lemmas.List.{drop_all}
use Rattle.drafting.specs.Members.{PutsAll}
use Rattle.chain_drafting.specs.Delegations.{name_rows}
use Rattle.chain_drafting.specs.declared.delegating.Delegated.{Delegated}
use Rattle.chain_drafting.specs.steps.Delegated.{all_view}
use Rattle.drafting.proofs.Lists.{puts_none}
use Rattle.drafting.proofs.Results.{drop_at}
use Rattle.drafting.proofs.Rows.{shown}
use Rattle.chain_drafting.proofs.delegating.add_names.Goals as goal

pub loop-said-preserved : goal.loop-said-preserved
loop-said-preserved c =
    λ d more.
    let m = shown c.loop-said.table.items in
    let i = c.loop-said.said-index in
    let is = drop_at c.args.delegated.now i c.said-item.result c.loop-said-test.true c.said-item.is in
    c.loop-said.invariant d (subst (λ (r : List Delegated). PutsAll (name_rows (all_view r)) m d) (sym is)
    (c.in_ok-add_rule_names.ensures (name_rows (all_view (drop (i + 1) c.args.delegated.now))) d more))

pub returns : goal.returns
returns c =
    let m = shown c.loop-said.table.items in
    let none : drop c.loop-said.said-index c.args.delegated.now ≡ [] = drop_all c.loop-said.said-index c.args.delegated.now c.loop-said-test.false in
    c.loop-said.invariant m (subst (λ (r : List Delegated). PutsAll (name_rows (all_view r)) m m) (sym none) (puts_none m))
