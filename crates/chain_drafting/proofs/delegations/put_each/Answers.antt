use Rattle.std.proofs.Common.{◌≡◌, List, [], drop, refl, sym, subst}
use Rattle.std.proofs.lemmas.List.{drop_all}
use Rattle.chain_drafting.specs.Delegations.{PutsEach}
use Rattle.chain_drafting.specs.declared.delegating.Delegated.{Delegated}
use Rattle.chain_drafting.specs.steps.Delegated.{all_view}
use Rattle.drafting.specs.steps.Rows.{rows_view}
use Rattle.drafting.proofs.Results.{drop_at}
use Rattle.chain_drafting.proofs.delegations.put_each.Goals as goal

pub loop-said-preserved : goal.loop-said-preserved
loop-said-preserved c =
    λ d more.
    let m = rows_view c.loop-said.list.items in
    let is = drop_at c.args.delegated.now c.loop-said.said-index c.said-item.result c.loop-said-test.true c.said-item.is in
    c.loop-said.invariant d (subst (λ (r : List Delegated). PutsEach (all_view r) m d) (sym is) (rows_view c.put_in.new.list.items, c.in_ok-put_in.ensures, more))

pub returns : goal.returns
returns c =
    let m = rows_view c.loop-said.list.items in
    let none : drop c.loop-said.said-index c.args.delegated.now ≡ [] = drop_all c.loop-said.said-index c.args.delegated.now c.loop-said-test.false in
    c.loop-said.invariant m (subst (λ (r : List Delegated). PutsEach (all_view r) m m) (sym none) refl)
