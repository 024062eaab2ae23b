use Rattle.std.proofs.Common.{◌≡◌, ◌+◌, List, [], drop, sym, subst}
use Rattle.std.proofs.lemmas.List.{drop_all}
use Rattle.drafting.specs.Members.{PutsAll}
use Rattle.drafting.specs.Roots.{key_rows}
use Rattle.drafting.specs.declared.faults.TopRole.{TopRole}
use Rattle.drafting.specs.declared.rules.Rule.{Rule}
use Rattle.drafting.specs.steps.Rules.{rules_view}
use Rattle.drafting.proofs.Lists.{puts_none}
use Rattle.drafting.proofs.Results.{drop_at}
use Rattle.drafting.proofs.Rows.{shown}
use Rattle.drafting.proofs.tables.add_keys.Goals as goal

abbrev Said : Type 0
Said = TopRole × Rule

pub loop-rule-preserved : goal.loop-rule-preserved
loop-rule-preserved c =
    λ d more.
    let m = shown c.loop-rule.table.items in
    let i = c.loop-rule.rule-index in
    let is = drop_at c.args.rules.now i c.rule-item.result c.loop-rule-test.true c.rule-item.is in
    c.loop-rule.invariant d (subst (λ (r : List Said). PutsAll (key_rows (rules_view r)) m d) (sym is)
    (c.in_ok-add_rule_keys.ensures (key_rows (rules_view (drop (i + 1) c.args.rules.now))) d more))

pub returns : goal.returns
returns c =
    let m = shown c.loop-rule.table.items in
    let none : drop c.loop-rule.rule-index c.args.rules.now ≡ [] = drop_all c.loop-rule.rule-index c.args.rules.now c.loop-rule-test.false in
    c.loop-rule.invariant m (subst (λ (r : List Said). PutsAll (key_rows (rules_view r)) m m) (sym none) (puts_none m))
