use Rattle.std.proofs.Common.{◌≡◌, ◌+◌, ℕ, List, [], drop, sym, subst}
use Rattle.std.proofs.lemmas.List.{drop_all}
use Rattle.canonical_json.specs.Json.{Json}
use Rattle.canonical_json.specs.View.{view}
use Rattle.drafting.specs.Members.{Puts, PutsAll}
use Rattle.drafting.specs.Roots.{role_name, rule_object, rule_rows}
use Rattle.drafting.specs.declared.faults.TopRole.{TopRole}
use Rattle.drafting.specs.declared.rules.Rule.{Rule}
use Rattle.drafting.specs.steps.Rules.{rule_view, rules_view}
use Rattle.drafting.proofs.Lists.{puts_more, puts_none}
use Rattle.drafting.proofs.Results.{drop_at}
use Rattle.drafting.proofs.Rows.{shown}
use Rattle.drafting.proofs.roots.put_roles.Goals as goal

abbrev Said : Type 0
Said = TopRole × Rule

pub loop-rule-preserved : goal.loop-rule-preserved
loop-rule-preserved c =
    λ d more.
    let m = shown c.loop-rule.roles.items in
    let a = shown c.put.new.members.items in
    let i = c.loop-rule.rule-index in
    let rule = c.rule-item.result in
    let is = drop_at c.args.rules.now i rule c.loop-rule-test.true c.rule-item.is in
    let put = subst (λ (x : Json). Puts (role_name rule.0) x m a) c.in_ok-value.ensures (subst (λ (n : List ℕ). Puts n (view c.in_ok-value.value) m a) c.name.ensures c.in_ok-put.ensures.puts) in
    c.loop-rule.invariant d (subst (λ (r : List Said). PutsAll (rule_rows (rules_view r)) m d) (sym is)
    (puts_more (role_name rule.0, rule_object (rule_view rule.1)) (rule_rows (rules_view (drop (i + 1) c.args.rules.now))) m a d put more))

pub returns : goal.returns
returns c =
    let m = shown c.loop-rule.roles.items in
    let none : drop c.loop-rule.rule-index c.args.rules.now ≡ [] = drop_all c.loop-rule.rule-index c.args.rules.now c.loop-rule-test.false in
    c.loop-rule.invariant m (subst (λ (r : List Said). PutsAll (rule_rows (rules_view r)) m m) (sym none) (puts_none m))
