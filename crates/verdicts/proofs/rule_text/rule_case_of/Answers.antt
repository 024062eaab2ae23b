use Rattle.std.proofs.Common.{ℕ, List, IfErr, subst}
use Rattle.verdicts.specs.RuleCase.{IsRuleText}
use Rattle.verdicts.proofs.Parts.{IsNone, only_text}
use Rattle.verdicts.proofs.rule_text.rule_case_of.Goals as goal

pub returns-clause-fault : goal.returns-clause-fault
returns-clause-fault c =
    let found = c.in_ok-bytes.ensures.bytes in
    let none = subst (λ (bs : List ℕ). IfErr c.read_rule_case.result (IsNone (IsRuleText bs))) c.deref.ensures.value c.read_rule_case.ensures.fault in
    only_text c.args.word.now c.in_ok-bytes.bytes.items found.0 found.1 c.read_rule_case.result none
