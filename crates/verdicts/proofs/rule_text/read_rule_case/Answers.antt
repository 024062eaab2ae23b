use Rattle.std.proofs.Common.{subst}
use Rattle.canonical_json.specs.View.{view}
use Rattle.verdicts.specs.RuleCase.{IsRuleCase, IsRuleText}
use Rattle.verdicts.proofs.Parts.{by_part_of}
use Rattle.verdicts.proofs.rule_text.read_rule_case.Goals as goal

pub returns-in-Ok-clause-fault : goal.returns-in-Ok-clause-fault
returns-in-Ok-clause-fault c =
    by_part_of (IsRuleText c.args.bytes.now) (IsRuleCase (view c.in-Ok.value)) c.case_of.result c.case_of.ensures.fault (λ k is.
    (k, subst (λ v. IsRuleCase v k) (c.one_spelling.ensures.one_value is.0 (view c.in-Ok.value) c.args.bytes.now is.1 c.in-Ok.ensures.value) is.2))
