-- Which fault stands for which.
use Rattle.std.specs.Prelude.{List}
use Rattle.document_parts.specs.Links.{Link}
use Rattle.document_parts.specs.Rules.{Side, ArtifactRule}
use Rattle.artifact_rules.specs.Rules.{RulesForbid, RulesRequire}
use Rattle.artifact_rules.specs.declared.faults.RuleFault.{RuleFault}
use Rattle.artifact_rules.specs.declared.faults.RuleFault.TheVariants.{Disallowed, Required, OutOfMemory}

abbrev pub IsRuleFault : Side → Link → List Link → List ArtifactRule → RuleFault → Type 0
IsRuleFault side link links rules (Disallowed j path) = RulesForbid side link links rules j path.now
IsRuleFault side link links rules (Required j path) = RulesRequire side link links rules j path.now
IsRuleFault side link links rules OutOfMemory = Unit {0}
