-- What the code's descriptions stand for.
use Rattle.std.specs.Prelude.{ℕ, List, map, Option, option_map, String, Vec, string_bytes}
use Rattle.std.specs.Borrow.{Bor}
use Rattle.std.specs.declared.alloc.Global.{Global}
use Rattle.drafting.specs.steps.Rows.{texts_view}
use Rattle.drafting.specs.steps.Rules.{rule_view}
use Rattle.chain_drafting.specs.Layouts.{RuleWords, Step}
use Rattle.chain_drafting.specs.References.{Said}
use Rattle.chain_drafting.specs.declared.layouts.StepDraft.{StepDraft}
use Rattle.chain_drafting.specs.declared.references.Reference.{Reference}
use Rattle.chain_drafting.specs.declared.links.Artifact.{Artifact}

abbrev pub text_of : Option (Bor (List ℕ)) → Option (List ℕ)
text_of said = option_map (λ t. t.now) said

abbrev pub words_view : List (Vec (String Global) Global) → RuleWords
words_view rules = map (λ w. texts_view w.items) rules

abbrev pub given_view : Option (Bor (List (Vec (String Global) Global))) → Option RuleWords
given_view given = option_map (λ r. words_view r.now) given

abbrev pub step_view : StepDraft → Step
step_view s = record {
  name = s.name.now;
  rule = rule_view s.rule;
  products = texts_view s.products.now;
  material_rules = given_view s.material_rules;
  product_rules = given_view s.product_rules;
}

abbrev pub steps_view : List StepDraft → List Step
steps_view steps = map step_view steps

abbrev pub reference_view : Reference → Said
reference_view r = record {
  owners = rule_view r.owners;
  path = r.path.now;
  links = texts_view r.links.now;
  product = r.product.now;
  step = r.step.now;
}

abbrev pub artifacts_view : List Artifact → List (List ℕ × List ℕ)
artifacts_view artifacts = map (λ a. (string_bytes a.path, a.digest.0)) artifacts
