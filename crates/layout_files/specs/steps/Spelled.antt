-- Steps as a file spells them, whose ids are texts of any form, and the artifacts of a link.
use Rattle.std.specs.Prelude.{ℕ, List, map}
use Rattle.path_patterns.specs.declared.Digest.{Digest}
use Rattle.document_parts.specs.Documents as documents
use Rattle.document_parts.specs.Links.{Artifacts}
use Rattle.document_parts.specs.RuleViews.{rule_view as rule_words}
use Rattle.document_parts.specs.steps.Tables.{spelled_rule}
use Rattle.layout_files.specs.declared.steps.SpelledStep.{SpelledStep}

abbrev pub spelled_step : SpelledStep → documents.Step
spelled_step s = record { name = s.name; rule = spelled_rule s.rule; materials = map rule_words s.materials.items; products = map rule_words s.products.items }

abbrev pub spelled_steps : List SpelledStep → List documents.Step
spelled_steps ss = map spelled_step ss

abbrev pub step_names : List documents.Step → List (List ℕ)
step_names ss = map (λ s. s.name) ss

abbrev pub artifact_view : List ℕ × Digest → List ℕ × List ℕ
artifact_view r = (r.0, r.1.0)

abbrev pub artifact_views : List (List ℕ × Digest) → Artifacts
artifact_views rows = map artifact_view rows
