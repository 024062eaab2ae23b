use Rattle.std.proofs.Common.{refl, inr, List, ℕ, sym, ap, subst, ◌∙◌}
use Rattle.canonical_json.specs.View.{view}
use Rattle.document_parts.specs.Rules.{AreWordsOf}
use Rattle.document_parts.specs.steps.Tables.{texts_view}
use Rattle.layout_files.proofs.RuleWords.{texts-once}
use Rattle.layout_files.proofs.rule_lists.rule_of.Goals as goal

pub returns-in_default-clause-err : goal.returns-in_default-clause-err
returns-in_default-clause-err c = inr (
  refl,
  λ r.
      let none = rw c.in_default.is at c.in_ok-rule.ensures in
      let same = texts-once (view c.args.value.now) r.1.0 (texts_view c.in_ok-words.words.items) r.1.1 c.in_ok-words.ensures.ok in
      none r.0 (subst (λ (ws : List (List ℕ)). AreWordsOf ws r.0) (same ∙ ap texts_view (sym c.deref.ensures.value)) r.1.2),
)
