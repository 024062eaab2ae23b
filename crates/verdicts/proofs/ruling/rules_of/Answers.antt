use Rattle.std.proofs.Common.{◌≡◌, ◌∙◌, ◌∷◌, ◌++◌, [], List, length, map, String, string_bytes, ap, subst, sym}
use Rattle.std.specs.declared.alloc.Global.{Global}
use Rattle.std.proofs.lemmas.List.{length-map, map-append}
use Rattle.document_parts.specs.Rules.{ArtifactRule, AreWordsOf}
use Rattle.document_parts.specs.RuleViews.{rule_view}
use Rattle.verdicts.specs.RuleCase.{AreRules, lists_view}
use Rattle.verdicts.proofs.Ruled.{no_rule, one_more, parted_later}
use Rattle.verdicts.proofs.ruling.rules_of.Goals as goal

pub returns-in_default-2 : goal.returns-in_default-2
returns-in_default-2 c =
    let words = map string_bytes c.in-Some.words.now.items in
    let none = rw c.in_default-2.is at c.in_ok-rule.ensures in
    let counted : c.len.result ≡ length (map rule_view c.lists.rules.items) = c.len.ensures ∙ (c.lists.rules.ok.0 ∙ sym (length-map c.lists.rules.items rule_view)) in
    no_rule (lists_view c.args.lists.now) c.lists.invariant.before (lists_view c.lists.rest.now) (lists_view c.in-Some.later.now) words c.lists.invariant.parted
    (ap lists_view c.in-Some.ensures.cases.0) (map rule_view c.lists.rules.items) c.len.result c.lists.invariant.read counted
    (subst (λ (ts : List (String Global)). (r : ArtifactRule) → AreWordsOf (map string_bytes ts) r → ⊥) c.deref.ensures.value none)

pub lists-preserved : goal.lists-preserved
lists-preserved c =
    let words = map string_bytes c.in-Some.words.now.items in
    let some = rw c.in-Some-2.is at c.in_ok-rule.ensures in
    let is = subst (λ (ts : List (String Global)). AreWordsOf (map string_bytes ts) (rule_view c.in-Some-2.rule)) c.deref.ensures.value some in
    let items = ap (map rule_view) c.in_ok-push.ensures.items ∙ map-append rule_view c.lists.rules.items (c.in-Some-2.rule ∷ []) in
    record {
      before = c.lists.invariant.before ++ words ∷ [];
      parted = parted_later (lists_view c.args.lists.now) c.lists.invariant.before (lists_view c.lists.rest.now) (lists_view c.in-Some.later.now) words c.lists.invariant.parted
          (ap lists_view c.in-Some.ensures.cases.0);
      read = subst (λ (rs : List ArtifactRule). AreRules (c.lists.invariant.before ++ words ∷ []) rs) (sym items)
          (one_more c.lists.invariant.before (map rule_view c.lists.rules.items) words (rule_view c.in-Some-2.rule) c.lists.invariant.read is);
    }
