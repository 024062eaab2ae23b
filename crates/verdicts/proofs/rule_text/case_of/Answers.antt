use Rattle.std.proofs.Common.{◌≡◌, ◌∙◌, ℕ, List, Some, slice_get, sym, subst, map, inr}
use Rattle.std.proofs.lemmas.Result.{err_from_is_err_and}
use Rattle.canonical_json.specs.Json.{text}
use Rattle.canonical_json.specs.View.{view}
use Rattle.document_parts.specs.Links.{Link}
use Rattle.document_parts.specs.Members.{IsArray, IsObject, IsText}
use Rattle.document_parts.specs.RuleViews.{link_view}
use Rattle.document_parts.specs.declared.links.Link as code
use Rattle.verdicts.specs.RuleCase.{IsLinkOf, IsRuleCase}
use Rattle.verdicts.proofs.Parts.{by_part}
use Rattle.verdicts.proofs.StepNames.{same_place}
use Rattle.verdicts.proofs.rule_text.case_of.Goals as goal

pub returns-in_err-links-clause-fault : goal.returns-in_err-links-clause-fault
returns-in_err-links-clause-fault c =
    let p = err_from_is_err_and c.from_residual.result c.from_residual.ensures.1 in
    rw (p.1, p.2) (by_part (IsRuleCase (view c.args.value.now)) (IsObject IsLinkOf (view c.in-Some.links.now)) _ c.in_err-links.ensures.fault (λ k is.
    let both = sym is.members ∙ c.in-Some.ensures in
    let same : is.links ≡ view c.in-Some.links.now = cc in
    (k.links, subst (λ v. IsObject IsLinkOf v k.links) same is.linked)))

pub returns-in_default-place_of-clause-fault : goal.returns-in_default-place_of-clause-fault
returns-in_default-place_of-clause-fault c = inr (λ k is.
    let both = sym is.members ∙ c.in-Some.ensures in
    let same : is.links ≡ view c.in-Some.links.now = cc in
    let step : text is.link.name ≡ view c.in-Some.step.now = cc in
    let name : c.in-Some-text_of.step.now ≡ is.link.name = let e = step ∙ c.in-Some-text_of.ensures in cc in
    let mine = map link_view c.in_ok-links.links.items in
    let there = same_place (view c.in-Some.links.now) k.links mine k.own is.link (subst (λ v. IsObject IsLinkOf v k.links) same is.linked) c.in_ok-links.ensures.ok is.own in
    (subst (λ (ls : List code.Link). (i : ℕ) (l : Link) → slice_get (map link_view ls) i ≡ Some l → c.in-Some-text_of.step.now ≡ l.name → ⊥) c.deref.ensures.value c.in_default-place_of.ensures.place)
    k.own there.0 there.1 (name ∙ there.2))

pub returns-in_err-rules-clause-fault : goal.returns-in_err-rules-clause-fault
returns-in_err-rules-clause-fault c =
    let p = err_from_is_err_and c.from_residual-in_err-rules.result c.from_residual-in_err-rules.ensures.1 in
    rw (p.1, p.2) (by_part (IsRuleCase (view c.args.value.now)) (IsArray (IsArray IsText) (view c.in-Some.rules.now)) _ c.in_err-rules.ensures.fault (λ k is.
    let both = sym is.members ∙ c.in-Some.ensures in
    let same : is.rules ≡ view c.in-Some.rules.now = cc in
    (k.rules, subst (λ v. IsArray (IsArray IsText) v k.rules) same is.listed)))
