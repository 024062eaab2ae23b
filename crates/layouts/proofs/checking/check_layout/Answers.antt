use Rattle.std.proofs.Common.{◌≡◌, ◌↔◌, ℕ, List, map, Bool, true, false, IsTrue, inr, sym, subst, ◌∙◌}
use Rattle.std.proofs.lemmas.Result.{err_from_is_err_and}
use Rattle.std.specs.List.{AllZip}
use Rattle.artifact_rules.specs.Views.{links_view}
use Rattle.denials.specs.Numbers as no
use Rattle.denials.specs.Orders.{check}
use Rattle.keys_roles.specs.Plain.{RoleRule, Signature, Table}
use Rattle.keys_roles.specs.Rules.{Meets}
use Rattle.keys_roles.specs.Views.{entries_view, rule_view, table_view}
use Rattle.metadata.specs.FileViews.{layout_file}
use Rattle.document_parts.specs.Views.{step_view}
use Rattle.document_parts.specs.declared.documents.Step.{Step}
use Rattle.layouts.specs.Faults.{IsDeniedBy, IsJudged}
use Rattle.layouts.specs.Layouts.{AllAgree, EnoughKeys, all, rules_and_product}
use Rattle.layouts.specs.Views.{files_view}
use Rattle.layouts.specs.steps.Gathering.{IsAgreed, IsEnough}
use Rattle.layouts.proofs.Holding.{no_owners, not_live, too_few, disagree, judged_by_links}
use Rattle.layouts.proofs.checking.check_layout.Goals as goal

-- the owners' rule is judged on the layout's own bytes and signatures
own : (rule : RoleRule) (table : Table) (b : Bool) (signed here : List ℕ) (entries given : List Signature) → here ≡ signed → given ≡ entries
    → IsTrue b ↔ Meets rule table here given → IsTrue b ↔ Meets rule table signed entries
own rule table b signed here entries given p q h =
    subst (λ (z : List Signature). IsTrue b ↔ Meets rule table signed z) q (subst (λ (z : List ℕ). IsTrue b ↔ Meets rule table z given) p h)

no_true : (b : Bool) → b ≡ false → b ≡ true → ⊥
no_true b e f = let both : false ≡ true = sym e ∙ f in absurd (cc)

pub returns-then-not-meets : goal.returns-then-not-meets
returns-then-not-meets c =
    let met = own (rule_view c.args.owners.0.now) (table_view c.args.owners.1.now) c.meets.result (layout_file c.args.layout.now).signed c.signed.result.now (layout_file c.args.layout.now).entries (entries_view c.signatures.result.now)
    c.signed.ensures c.signatures.ensures.value c.meets.ensures in
    inr (no_owners (layout_file c.args.layout.now) (rule_view c.args.owners.0.now) (table_view c.args.owners.1.now) (files_view c.args.links.now) c.args.step.now c.args.product.now c.args.digest.now.0 c.args.now
    (λ h. no_true c.meets.result c.if-not-meets.true (met.1 h)))

pub returns-then-not-live : goal.returns-then-not-live
returns-then-not-live c =
    let met = own (rule_view c.args.owners.0.now) (table_view c.args.owners.1.now) c.meets.result (layout_file c.args.layout.now).signed c.signed.result.now (layout_file c.args.layout.now).entries (entries_view c.signatures.result.now)
    c.signed.ensures c.signatures.ensures.value c.meets.ensures in
    inr (not_live (layout_file c.args.layout.now) (rule_view c.args.owners.0.now) (table_view c.args.owners.1.now) (files_view c.args.links.now) c.args.step.now c.args.product.now c.args.digest.now.0 c.args.now
    (met.0 c.if-not-meets.false) (λ h. no_true c.live.result c.if-not-live.true (c.live.ensures.1 h)))

pub returns-in_err-found : goal.returns-in_err-found
returns-in_err-found c =
    let p = err_from_is_err_and c.from_residual.result c.from_residual.ensures.1 in
    let met = own (rule_view c.args.owners.0.now) (table_view c.args.owners.1.now) c.meets.result (layout_file c.args.layout.now).signed c.signed.result.now (layout_file c.args.layout.now).entries (entries_view c.signatures.result.now)
    c.signed.ensures c.signatures.ensures.value c.meets.ensures in
    let keys = table_view c.args.layout.now.body.keys in
    let files = files_view c.args.links.now in
    rw (p.1, p.2) (too_few (layout_file c.args.layout.now) (rule_view c.args.owners.0.now) (table_view c.args.owners.1.now) files c.args.step.now c.args.product.now c.args.digest.now.0 c.args.now
    (met.0 c.if-not-meets.false) (c.live.ensures.0 c.if-not-live.false) _
    (subst (λ (ss : List Step). IsDeniedBy (all (λ s. check no.step_threshold (EnoughKeys keys files s)) (map step_view ss)) c.in_err-found.field-0.0) c.deref.ensures.value c.in_err-found.ensures.err))

pub returns-then-not-found : goal.returns-then-not-found
returns-then-not-found c =
    let met = own (rule_view c.args.owners.0.now) (table_view c.args.owners.1.now) c.meets.result (layout_file c.args.layout.now).signed c.signed.result.now (layout_file c.args.layout.now).entries (entries_view c.signatures.result.now)
    c.signed.ensures c.signatures.ensures.value c.meets.ensures in
    let keys = table_view c.args.layout.now.body.keys in
    let files = files_view c.args.links.now in
    let links = subst (λ (ss : List Step). AllZip (IsEnough keys files) (map step_view ss) (links_view c.in_ok-found.found.links.items)) c.deref.ensures.value c.in_ok-found.ensures.links in
    let agree = subst (λ (ss : List Step). IsAgreed (all (λ s. check no.links_disagree (AllAgree keys files s)) (map step_view ss)) c.in_ok-found.found.agree) c.deref.ensures.value c.in_ok-found.ensures.agree in
    inr (disagree (layout_file c.args.layout.now) (rule_view c.args.owners.0.now) (table_view c.args.owners.1.now) files c.args.step.now c.args.product.now c.args.digest.now.0 c.args.now
    (met.0 c.if-not-meets.false) (c.live.ensures.0 c.if-not-live.false) (links_view c.in_ok-found.found.links.items) links c.in_ok-found.found.agree agree c.if-not-found.true)

pub returns : goal.returns
returns c =
    let met = own (rule_view c.args.owners.0.now) (table_view c.args.owners.1.now) c.meets.result (layout_file c.args.layout.now).signed c.signed.result.now (layout_file c.args.layout.now).entries (entries_view c.signatures.result.now)
    c.signed.ensures c.signatures.ensures.value c.meets.ensures in
    let keys = table_view c.args.layout.now.body.keys in
    let files = files_view c.args.links.now in
    let links = subst (λ (ss : List Step). AllZip (IsEnough keys files) (map step_view ss) (links_view c.in_ok-found.found.links.items)) c.deref.ensures.value c.in_ok-found.ensures.links in
    let agree = subst (λ (ss : List Step). IsAgreed (all (λ s. check no.links_disagree (AllAgree keys files s)) (map step_view ss)) c.in_ok-found.found.agree) c.deref.ensures.value c.in_ok-found.ensures.agree in
    let ruled = subst (λ ls. IsJudged (rules_and_product (links_view ls) (map step_view c.args.layout.now.body.steps.items) c.args.step.now c.args.product.now c.args.digest.now.0) c.check_chosen.result) c.deref-2.ensures.value c.check_chosen.ensures in
    judged_by_links (layout_file c.args.layout.now) (rule_view c.args.owners.0.now) (table_view c.args.owners.1.now) files c.args.step.now c.args.product.now c.args.digest.now.0 c.args.now
    (met.0 c.if-not-meets.false) (c.live.ensures.0 c.if-not-live.false) (links_view c.in_ok-found.found.links.items) links c.in_ok-found.found.agree agree c.if-not-found.false c.check_chosen.result ruled
