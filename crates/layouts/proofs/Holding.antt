-- How the checks of a layout end, one after the other.
use Rattle.std.proofs.Common.{◌≡◌, ℕ, ◌<◌, List, [], ◌∷◌, Result, Ok, Err, Bool, true, false, inl, inr, subst}
use Rattle.std.specs.List.{AllZip}
use Rattle.denials.specs.Numbers as no
use Rattle.denials.specs.Orders.{Denied, Judged, Plain, check, pass, decide, holds, fails, given}
use Rattle.keys_roles.specs.Plain.{RoleRule, Table}
use Rattle.keys_roles.specs.Rules.{Meets}
use Rattle.document_parts.specs.Documents.{Layout, Step}
use Rattle.metadata.specs.File.{Bytes, File, Name}
use Rattle.document_parts.specs.Links.{Link}
use Rattle.layouts.specs.Faults.{IsDeniedBy, IsJudged, fault_number}
use Rattle.layouts.specs.Layouts.{AllAgree, EnoughKeys, IsLinkOf, all, layout_holds, rules_and_product}
use Rattle.layouts.specs.steps.Gathering.{IsAgreed, IsEnough}
use Rattle.layouts.specs.declared.faults.LayoutFault.{LayoutFault}

module _ (keys : Table) (links : List (File Link)) where
  enough_all : (steps : List Step) (chosen : List Link) → AllZip (IsEnough keys links) steps chosen → all (λ s. check no.step_threshold (EnoughKeys keys links s)) steps (Ok tt)
  enough_all [] chosen each = given
  enough_all (s ∷ steps) [] each = absurd each
  enough_all (s ∷ steps) (l ∷ chosen) each = pass (holds each.0.0) (enough_all steps chosen each.1)

  step_links : (steps : List Step) (chosen : List Link) → AllZip (IsEnough keys links) steps chosen → AllZip (IsLinkOf keys links) steps chosen
  step_links [] [] each = tt
  step_links [] (l ∷ chosen) each = absurd each
  step_links (s ∷ steps) [] each = absurd each
  step_links (s ∷ steps) (l ∷ chosen) each = (each.0.1, step_links steps chosen each.1)

module _ (layout : File Layout) (owners : RoleRule) (table : Table) (links : List (File Link)) (step : Name) (product digest : Bytes) (now : ℕ) where
  pub no_owners : (Meets owners table layout.signed layout.entries → ⊥) → layout_holds layout owners table links step product digest now (Err (Denied (Plain no.layout_threshold)))
  no_owners h = decide (fails h)

  module _ (met : Meets owners table layout.signed layout.entries) where
    pub not_live : (now < layout.body.expires → ⊥) → layout_holds layout owners table links step product digest now (Err (Denied (Plain no.layout_expired)))
    not_live h = pass (holds met) (decide (fails h))

    module _ (lives : now < layout.body.expires) where
      pub too_few : (e : LayoutFault) → IsDeniedBy (all (λ s. check no.step_threshold (EnoughKeys layout.body.keys links s)) layout.body.steps) e
          → IsDeniedBy (layout_holds layout owners table links step product digest now) e
      too_few e (inl h) = inl h
      too_few e (inr h) = inr (pass (holds met) (pass (holds lives) (decide h)))

      module _ (chosen : List Link) (each : AllZip (IsEnough layout.body.keys links) layout.body.steps chosen) where
        pub disagree : (agree : Bool) → IsAgreed (all (λ s. check no.links_disagree (AllAgree layout.body.keys links s)) layout.body.steps) agree → agree ≡ false
            → layout_holds layout owners table links step product digest now (Err (Denied (Plain no.links_disagree)))
        disagree agree told is =
            let h = subst (λ (b : Bool). IsAgreed (all (λ s. check no.links_disagree (AllAgree layout.body.keys links s)) layout.body.steps) b) is told in
            pass (holds met) (pass (holds lives) (pass (enough_all layout.body.keys links layout.body.steps chosen each) (decide h)))

        behind : all (λ s. check no.links_disagree (AllAgree layout.body.keys links s)) layout.body.steps (Ok tt) → (r : Judged (Unit {0}))
            → rules_and_product chosen layout.body.steps step product digest r → layout_holds layout owners table links step product digest now r
        behind agree r h =
            pass (holds met) (pass (holds lives) (pass (enough_all layout.body.keys links layout.body.steps chosen each) (pass agree
            record { chosen = chosen; each = step_links layout.body.keys links layout.body.steps chosen each; judged = h })))

        judged : all (λ s. check no.links_disagree (AllAgree layout.body.keys links s)) layout.body.steps (Ok tt) → (r : Result (Unit {0}) LayoutFault)
            → IsJudged (rules_and_product chosen layout.body.steps step product digest) r → IsJudged (layout_holds layout owners table links step product digest now) r
        judged agree (Ok done) h = behind agree (Ok tt) h
        judged agree (Err e) (inl h) = inl h
        judged agree (Err e) (inr h) = inr (behind agree (Err (Denied (Plain (fault_number e)))) h)

        pub judged_by_links : (agree : Bool) → IsAgreed (all (λ s. check no.links_disagree (AllAgree layout.body.keys links s)) layout.body.steps) agree → agree ≡ true → (r : Result (Unit {0}) LayoutFault)
            → IsJudged (rules_and_product chosen layout.body.steps step product digest) r → IsJudged (layout_holds layout owners table links step product digest now) r
        judged_by_links agree told is r h =
            judged (subst (λ (b : Bool). IsAgreed (all (λ s. check no.links_disagree (AllAgree layout.body.keys links s)) layout.body.steps) b) is told) r h
