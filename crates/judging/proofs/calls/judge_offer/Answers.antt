use Rattle.std.proofs.Common.{◌≡◌, Ok, sym, ap, ◌∙◌, subst}
use Rattle.std.proofs.lemmas.Result.{err_from_is_err_and}
use Rattle.trusted_state.specs.Answers.{changes, unchanged}
use Rattle.trust_rules.specs.Offers as commands
use Rattle.trust_rules.specs.Effects as spec
use Rattle.trust_rules.specs.Effects.{brought}
use Rattle.trust_rules.specs.State.{State, IsState}
use Rattle.trusted_state.specs.PartViews.{changes_view, effects_view, trusted_view}
use Rattle.trusted_state.specs.Views.{offer_view, draft_view}
use Rattle.judging.proofs.ChangesMake.{OfTrustAlone, offered, offered_same, offered_refused, on_whole, trusted_alone}
use Rattle.trust_rules.proofs.HeldStates.{same_trusted_held, bare}
use Rattle.judging.proofs.calls.judge_offer.Goals as goal

pub returns-clause-answers : goal.returns-clause-answers
returns-clause-answers c S valid is =
    let view : trusted_view c.trusted.result.now ≡ S.trusted = same_trusted_held S is c.trusted.ensures.view in
    let E : spec.Effects = effects_view c.of.result in
    let begun : draft_view c.new-draft.result ≡ S.trusted = c.new-draft.ensures.view ∙ view in
    let base : trusted_view c.offer_one.new.draft.base.now ≡ S.trusted =
    ap (λ t. trusted_view t) (c.offer_one.ensures.base ∙ c.new-draft.ensures.base) ∙ view in
    let same : E ≡ changes_view c.offer_one.new.draft.changes = c.of.ensures ∙ ap (λ d. changes_view d) c.into_changes.ensures in
    let bare : OfTrustAlone E = (ap (λ (F : spec.Effects). F.blobs) same, ap (λ (F : spec.Effects). F.gone) same) in
    let taken : commands.offer S.trusted (offer_view c.args.offer.now) c.args.bytes.now c.args.now (Ok (brought S.trusted E)) =
    offered S (λ T. commands.offer T (offer_view c.args.offer.now) c.args.bytes.now c.args.now) (draft_view c.new-draft.result) (trusted_view c.offer_one.new.draft.base.now) E
    (changes_view c.offer_one.new.draft.changes) _ begun base (sym same) c.if-not-branch.false c.in_ok-offer_one.ensures.ends in
    changes (on_whole S E (commands.offer S.trusted (offer_view c.args.offer.now) c.args.bytes.now c.args.now) bare taken)
    (subst (λ (U : State). IsState U) (sym (trusted_alone S E bare))
    (c.stays_valid.ensures.trusted S (brought S.trusted E) valid
    (c.stays_valid.ensures.offers S.trusted (brought S.trusted E) (offer_view c.args.offer.now) c.args.bytes.now c.args.now valid.trusted taken)
    (λ there. c.stays_valid.ensures.roots S.trusted (brought S.trusted E) (offer_view c.args.offer.now) c.args.bytes.now c.args.now valid.trusted taken)))

pub returns-then-not-branch-clause-answers : goal.returns-then-not-branch-clause-answers
returns-then-not-branch-clause-answers c S valid is =
    let view : trusted_view c.trusted.result.now ≡ S.trusted = same_trusted_held S is c.trusted.ensures.view in
    let begun : draft_view c.new-draft.result ≡ S.trusted = c.new-draft.ensures.view ∙ view in
    unchanged (offered_same S (λ T. commands.offer T (offer_view c.args.offer.now) c.args.bytes.now c.args.now) (draft_view c.new-draft.result) _ _ begun
    c.if-not-branch.true c.in_ok-offer_one.ensures.ends)

pub returns-in_err-offer_one-clause-answers : goal.returns-in_err-offer_one-clause-answers
returns-in_err-offer_one-clause-answers c S valid is =
    let view : trusted_view c.trusted.result.now ≡ S.trusted = same_trusted_held S is c.trusted.ensures.view in
    let begun : draft_view c.new-draft.result ≡ S.trusted = c.new-draft.ensures.view ∙ view in
    let p = err_from_is_err_and c.from_residual.result c.from_residual.ensures.1 in
    rw (p.1, p.2) (offered_refused S (λ T. commands.offer T (offer_view c.args.offer.now) c.args.bytes.now c.args.now) (draft_view c.new-draft.result) _ _ begun c.in_err-offer_one.ensures.ends)

pub returns-clause-trusted : goal.returns-clause-trusted
returns-clause-trusted c =
    let S : State = bare c.args.held.now.held.trusted in
    let view : trusted_view c.trusted.result.now ≡ S.trusted = c.trusted.ensures.view in
    let E : spec.Effects = effects_view c.of.result in
    let begun : draft_view c.new-draft.result ≡ S.trusted = c.new-draft.ensures.view ∙ view in
    let base : trusted_view c.offer_one.new.draft.base.now ≡ S.trusted =
    ap (λ t. trusted_view t) (c.offer_one.ensures.base ∙ c.new-draft.ensures.base) ∙ view in
    let same : E ≡ changes_view c.offer_one.new.draft.changes = c.of.ensures ∙ ap (λ d. changes_view d) c.into_changes.ensures in (
      c.stays_valid.ensures.offers S.trusted (brought S.trusted E) (offer_view c.args.offer.now) c.args.bytes.now c.args.now c.trusted.ensures.valid.trusted
          (offered S (λ T. commands.offer T (offer_view c.args.offer.now) c.args.bytes.now c.args.now) (draft_view c.new-draft.result) (trusted_view c.offer_one.new.draft.base.now) E
          (changes_view c.offer_one.new.draft.changes) _ begun base (sym same) c.if-not-branch.false c.in_ok-offer_one.ensures.ends),
      ap (λ (F : spec.Effects). F.gone) same,
    )
