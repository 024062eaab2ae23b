use Rattle.std.proofs.Common.{◌≡◌, Ok, Err, length, sym, ap, ◌∙◌, subst}
use Rattle.std.proofs.lemmas.Result.{err_from_is_err_and}
use Rattle.denials.specs.Orders.{Plain}
use Rattle.denials.specs.Numbers as no
use Rattle.trusted_state.specs.Answers.{done, denied}
use Rattle.trusted_state.specs.steps.Judging.{IsDeniedAt}
use Rattle.trust_rules.specs.Offers as commands
use Rattle.trust_rules.specs.Offers.{coherent, incoherent}
use Rattle.trust_rules.specs.Effects as spec
use Rattle.trust_rules.specs.Effects.{brought}
use Rattle.trust_rules.specs.State.{State, Trusted, IsState}
use Rattle.trusted_state.specs.PartViews.{changes_view, effects_view, trusted_view}
use Rattle.trusted_state.specs.Views.{documents_view, draft_view}
use Rattle.judging.proofs.BatchOneByOne.{so_far, batch_refused}
use Rattle.trust_rules.proofs.OrderLines.{yes, no as not_so}
use Rattle.judging.proofs.ChangesMake.{OfTrustAlone, trusted_alone}
use Rattle.trust_rules.proofs.HeldStates.{same_trusted_held, bare}
use Rattle.judging.proofs.batches.judge_batch.Goals as goal

pub returns-in_err-progress-clause-answers : goal.returns-in_err-progress-clause-answers
returns-in_err-progress-clause-answers c S valid is =
    let view : trusted_view c.trusted.result.now ≡ S.trusted = same_trusted_held S is c.trusted.ensures.view in
    let begun : draft_view c.new-draft.result ≡ S.trusted = c.new-draft.ensures.view ∙ view in
    let p = err_from_is_err_and c.from_residual.result c.from_residual.ensures.1 in
    rw (p.1, p.2) (batch_refused S _ (subst (λ (T : Trusted). IsDeniedAt (commands.batch T (documents_view c.args.documents.now) c.args.now) c.in_err-progress.field-0.0) begun c.in_err-progress.ensures.err))

pub returns-then-not-is_coherent-clause-answers : goal.returns-then-not-is_coherent-clause-answers
returns-then-not-is_coherent-clause-answers c S valid is =
    let view : trusted_view c.trusted.result.now ≡ S.trusted = same_trusted_held S is c.trusted.ensures.view in
    let begun : draft_view c.new-draft.result ≡ S.trusted = c.new-draft.ensures.view ∙ view in
    denied (subst (λ (T : Trusted). commands.batch T (documents_view c.args.documents.now) c.args.now (Err (Plain no.incoherent, length c.args.documents.now))) begun
    (c.in_ok-progress.ensures.ok _ (incoherent (not_so c.if-not-is_coherent.ensures))))

pub returns-clause-answers : goal.returns-clause-answers
returns-clause-answers c S valid is =
    let view : trusted_view c.trusted.result.now ≡ S.trusted = same_trusted_held S is c.trusted.ensures.view in
    let E : spec.Effects = effects_view c.of.result in
    let begun : draft_view c.new-draft.result ≡ S.trusted = c.new-draft.ensures.view ∙ view in
    let base : trusted_view c.in_ok-progress.progress.draft.base.now ≡ S.trusted =
    ap (λ t. trusted_view t) (c.in_ok-progress.ensures.base ∙ c.new-draft.ensures.base) ∙ view in
    let same : E ≡ changes_view c.in_ok-progress.progress.draft.changes = c.of.ensures ∙ ap (λ d. changes_view d) c.into_changes.ensures in
    let bare : OfTrustAlone E = (ap (λ (F : spec.Effects). F.blobs) same, ap (λ (F : spec.Effects). F.gone) same) in
    let left : draft_view c.in_ok-progress.progress.draft ≡ brought S.trusted E =
    ap (λ (T : Trusted). brought T (changes_view c.in_ok-progress.progress.draft.changes)) base ∙ ap (λ (F : spec.Effects). brought S.trusted F) (sym same) in
    let made : commands.batch S.trusted (documents_view c.args.documents.now) c.args.now (Ok (so_far (brought S.trusted E) c.in_ok-progress.progress.accepted c.in_ok-progress.progress.same)) =
    subst (λ (T : Trusted). commands.batch S.trusted (documents_view c.args.documents.now) c.args.now (Ok (so_far T c.in_ok-progress.progress.accepted c.in_ok-progress.progress.same))) left
    (subst (λ (T : Trusted). commands.batch T (documents_view c.args.documents.now) c.args.now (Ok (so_far (draft_view c.in_ok-progress.progress.draft) c.in_ok-progress.progress.accepted c.in_ok-progress.progress.same))) begun
    (c.in_ok-progress.ensures.ok _ (coherent (yes c.if-not-is_coherent.ensures)))) in
    done made (trusted_alone S E bare)
    (subst (λ (U : State). IsState U) (sym (trusted_alone S E bare))
    (c.stays_valid.ensures.trusted S (brought S.trusted E) valid
    (c.stays_valid.ensures.batches S.trusted (documents_view c.args.documents.now) c.args.now _ valid.trusted made)
    (λ there. c.stays_valid.ensures.batch_roots S.trusted (documents_view c.args.documents.now) c.args.now _ valid.trusted made there)))

pub returns-clause-trusted : goal.returns-clause-trusted
returns-clause-trusted c =
    let S : State = bare c.args.held.now.held.trusted in
    let view : trusted_view c.trusted.result.now ≡ S.trusted = c.trusted.ensures.view in
    let E : spec.Effects = effects_view c.of.result in
    let begun : draft_view c.new-draft.result ≡ S.trusted = c.new-draft.ensures.view ∙ view in
    let base : trusted_view c.in_ok-progress.progress.draft.base.now ≡ S.trusted =
    ap (λ t. trusted_view t) (c.in_ok-progress.ensures.base ∙ c.new-draft.ensures.base) ∙ view in
    let same : E ≡ changes_view c.in_ok-progress.progress.draft.changes = c.of.ensures ∙ ap (λ d. changes_view d) c.into_changes.ensures in
    let bare : OfTrustAlone E = (ap (λ (F : spec.Effects). F.blobs) same, ap (λ (F : spec.Effects). F.gone) same) in
    let left : draft_view c.in_ok-progress.progress.draft ≡ brought S.trusted E =
    ap (λ (T : Trusted). brought T (changes_view c.in_ok-progress.progress.draft.changes)) base ∙ ap (λ (F : spec.Effects). brought S.trusted F) (sym same) in
    let made : commands.batch S.trusted (documents_view c.args.documents.now) c.args.now (Ok (so_far (brought S.trusted E) c.in_ok-progress.progress.accepted c.in_ok-progress.progress.same)) =
    subst (λ (T : Trusted). commands.batch S.trusted (documents_view c.args.documents.now) c.args.now (Ok (so_far T c.in_ok-progress.progress.accepted c.in_ok-progress.progress.same))) left
    (subst (λ (T : Trusted). commands.batch T (documents_view c.args.documents.now) c.args.now (Ok (so_far (draft_view c.in_ok-progress.progress.draft) c.in_ok-progress.progress.accepted c.in_ok-progress.progress.same))) begun
    (c.in_ok-progress.ensures.ok _ (coherent (yes c.if-not-is_coherent.ensures)))) in (
      c.stays_valid.ensures.batches S.trusted (documents_view c.args.documents.now) c.args.now _ c.trusted.ensures.valid.trusted made,
      ap (λ (F : spec.Effects). F.gone) same,
    )
