use Rattle.std.proofs.Common.{ap, sym, subst}
use Rattle.std.proofs.lemmas.Result.{err_from_is_err_and}
use Rattle.trusted_state.specs.Answers.{unchanged, unanswered}
use Rattle.trust_rules.specs.Effects as changed
use Rattle.trust_rules.specs.State.{State, Trusted, IsTrusted}
use Rattle.trusted_state.proofs.OrderSteps.{accepted, kept_same}
use Rattle.judging.proofs.OneMoreBlob.{with_one, as_judged, answers_rejected}
use Rattle.trust_rules.proofs.HeldStates.{bare}
use Rattle.judging.proofs.blobs.judge_put.Goals as goal

pub returns-then-not-branch-clause-answers : goal.returns-then-not-branch-clause-answers
returns-then-not-branch-clause-answers c S valid is = unchanged (kept_same c.if-not-branch.true (c.in_ok-judge_blob.ensures S valid is))

pub returns-in_err-judge_blob-clause-answers : goal.returns-in_err-judge_blob-clause-answers
returns-in_err-judge_blob-clause-answers c S valid is =
    let p = err_from_is_err_and c.from_residual.result c.from_residual.ensures.1 in
    rw (p.1, p.2) (answers_rejected (c.in_err-judge_blob.ensures S valid is))

pub returns-clause-answers : goal.returns-clause-answers
returns-clause-answers c S valid is =
    let judged = accepted c.if-not-branch.false (c.in_ok-judge_blob.ensures S valid is) in
    as_judged judged (with_one S _ c.args.digest.now.0 c.args.bytes.now c.in_ok-effects.ensures)
    (c.stays_valid.ensures.puts S _ c.args.digest.now.0 c.args.bytes.now valid judged)

pub returns-clause-trusted : goal.returns-clause-trusted
returns-clause-trusted c =
    let S : State = bare c.args.held.now.held.trusted in (
      subst (λ (T : Trusted). IsTrusted T) (sym (ap (λ (S : State). S.trusted) (with_one S _ c.args.digest.now.0 c.args.bytes.now c.in_ok-effects.ensures))) c.is_valid.ensures.trusted,
      ap (λ (F : changed.Effects). F.gone) c.in_ok-effects.ensures,
    )

pub returns-in_err-effects-clause-answers : goal.returns-in_err-effects-clause-answers
returns-in_err-effects-clause-answers c S valid is =
    let p = err_from_is_err_and c.from_residual-in_err-effects.result c.from_residual-in_err-effects.ensures.1 in
    rw (p.1, p.2) (unanswered)
