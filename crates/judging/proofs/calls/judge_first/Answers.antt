use Rattle.std.proofs.Common.{◌≡◌, [], Ok, ap, refl}
use Rattle.std.proofs.lemmas.Result.{err_from_is_err_and}
use Rattle.std.specs.Prelude.{IsNone}
use Rattle.metadata.specs.FileViews.{root_file}
use Rattle.denials.specs.Orders.{pass, decide, holds, fails, given}
use Rattle.trusted_state.specs.Answers.{changes, refused, unanswered}
use Rattle.trust_rules.specs.Offers as commands
use Rattle.trust_rules.specs.Effects as changed
use Rattle.trust_rules.specs.Effects.{applied}
use Rattle.trust_rules.specs.Held.{Held}
use Rattle.trust_rules.specs.State.{State, Trusted, nothing_trusted}
use Rattle.trusted_state.specs.PartViews.{effects_view}
use Rattle.trust_rules.proofs.OrderLines.{yes, no}
use Rattle.trusted_state.proofs.OrderSteps.{given_by}
use Rattle.judging.proofs.ChangesMake.{root_there, no_root, if_none, answered_in, answered_behind, began}
use Rattle.trust_rules.proofs.HeldStates.{same_trusted_held, bare}
use Rattle.judging.proofs.calls.judge_first.Goals as goal

pub returns-then-is_some-clause-answers : goal.returns-then-is_some-clause-answers
returns-then-is_some-clause-answers c S valid is =
    refused (decide (fails (root_there root_file c.trusted.result.now.root S.trusted.root (ap (λ (T : Trusted). T.root) (same_trusted_held S is c.trusted.ensures.view)) c.if-is_some.ensures)))

pub returns-in_err-new-clause-answers : goal.returns-in_err-new-clause-answers
returns-in_err-new-clause-answers c S valid is =
    let p = err_from_is_err_and c.from_residual.result c.from_residual.ensures.1 in
    rw (p.1, p.2) (answered_behind tt (holds (no_root root_file c.trusted.result.now.root S.trusted.root (ap (λ (T : Trusted). T.root) (same_trusted_held S is c.trusted.ensures.view)) c.if-is_some.ensures))
    (answered_in c.in_err-new.ensures.shape))

pub returns-then-not-is_signed-clause-answers : goal.returns-then-not-is_signed-clause-answers
returns-then-not-is_signed-clause-answers c S valid is =
    refused (pass (holds (no_root root_file c.trusted.result.now.root S.trusted.root (ap (λ (T : Trusted). T.root) (same_trusted_held S is c.trusted.ensures.view)) c.if-is_some.ensures))
    (pass (given_by c.in_ok-new.ensures.shape) (decide (fails (no c.if-not-is_signed.ensures)))))

pub returns-clause-answers : goal.returns-clause-answers
returns-clause-answers c S valid is =
    let none : IsNone S.trusted.root = no_root root_file c.trusted.result.now.root S.trusted.root (ap (λ (T : Trusted). T.root) (same_trusted_held S is c.trusted.ensures.view)) c.if-is_some.ensures in
    let nothing : S.trusted ≡ nothing_trusted = if_none _ _ none valid.trusted.none in
    let empty : S.blobs ≡ [] = if_none _ _ none valid.none in
    let made : commands.init S c.args.bytes.now (Ok (applied S (effects_view c.in_ok-effects.effects))) =
    began S c.args.bytes.now (root_file c.in_ok-new.new) (effects_view c.in_ok-effects.effects) nothing empty c.in_ok-effects.ensures
    (pass (holds none) (pass (given_by c.in_ok-new.ensures.shape) (pass (holds (yes c.if-not-is_signed.ensures)) given))) in
    changes made (c.stays_valid.ensures.begins S _ _ made)

pub returns-clause-trusted : goal.returns-clause-trusted
returns-clause-trusted c =
    let H : Held = c.args.held.now.held in
    let S : State = bare H.trusted in
    let none : IsNone S.trusted.root = no_root root_file c.trusted.result.now.root S.trusted.root (ap (λ (T : Trusted). T.root) c.trusted.ensures.view) c.if-is_some.ensures in
    let nothing : S.trusted ≡ nothing_trusted = if_none _ _ none c.trusted.ensures.valid.trusted.none in
    let made : commands.init S c.args.bytes.now (Ok (applied S (effects_view c.in_ok-effects.effects))) =
    began S c.args.bytes.now (root_file c.in_ok-new.new) (effects_view c.in_ok-effects.effects) nothing refl c.in_ok-effects.ensures
    (pass (holds none) (pass (given_by c.in_ok-new.ensures.shape) (pass (holds (yes c.if-not-is_signed.ensures)) given))) in
    ((c.stays_valid.ensures.begins S _ _ made).trusted, ap (λ (F : changed.Effects). F.gone) c.in_ok-effects.ensures)

pub returns-in_err-effects-clause-answers : goal.returns-in_err-effects-clause-answers
returns-in_err-effects-clause-answers c S valid is =
    let p = err_from_is_err_and c.from_residual-in_err-effects.result c.from_residual-in_err-effects.ensures.1 in
    rw (p.1, p.2) (unanswered)
