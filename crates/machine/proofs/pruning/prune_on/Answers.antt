use Rattle.std.proofs.Common.{◌∙◌, ap, subst, sym}
use Rattle.std.proofs.lemmas.List.{length-map}
use Rattle.std.proofs.lemmas.Result.{err_from_is_err_and}
use Rattle.std.specs.Prelude.{IsSome}
use Rattle.metadata.specs.FileViews.{root_file}
use Rattle.denials.specs.Orders.{decide, fails}
use Rattle.granting.specs.Answers.{changes, refused, unanswered}
use Rattle.trust_rules.specs.Effects.{Effects, no_effects}
use Rattle.trust_rules.specs.Held.{Held, held_of}
use Rattle.granting.specs.Knowing.{IsKnown}
use Rattle.trust_rules.specs.State.{Trusted}
use Rattle.granting.specs.PartViews.{effects_view}
use Rattle.trust_rules.specs.steps.Pruning.{gone_of}
use Rattle.trust_rules.proofs.HeldStates.{same_trusted_held}
use Rattle.trust_rules.proofs.PrunedEffects.{blobs_counted, brought_pruned, prune_makes, root_is, root_is_not, rows_counted}
use Rattle.machine.proofs.pruning.prune_on.Goals as goal

pub returns-then-is_none-clause-answers : goal.returns-then-is_none-clause-answers
returns-then-is_none-clause-answers c S valid is =
    refused (decide (fails (root_is_not root_file c.trusted.result.now.root S.trusted.root (ap (λ (T : Trusted). T.root) (same_trusted_held S is c.trusted.ensures.view)) c.if-is_none.ensures)))

pub returns-in_err-effects-clause-answers : goal.returns-in_err-effects-clause-answers
returns-in_err-effects-clause-answers c S valid is =
    let p = err_from_is_err_and c.from_residual.result c.from_residual.ensures.1 in
    rw (p.1, p.2) (unanswered)

pub returns-clause-answers : goal.returns-clause-answers
returns-clause-answers c S valid is =
    let there : IsSome S.trusted.root =
    root_is root_file c.trusted.result.now.root S.trusted.root (ap (λ (T : Trusted). T.root) (same_trusted_held S is c.trusted.ensures.view)) c.if-is_none.ensures in
    let made = prune_makes c.args.held.now.held (effects_view c.in_ok-effects.effects) S is c.in_ok-effects.ensures.made there in
    changes made (c.stays_valid.ensures.prunes S _ valid made)

pub returns-clause-known : goal.returns-clause-known
returns-clause-known c =
    subst (λ (T : Trusted). IsKnown T c.in_ok-effects.effects.verdicts) (brought_pruned c.args.held.now.held (effects_view c.in_ok-effects.effects) c.in_ok-effects.ensures.made)
    c.in_ok-effects.ensures.known

pub returns-clause-alike : goal.returns-clause-alike
returns-clause-alike c S valid is =
    let there : IsSome S.trusted.root =
    root_is root_file c.trusted.result.now.root S.trusted.root (ap (λ (T : Trusted). T.root) (same_trusted_held S is c.trusted.ensures.view)) c.if-is_none.ensures in
    c.prune_keeps_answers.ensures.grants S _ (prune_makes c.args.held.now.held (effects_view c.in_ok-effects.effects) S is c.in_ok-effects.ensures.made there)

pub returns-clause-counts : goal.returns-clause-counts
returns-clause-counts c S valid is =
    let E : Effects = effects_view c.in_ok-effects.effects in
    let over = c.in_ok-effects.ensures.made ∙ ap (λ (H : Held). record no_effects { gone = gone_of H }) (sym is) in
    (rows_counted (held_of S) E over, blobs_counted S E over ∙ length-map c.in_ok-effects.effects.gone.blobs.items (λ d. d.0))
