use Rattle.std.proofs.Common.{subst, ◌∙◌}
use Rattle.trust_rules.specs.Offers.{kept_rows}
use Rattle.trusted_state.specs.Knowing.{IsKnown}
use Rattle.trust_rules.specs.State.{Trusted}
use Rattle.trusted_state.specs.Views.{draft_view}
use Rattle.trust_rules.specs.steps.Pruning.{AreAtListed}
use Rattle.trusted_state.proofs.Carrying.{ok_two}
use Rattle.trusted_state.proofs.ListedVerdicts.{known_kept}
use Rattle.trusted_state.proofs.knowing.listed_verdicts.Goals as goal

pub returns : goal.returns
returns c =
    let D = draft_view c.new.result in
    let T = c.args.held.now.held.trusted in
    let same = c.new.ensures.view ∙ c.trusted.ensures.view in
    ok_two (IsKnown D) (AreAtListed D.snapshot) (IsKnown (record T { shelf = kept_rows T })) c.draft_verdicts.result
    (λ t known listed. subst (λ (U : Trusted). IsKnown (record U { shelf = kept_rows U }) t) same (known_kept D t known listed))
    c.draft_verdicts.ensures.known c.draft_verdicts.ensures.listed
