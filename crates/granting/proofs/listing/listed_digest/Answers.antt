use Rattle.std.proofs.Common.{◌∙◌, sym}
use Rattle.denials.specs.Orders.{pass, decide, holds, fails, given}
use Rattle.trusted_state.specs.Answers.{gives, denies}
use Rattle.trust_rules.proofs.OrderLines.{yes, no, needed, lacking}
use Rattle.granting.proofs.TargetFiles.{refused_as}
use Rattle.trust_rules.proofs.HeldStates.{blob_so, no_blob}
use Rattle.granting.proofs.listing.listed_digest.Goals as goal

pub returns-in_default-clause-answer : goal.returns-in_default-clause-answer
returns-in_default-clause-answer c S at =
    refused_as (decide (lacking _ _ (no_blob S c.args.listing.now.digest.0 at (sym c.in_default.ensures)))) c.missing_blob.ensures

pub returns-then-not-has_listed_length-clause-answer : goal.returns-then-not-has_listed_length-clause-answer
returns-then-not-has_listed_length-clause-answer c S at =
    let p = blob_so S c.args.listing.now.digest.0 at (sym c.in-Some.ensures) in
    denies (pass (needed _ _ _ p.0) (decide (fails (λ e. no c.if-not-has_listed_length.ensures (sym p.1 ∙ e)))))

pub returns-clause-answer : goal.returns-clause-answer
returns-clause-answer c S at =
    let p = blob_so S c.args.listing.now.digest.0 at (sym c.in-Some.ensures) in
    gives (pass (needed _ _ _ p.0) (pass (holds (p.1 ∙ yes c.if-not-has_listed_length.ensures)) given))
