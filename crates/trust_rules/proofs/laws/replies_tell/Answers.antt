use Rattle.trust_rules.proofs.GrantsEnd.{refusals_keep, target_replies}
use Rattle.trust_rules.proofs.laws.replies_tell.Goals as goal

pub returns-clause-targets : goal.returns-clause-targets
returns-clause-targets c = target_replies

pub returns-clause-refusals : goal.returns-clause-refusals
returns-clause-refusals c = refusals_keep
