use Rattle.keys_roles.proofs.LmsAlone.{as_before}
use Rattle.keys_roles.proofs.laws.lms_rules_as_before.Goals as goal

pub returns : goal.returns
returns c = λ rule table signed entries names. as_before rule table signed entries names
