use Rattle.lms.proofs.HssLaws.{hss_verifies}
use Rattle.lms.proofs.hss_signatures_verify.Goals as goal

pub returns : goal.returns
returns c = hss_verifies
