use Rattle.std.proofs.Common.{arith}
use Rattle.lms.specs.Parameters.{signing_type}
use Rattle.lms.proofs.SignLaws.{signature_verifies}
use Rattle.lms.proofs.signing.sign_over.Goals as goal

pub returns-then-is_err-clause-verifies : goal.returns-then-is_err-clause-verifies
returns-then-is_err-clause-verifies c below =
    signature_verifies (signing_type c.args.params.height) c.args.params.ots c.args.seed.now.identifier c.args.seed.now.secret c.args.q c.args.message.now (omega arith) below

pub returns-clause-verifies : goal.returns-clause-verifies
returns-clause-verifies c below =
    signature_verifies (signing_type c.args.params.height) c.args.params.ots c.args.seed.now.identifier c.args.seed.now.secret c.args.q c.args.message.now (omega arith) below
