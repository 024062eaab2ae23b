use Rattle.std.proofs.Common.{sym}
use Rattle.keys_roles.specs.Views.{entries_view}
use Rattle.signer.proofs.JoinedFiles.{envelope_denied}
use Rattle.signer.proofs.joining.join_with.Goals as goal

pub returns-in-Some-clause-unjoined : goal.returns-in-Some-clause-unjoined
returns-in-Some-clause-unjoined c file f = (
  (entries_view c.args.first.now.signatures.items, c.args.first.now.signed.now, f),
  envelope_denied c.args.other.now c.in-Err.fault c.in-Some.denial (sym c.in-Some.ensures) c.in-Err.ensures.fault,
)
