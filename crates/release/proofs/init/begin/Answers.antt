use Rattle.std.proofs.Common.{◌≡◌, refl}
use Rattle.trust_rules.specs.Runs.{Begun, Init, Reply}
use Rattle.release.proofs.Ending.{printed_ends, refused_ends}
use Rattle.release.proofs.init.begin.Goals as goal

abbrev IsBegun : Reply → Type 0
IsBegun reply = reply ≡ Begun

pub returns-in-Begun : goal.returns-in-Begun
returns-in-Begun g c =
    printed_ends (Init c.args.bytes.now) c.args.now IsBegun (λ t S T q x. x) c.in-Ok.reply c.in-Ok.ensures c.print.result c.print.ensures (rw c.in-Begun.is refl)

pub returns-after-other : goal.returns-after-other
returns-after-other g c = refused_ends (Init c.args.bytes.now) c.args.now IsBegun (λ t S T q x. x) c.in-Ok.reply c.in-Ok.ensures c.refused.result c.refused.ensures
