use Rattle.std.proofs.Common.{◌≡◌, Bool, List, ℕ, Err, refl, subst}
use Rattle.trust_rules.specs.Runs.{PutBlob, Reply, Stored}
use Rattle.cli_repository.specs.Works.{Ends}
use Rattle.release.proofs.Ending.{printed_ends, refused_ends}
use Rattle.release.proofs.put.put_now.Goals as goal

abbrev IsStored : Reply → Type 0
IsStored reply = (new : Bool) × (reply ≡ Stored new)

pub returns-in-Stored : goal.returns-in-Stored
returns-in-Stored g c =
    subst (λ (d : List ℕ). Ends (PutBlob d c.args.bytes.now) c.args.now IsStored c.print_line.result) c.digest_of-digest.ensures
    (printed_ends (PutBlob c.digest_of-digest.result.0 c.args.bytes.now) c.args.now IsStored (λ t S T q x. x) c.in-Ok.reply c.in-Ok.ensures c.print_line.result c.print_line.ensures
    (c.in-Stored.field-0, rw c.in-Stored.is refl))

pub returns-after-other : goal.returns-after-other
returns-after-other g c =
    subst (λ (d : List ℕ). Ends (PutBlob d c.args.bytes.now) c.args.now IsStored (Err c.refused.result)) c.digest_of-digest.ensures
    (refused_ends (PutBlob c.digest_of-digest.result.0 c.args.bytes.now) c.args.now IsStored (λ t S T q x. x) c.in-Ok.reply c.in-Ok.ensures c.refused.result c.refused.ensures)
