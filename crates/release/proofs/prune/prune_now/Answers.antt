use Rattle.std.proofs.Common.{◌≡◌, ℕ, refl}
use Rattle.trust_rules.specs.Runs.{Prune, Pruned, Reply}
use Rattle.release.proofs.Ending.{printed_ends, refused_ends}
use Rattle.release.proofs.prune.prune_now.Goals as goal

abbrev IsPruned : Reply → Type 0
IsPruned reply = (blobs : ℕ) × (rows : ℕ) × (reply ≡ Pruned blobs rows)

pub returns-in-Pruned : goal.returns-in-Pruned
returns-in-Pruned g c =
    printed_ends Prune c.args.now IsPruned (λ t S T q x. x) c.in-Ok.reply c.in-Ok.ensures c.print_line.result c.print_line.ensures (c.in-Pruned.blobs, c.in-Pruned.rows, rw c.in-Pruned.is refl)

pub returns-after-other : goal.returns-after-other
returns-after-other g c = refused_ends Prune c.args.now IsPruned (λ t S T q x. x) c.in-Ok.reply c.in-Ok.ensures c.refused.result c.refused.ensures
