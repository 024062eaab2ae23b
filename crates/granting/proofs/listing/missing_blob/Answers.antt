use Rattle.std.proofs.Common.{List, ℕ, ap, sym}
use Rattle.denials.specs.Orders as orders
use Rattle.trusted_state.specs.Answers.{forgoes}
use Rattle.granting.proofs.TargetFiles.{says}
use Rattle.granting.proofs.listing.missing_blob.Goals as goal

pub returns-in-Ok : goal.returns-in-Ok
returns-in-Ok c = says _ _ (ap (λ (p : List ℕ). orders.BlobMissing p c.args.listing.now.digest.0 c.args.listing.now.length) (sym c.in-Ok.ensures.cases))

pub returns-in-Err : goal.returns-in-Err
returns-in-Err c = forgoes
