use Rattle.std.proofs.Common.{List, ℕ, ap, sym}
use Rattle.denials.specs.Orders as orders
use Rattle.trusted_state.specs.Answers.{forgoes}
use Rattle.granting.proofs.TargetFiles.{says}
use Rattle.granting.proofs.listing.missing_role.Goals as goal

pub returns-in-Ok : goal.returns-in-Ok
returns-in-Ok c = says _ _ (ap (λ (role : List ℕ). orders.RoleMissing role c.args.version) (sym c.in-Ok.ensures.ok))

pub returns-in-Err : goal.returns-in-Err
returns-in-Err c = forgoes
