use Rattle.cli_get.proofs.Fetching.{granted}
use Rattle.cli_get.proofs.getting.granted.Goals as goal

pub returns : goal.returns
returns g c = granted c.args.path.now c.args.now _ _ _ _ (λ A B q v d. d) c.worked-done.ensures
