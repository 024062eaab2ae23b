use Rattle.std.proofs.Common.{◌≡◌, length}
use Rattle.std.specs.Prelude.{find}
use Rattle.keys_roles.specs.Verdicts.{same_pair}
use Rattle.keys_roles.specs.Views.{key_view, verdict_views}
use Rattle.keys_roles.proofs.verdicts.held.Given as goal

abbrev pub invariant-known : goal.invariant-known
invariant-known l = find (λ v. same_pair v.pair (l.place, key_view l.key)) (verdict_views l.fn.known) ≡ find (λ v. same_pair v.pair (l.place, key_view l.key)) (verdict_views l.rest)

abbrev pub decreases-known : goal.decreases-known
decreases-known l = length l.rest
