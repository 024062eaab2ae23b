use Rattle.std.proofs.Common.{◌≡◌, bytes_eq, length}
use Rattle.std.specs.List.{list_any}
use Rattle.state_parts.specs.Views.{digest_views}
use Rattle.state_parts.proofs.taking.is_digest_gone.Given as goal

abbrev pub invariant-digests : goal.invariant-digests
invariant-digests l = list_any (λ d. bytes_eq l.fn.digest.0 d) (digest_views l.rest) ≡ list_any (λ d. bytes_eq l.fn.digest.0 d) (digest_views l.fn.gone)

abbrev pub decreases-digests : goal.decreases-digests
decreases-digests l = length l.rest
