use Rattle.std.proofs.Common.{◌≡◌, length}
use Rattle.std.specs.Prelude.{find, map, bytes_eq}
use Rattle.document_parts.specs.Views.{delegation_view}
use Rattle.document_parts.proofs.role_rules.delegation_to.Given as goal

abbrev pub invariant-delegations : goal.invariant-delegations
invariant-delegations l = find (λ d. bytes_eq d.name l.role) (map delegation_view l.fn.delegations) ≡ find (λ d. bytes_eq d.name l.role) (map delegation_view l.rest)

abbrev pub decreases-delegations : goal.decreases-delegations
decreases-delegations l = length l.rest
