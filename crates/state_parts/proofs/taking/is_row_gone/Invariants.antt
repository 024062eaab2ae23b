use Rattle.std.proofs.Common.{◌≡◌, length}
use Rattle.std.specs.List.{list_any}
use Rattle.delegations.specs.Rows.{same_place}
use Rattle.state_parts.proofs.taking.is_row_gone.Given as goal

abbrev pub invariant-places : goal.invariant-places
invariant-places l =
    list_any (λ place. same_place (l.fn.row.role, l.fn.row.version) place) l.rest ≡ list_any (λ place. same_place (l.fn.row.role, l.fn.row.version) place) l.fn.gone

abbrev pub decreases-places : goal.decreases-places
decreases-places l = length l.rest
