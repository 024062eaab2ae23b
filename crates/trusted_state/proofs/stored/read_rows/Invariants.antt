use Rattle.std.proofs.Common.{map, length, string_bytes}
use Rattle.delegations.specs.Views.{row_views}
use Rattle.trust_rules.specs.steps.Stored.{IsShelved}
use Rattle.trust_rules.proofs.ItemByItem.{Reading}
use Rattle.trusted_state.proofs.stored.read_rows.Given as goal

abbrev pub invariant-rows : goal.invariant-rows
invariant-rows l = Reading IsShelved (map (λ r. ((string_bytes r.0, r.1), r.2.items)) l.fn.rows) (map (λ r. ((string_bytes r.0, r.1), r.2.items)) l.rest) (row_views l.held.items)

abbrev pub decreases-rows : goal.decreases-rows
decreases-rows l = length l.rest
