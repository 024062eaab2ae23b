use Rattle.std.proofs.Common.{map, length}
use Rattle.metadata.specs.FileViews.{root_file}
use Rattle.trust_rules.specs.steps.Stored.{IsStoredRoot}
use Rattle.trust_rules.proofs.ItemByItem.{Reading}
use Rattle.trusted_state.proofs.stored.read_roots.Given as goal

abbrev pub invariant-rows : goal.invariant-rows
invariant-rows l = Reading IsStoredRoot (map (λ r. (r.0, (r.1, r.2.items))) l.fn.rows) (map (λ r. (r.0, (r.1, r.2.items))) l.rest) (map root_file l.files.items)

abbrev pub decreases-rows : goal.decreases-rows
decreases-rows l = length l.rest
