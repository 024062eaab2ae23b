use Rattle.std.proofs.Common.{◌≡◌, length}
use Rattle.std.specs.List.{list_all}
use Rattle.granting.specs.steps.Permitting.{is_short_in}
use Rattle.granting.proofs.supporting.are_short.Given as goal

abbrev pub invariant-links : goal.invariant-links
invariant-links l = list_all (is_short_in l.held.held.blobs) l.rest ≡ list_all (is_short_in l.held.held.blobs) l.fn.links

abbrev pub decreases-links : goal.decreases-links
decreases-links l = length l.rest
