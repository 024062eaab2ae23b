use Rattle.std.proofs.Common.{◌≡◌, bytes_eq, length, map}
use Rattle.document_parts.specs.Views.{listing_view}
use Rattle.delegations.specs.Delegation.{before}
use Rattle.delegations.specs.Rows.{Rises}
use Rattle.trust_rules.specs.Effects.{without}
use Rattle.granting.specs.PartViews.{length_views}
use Rattle.trust_rules.specs.steps.Pruning.{digests_of}
use Rattle.machine.proofs.pruning.leave_out.Given as goal

abbrev pub invariant-listings : goal.invariant-listings
invariant-listings l = record {
  order : Rises before (length_views l.left.items);
  left : without bytes_eq (length_views l.left.items) (digests_of (map listing_view l.rest))
      ≡ without bytes_eq (length_views l.initial.left.items) (digests_of (map listing_view l.fn.listings));
}

abbrev pub decreases-listings : goal.decreases-listings
decreases-listings l = length l.rest
