use Rattle.std.proofs.Common.{◌≡◌, map}
use Rattle.state_parts.specs.Views.{blob_views}
use Rattle.trusted_state.proofs.stored.all_blobs.Given as goal

abbrev pub invariant-rows : goal.invariant-rows
invariant-rows l = blob_views l.blobs.items ≡ map (λ b. (b.0, b.1.items)) l.yielded
