use Rattle.std.proofs.Common.{◌≡◌}
use Rattle.state_parts.specs.Views.{length_views}
use Rattle.trusted_state.proofs.stored.all_lengths.Given as goal

abbrev pub invariant-rows : goal.invariant-rows
invariant-rows l = length_views l.lengths.items ≡ l.yielded
