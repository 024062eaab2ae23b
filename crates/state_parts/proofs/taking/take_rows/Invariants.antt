use Rattle.std.proofs.Common.{◌≡◌, ◌≤◌, ◌-◌, ◌+◌, length, vec_len, vec_capacity}
use Rattle.delegations.specs.Rows.{with_rows}
use Rattle.delegations.specs.Views.{row_views}
use Rattle.state_parts.proofs.taking.take_rows.Given as goal

abbrev pub invariant-loop-row : goal.invariant-loop-row
invariant-loop-row l = record {
  rows : row_views l.shelf.items ≡ with_rows (row_views l.initial.shelf.items) (row_views l.yielded);
  room : length l.fn.rows.items ≤ (vec_capacity l.shelf - vec_len l.shelf) + length l.yielded;
}
