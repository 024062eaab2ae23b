use Rattle.std.proofs.Common.{◌*◌, ◌≤◌, length}
use Rattle.delegations.specs.Views.{shelf_view, table_view}
use Rattle.delegations.specs.steps.Remains.{IsAt, all_left, work}
use Rattle.delegations.proofs.walking.search_over.Given as goal

abbrev pub invariant-frames : goal.invariant-frames
invariant-frames l = record {
  at : IsAt (shelf_view l.shelf) l.query.path.now l.query.moment (table_view l.query.known.now) l.checks (all_left l.query.path.now l.frames) l.visited;
  room : length l.frames ≤ length l.visited;
  within : length l.visited ≤ 32;
  few : l.checks ≤ 16 * length l.visited;
}

abbrev pub decreases-frames : goal.decreases-frames
decreases-frames l = work (shelf_view l.shelf) l.query.path.now l.visited l.frames
