use Rattle.std.proofs.Common.{◌+◌, ◌≤◌, length, map}
use Rattle.keys_roles.specs.Views as keys
use Rattle.metadata.specs.FileViews.{targets_file}
use Rattle.delegations.specs.Verdicts.{AreFoundOut}
use Rattle.delegations.specs.Views.{shelf_view}
use Rattle.delegations.specs.steps.Reaching.{IsLooking, rest_of, unmet_rows, waiting, whole_of}
use Rattle.delegations.proofs.vouching.expand.Given as goal

abbrev pub invariant-roles : goal.invariant-roles
invariant-roles l = record {
  looking : IsLooking (shelf_view l.shelf) l.now l.role (targets_file l.new) (map (λ n. n.now) l.met.items) (waiting l.todo.items) (whole_of l.frame) (rest_of (keys.table_view l.frame.keys.now) l.rest);
  known : AreFoundOut (shelf_view l.shelf).rows l.known;
  less : unmet_rows (shelf_view l.shelf).listing (map (λ n. n.now) l.met.items) + length l.todo.items ≤ unmet_rows (shelf_view l.shelf).listing (map (λ n. n.now) l.fn.met.items) + length l.fn.todo.items;
}

abbrev pub decreases-roles : goal.decreases-roles
decreases-roles l = length l.rest
