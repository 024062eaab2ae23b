use Rattle.std.proofs.Common.{◌+◌, length, map}
use Rattle.metadata.specs.FileViews.{targets_file}
use Rattle.delegations.specs.Verdicts.{AreFoundOut}
use Rattle.delegations.specs.Views.{shelf_view}
use Rattle.delegations.specs.steps.Reaching.{IsOpen, unmet_rows, waiting}
use Rattle.delegations.proofs.vouching.vouched.Given as goal

abbrev pub invariant-frames : goal.invariant-frames
invariant-frames l = record {
  waits : IsOpen (shelf_view l.shelf) l.now l.role (targets_file l.document) (map (λ n. n.now) l.met.items) (waiting l.todo.items);
  known : AreFoundOut (shelf_view l.shelf).rows l.known;
}

abbrev pub decreases-frames : goal.decreases-frames
decreases-frames l = unmet_rows (shelf_view l.shelf).listing (map (λ n. n.now) l.met.items) + length l.todo.items
