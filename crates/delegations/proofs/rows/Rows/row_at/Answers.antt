use Rattle.std.proofs.Common.{option_map}
use Rattle.metadata.specs.FileViews.{targets_file}
use Rattle.delegations.proofs.Places.{at_added, at_held}
use Rattle.delegations.specs.RowViews.{row_views}
use Rattle.delegations.proofs.rows.Rows.row_at.Goals as goal

pub returns-in-Some : goal.returns-in-Some
returns-in-Some c =
    at_held (row_views c.args.self.now.held.now) (row_views c.args.self.now.added.now) c.args.role.now c.args.version
    (targets_file c.in-Some.file.now) c.args.self.now.in_order c.in-Some.ensures

pub returns-in-None : goal.returns-in-None
returns-in-None c =
    at_added (row_views c.args.self.now.held.now) (row_views c.args.self.now.added.now) c.args.role.now c.args.version
    (option_map (λ f. targets_file f.now) c.first_at.result) c.args.self.now.in_order c.in-None.ensures c.first_at.ensures
