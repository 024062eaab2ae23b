use Rattle.std.proofs.Common.{◌≡◌, Some, None, sym, option_map, IfSome}
use Rattle.metadata.specs.FileViews.{targets_file}
use Rattle.delegations.specs.Rows.{row_at}
use Rattle.delegations.specs.RowViews.{row_views}
use Rattle.delegations.specs.Views.{rows_view}
use Rattle.delegations.proofs.Places.{at_held}
use Rattle.delegations.proofs.rows.Rows.held_at.Goals as goal

pub returns-clause-held : goal.returns-clause-held
returns-clause-held c =
    elim c.file_at.result as (λ o. option_map (λ f. targets_file f.now) o ≡ row_at (row_views c.args.self.now.held.now) c.args.role.now c.args.version
    → IfSome o (λ f. row_at (row_views c.args.self.now.held.now) c.args.role.now c.args.version ≡ Some (targets_file f.now))) [ Some f ↦ λ e. sym e | None ↦ λ e. tt ] c.file_at.ensures

pub returns-clause-there : goal.returns-clause-there
returns-clause-there c =
    elim c.file_at.result as (λ o. option_map (λ f. targets_file f.now) o ≡ row_at (row_views c.args.self.now.held.now) c.args.role.now c.args.version
    → IfSome o (λ f. row_at (rows_view c.args.self.now) c.args.role.now c.args.version ≡ Some (targets_file f.now)))
    [ Some f ↦ λ e. sym (at_held (row_views c.args.self.now.held.now) (row_views c.args.self.now.added.now) c.args.role.now c.args.version (targets_file f.now) c.args.self.now.in_order e) | None ↦ λ e. tt ] c.file_at.ensures
