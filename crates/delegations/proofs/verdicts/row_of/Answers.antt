use Rattle.std.proofs.Common.{◌≡◌, sym, subst, string_bytes}
use Rattle.keys_roles.specs.Views.{verdict_views}
use Rattle.metadata.specs.File.{Name}
use Rattle.metadata.specs.FileViews.{targets_file}
use Rattle.delegations.specs.Views.{shelf_view}
use Rattle.delegations.specs.steps.Gathering.{IsRow}
use Rattle.delegations.proofs.verdicts.row_of.Goals as goal

pub returns-clause-row : goal.returns-clause-row
returns-clause-row c =
    let V = shelf_view c.args.shelf.now in
    let vs = verdict_views c.in_ok-verdicts.verdicts.items in
    let named : string_bytes c.in_ok-role.role ≡ c.args.role.now = c.in_ok-role.ensures.ok in
    subst (λ (r : Name). IsRow V ((r, c.in-Some.version), vs)) (sym named) (record {
      file = targets_file c.in-Some.file.now;
      there = c.in-Some.ensures.some;
      listed = c.in-Some.ensures.listed;
      stands = c.in-Some.ensures.there;
      gathered = c.in_ok-verdicts.ensures V c.in-Some.ensures.some c.requires.edges;
    })
