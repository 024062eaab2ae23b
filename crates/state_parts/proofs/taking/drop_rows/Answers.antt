use Rattle.std.proofs.Common.{ap, sym, ◌∙◌, not, rules}
use Rattle.std.proofs.lemmas.Fn.{filter_same}
use Rattle.std.specs.List.{list_any}
use Rattle.metadata.specs.FileViews.{targets_file}
use Rattle.delegations.specs.Rows.{same_place}
use Rattle.delegations.specs.Views.{row_views}
use Rattle.trust_rules.proofs.GoneKeys.{map_filter, without_is}
use Rattle.state_parts.proofs.taking.drop_rows.Goals as goal

pub returns-clause-rows : goal.returns-clause-rows
returns-clause-rows c =
    let left = filter_same _ (λ row. not (list_any (λ place. same_place (row.role, row.version) place) c.args.gone.now)) _ (λ x b f' k. search rules) _ _ c.retain.ensures.filtered in
    ap row_views left
    ∙ map_filter (λ row. ((row.role, row.version), targets_file row.file)) (λ row. not (list_any (λ place. same_place row.0 place) c.args.gone.now)) c.args.shelf.now.items
    ∙ sym (without_is same_place (row_views c.args.shelf.now.items) c.args.gone.now)
