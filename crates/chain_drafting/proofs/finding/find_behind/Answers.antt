use Rattle.std.proofs.Common.{rules}
use Rattle.std.specs.List.{AllByRecursion}
use Rattle.keys_roles.specs.Views.{rows_view}
use Rattle.chain_drafting.specs.Finding.{IsNotCalled}
use Rattle.chain_drafting.specs.steps.Found.{IsFirstCalled}
use Rattle.chain_drafting.proofs.Finds.{one_found, several_found}
use Rattle.drafting.proofs.Rows.{shown}
use Rattle.chain_drafting.proofs.finding.find_behind.Goals as goal

pub returns-in-Ok-Some : goal.returns-in-Ok-Some
returns-in-Ok-Some c =
    let behind = c.rows_behind-behind.result.now in
    let second : IsFirstCalled behind (shown c.args.names.now) c.args.word.now c.in-Ok-Some.field-0-0 = search rules in
    several_found c.args.rows.now behind _ _ c.args.at c.in-Ok-Some.field-0-0 c.rows_behind-behind.ensures c.requires second

pub returns-in_ok-named-in-Ok-None : goal.returns-in_ok-named-in-Ok-None
returns-in_ok-named-in-Ok-None c =
    let behind = c.rows_behind-behind.result.now in
    let said = c.in_ok-named-in-Ok-None.ensures in
    let none : AllByRecursion (IsNotCalled (shown c.args.names.now) c.args.word.now) (rows_view behind) = search rules in
    rw said.key (one_found c.args.rows.now behind _ _ c.args.at c.row_at.result.now _ c.row_at.ensures c.rows_behind-behind.ensures c.requires none said.name)
