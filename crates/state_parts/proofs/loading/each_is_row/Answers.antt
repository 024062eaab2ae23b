use Rattle.std.proofs.Common.{ap, sym}
use Rattle.std.proofs.lemmas.List.{length-map}
use Rattle.std.proofs.lemmas.Bool.{true≢false}
use Rattle.metadata.specs.File.{IsFileOf, targets_form}
use Rattle.metadata.specs.FileViews.{targets_file}
use Rattle.delegations.specs.Views.{row_views}
use Rattle.trust_rules.specs.State.{IsShelfRow}
use Rattle.trust_rules.proofs.RisingRows.{all_fails, all_goes, all_ends, first_holds, later_hold}
use Rattle.state_parts.proofs.loading.each_is_row.Goals as goal

pub is_row-requires : goal.is_row-requires
is_row-requires c =
    first_holds (λ row. IsFileOf targets_form row.1) ((c.in-Some.row.now.role, c.in-Some.row.now.version), targets_file c.in-Some.row.now.file)
    (row_views c.in-Some.later.now) (row_views c.rows.rest.now) (ap row_views c.in-Some.ensures.cases.0) c.rows.invariant.read

pub returns-then-not-is_row : goal.returns-then-not-is_row
returns-then-not-is_row c =
    all_fails IsShelfRow ((c.in-Some.row.now.role, c.in-Some.row.now.version), targets_file c.in-Some.row.now.file) (row_views c.in-Some.later.now)
    (row_views c.rows.rest.now) (row_views c.args.rows.now) (ap row_views c.in-Some.ensures.cases.0)
    (λ b. true≢false (sym (c.if-not-is_row.ensures.1 b))) c.rows.invariant.same

pub rows-preserved : goal.rows-preserved
rows-preserved c = record {
  read = later_hold (λ row. IsFileOf targets_form row.1) ((c.in-Some.row.now.role, c.in-Some.row.now.version), targets_file c.in-Some.row.now.file)
      (row_views c.in-Some.later.now) (row_views c.rows.rest.now) (ap row_views c.in-Some.ensures.cases.0) c.rows.invariant.read;
  same = all_goes IsShelfRow ((c.in-Some.row.now.role, c.in-Some.row.now.version), targets_file c.in-Some.row.now.file) (row_views c.in-Some.later.now)
      (row_views c.rows.rest.now) (row_views c.args.rows.now) (ap row_views c.in-Some.ensures.cases.0)
      (c.is_row.ensures.0 c.if-not-is_row.false) c.rows.invariant.same;
}

pub returns : goal.returns
returns c =
    all_ends IsShelfRow (row_views c.rows.rest.now) (row_views c.args.rows.now)
    (simp length-map c.in_default.ensures.cases) c.rows.invariant.same
