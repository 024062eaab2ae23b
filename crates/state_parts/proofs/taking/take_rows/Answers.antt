use Rattle.std.proofs.Common.{sym}
use Rattle.std.proofs.lemmas.List.{map-append}
use Rattle.metadata.specs.FileViews.{targets_file}
use Rattle.delegations.specs.Views.{row_views}
use Rattle.trust_rules.proofs.MoreRootsAndRows.{rows_more}
use Rattle.trust_rules.proofs.PutInRoom.{room_left}
use Rattle.state_parts.proofs.taking.take_rows.Goals as goal

pub loop-row-preserved : goal.loop-row-preserved
loop-row-preserved c = record {
  rows = rw (c.put_row.ensures.rows, c.loop-row.invariant.rows, map-append) (sym (rows_more (row_views c.args.shelf.now.items) (row_views c.loop-row.yielded) ((c.in-Some.row.role, c.in-Some.row.version), targets_file c.in-Some.row.file)));
  room = room_left _ _ _ c.loop-row.yielded c.in-Some.row c.loop-row.invariant.room c.put_row.ensures.room;
}
