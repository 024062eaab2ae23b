use Rattle.table_rows.proofs.Slots.{all_more, all_other}
use Rattle.table_rows.proofs.current.are_still.Goals as goal

pub returns-then-is_of : goal.returns-then-is_of
returns-then-is_of c rows all = all_more c.args.version rows c.args.row.now c.args.were (c.is_of.ensures.yes c.if-is_of.true) all

pub returns-else-is_of : goal.returns-else-is_of
returns-else-is_of c rows all = all_other c.args.version rows c.args.row.now (c.is_of.ensures.no c.if-is_of.false)
