use Rattle.std.proofs.Common.{sym, ◌∙◌}
use Rattle.table_rows.specs.steps.Loading.{IsSlotRow, FitsSlot}
use Rattle.sql_tables.proofs.ItemLemmas.{spoiled_more, spoiled_row}
use Rattle.table_rows.proofs.current.CurrentTakeRows.take_row.Goals as goal

pub returns-then-self : goal.returns-then-self
returns-then-self c rows was =
    let set = c.if-self.true in
    record { whole = λ off. absurd (let e = sym set ∙ off in cc); spoiled = λ _. spoiled_more IsSlotRow FitsSlot rows c.args.row.now (was.spoiled set) }

pub returns-in_default : goal.returns-in_default
returns-in_default c rows was = record { whole = λ off. absurd (let e = off in cc); spoiled = λ _. spoiled_row IsSlotRow FitsSlot rows c.args.row.now (rw c.in_default.is at c.in_ok-is_timestamp.ensures) }

pub returns : goal.returns
returns c rows was =
    let read = rw c.in-Some.is at c.in_ok-is_timestamp.ensures in
    c.fill_one.ensures rows c.args.row.now (was.whole c.if-self.false) read.0 read.1
