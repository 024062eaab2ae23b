use Rattle.std.proofs.Common.{◌++◌, [], ◌∷◌, true, false, ap, subst}
use Rattle.repository_rows.specs.Contents.{slot_view, value_view}
use Rattle.table_rows.specs.steps.Loading.{IsSlotRow, FitsSlot, slot_name, current_items}
use Rattle.sql_tables.proofs.ItemLemmas.{spoiled_slot}
use Rattle.table_rows.proofs.Slots.{filled_timestamp, filled_snapshot, has_timestamp, has_snapshot, slots_more}
use Rattle.table_rows.proofs.current.fill_one.Goals as goal

pub returns-then-is_timestamp : goal.returns-then-is_timestamp
returns-then-is_timestamp c rows r all reads fits =
    let a = slot_view c.args.timestamp.now in
    let b = slot_view c.args.snapshot.now in
    let v = value_view c.args.item in
    let name = ap slot_name c.if-is_timestamp.true in
    let here = subst (λ n. IsSlotRow r (n, v)) name reads in
    let fit = subst (λ n. FitsSlot (n, v)) name fits in
    slots_more (rows ++ r ∷ []) (slot_view c.fill.new.slot) b c.fill.result (λ done. filled_timestamp rows r a (slot_view c.fill.new.slot) b v all here fit (c.fill.ensures.filled done) (c.fill.ensures.was done))
    (λ held. let bad = c.fill.ensures.refused held in spoiled_slot IsSlotRow FitsSlot rows (current_items a b) r (slot_name true) v bad.0 all (has_timestamp a b bad.0 bad.1) here fit bad.2)

pub returns-else-is_timestamp : goal.returns-else-is_timestamp
returns-else-is_timestamp c rows r all reads fits =
    let a = slot_view c.args.timestamp.now in
    let b = slot_view c.args.snapshot.now in
    let v = value_view c.args.item in
    let name = ap slot_name c.if-is_timestamp.false in
    let here = subst (λ n. IsSlotRow r (n, v)) name reads in
    let fit = subst (λ n. FitsSlot (n, v)) name fits in
    let fill = c.fill-else-is_timestamp in
    slots_more (rows ++ r ∷ []) a (slot_view fill.new.slot) fill.result (λ done. filled_snapshot rows r a b (slot_view fill.new.slot) v all here fit (fill.ensures.filled done) (fill.ensures.was done))
    (λ held. let bad = fill.ensures.refused held in spoiled_slot IsSlotRow FitsSlot rows (current_items a b) r (slot_name false) v bad.0 all (has_snapshot a b bad.0 bad.1) here fit bad.2)
