use Rattle.table_rows.proofs.fours.Fours.into_items.Goals as goal

pub returns : goal.returns
returns c rows come = c.into_items.ensures rows (c.in_ok-settle.ensures.rows rows come)
