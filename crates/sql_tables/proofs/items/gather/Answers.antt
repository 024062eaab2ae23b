use Rattle.sql_tables.proofs.items.gather.Goals as goal

pub returns-clause-rows : goal.returns-clause-rows
returns-clause-rows g c =
    let it = c.in_ok-gathered.ensures.rows c.new.ensures in
    (it.0, it.2, c.into_items.ensures it.0 it.1, it.3)

pub returns-clause-unchanged : goal.returns-clause-unchanged
returns-clause-unchanged g c clean schema tree shown keys reads has = c.in_ok-gathered.ensures.unchanged clean schema tree shown keys reads has c.new.ensures
