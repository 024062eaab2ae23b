use Rattle.std.proofs.Common.{ap}
use Rattle.repository_rows.specs.Contents.{slot_view, value_view}
use Rattle.table_rows.proofs.current.fill.Goals as goal

pub returns-in-Some-clause-refused : goal.returns-in-Some-clause-refused
returns-in-Some-clause-refused c differs = (value_view c.in-Some.held, ap slot_view c.in-Some.is, c.is_held.ensures.other differs)
