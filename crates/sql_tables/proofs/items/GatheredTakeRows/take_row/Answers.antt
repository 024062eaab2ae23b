use Rattle.std.proofs.Common.{map}
use Rattle.sql_tables.proofs.Gathering.{has_spoiled}
use Rattle.sql_tables.proofs.items.GatheredTakeRows.take_row.Goals as goal

pub returns-then-self : goal.returns-then-self
returns-then-self g c rows was =
    let t = g.T.Item in
    let laws = g.met.T.Item in
    has_spoiled t.key_cmp laws.total laws.exact t.Reads t.Fits rows (map t.shows c.args.self.now.items.items) c.args.row.now c.args.self.now.is_spoiled c.if-self.true was
