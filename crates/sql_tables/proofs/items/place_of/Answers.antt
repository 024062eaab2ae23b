use Rattle.std.proofs.Common.{map, sym, ◌∙◌}
use Rattle.sql_tables.proofs.Gathering.{is_same, is_other, is_before}
use Rattle.sql_tables.proofs.ListLemmas.{mapped_last}
use Rattle.sql_tables.proofs.items.place_of.Goals as goal

pub returns-in-Equal : goal.returns-in-Equal
returns-in-Equal g c =
    let last = c.in-Some.last.now in
    let item = c.args.item.now in
    let laws = g.met.T.Item in
    let split = mapped_last g.T.Item.shows c.args.items.now c.in-Some.field-0-1.now last c.in-Some.ensures.cases.0 in
    is_same g.T.Item.key_cmp laws.total laws.exact (map g.T.Item.shows c.args.items.now) (map g.T.Item.shows c.in-Some.field-0-1.now) (g.T.Item.shows last) (g.T.Item.shows item) split (sym c.order.ensures ∙ c.in-Equal.is) (c.is_equal.ensures.same c.if-is_equal.true)

pub returns-in_default-order : goal.returns-in_default-order
returns-in_default-order g c =
    let last = c.in-Some.last.now in
    let item = c.args.item.now in
    let laws = g.met.T.Item in
    let split = mapped_last g.T.Item.shows c.args.items.now c.in-Some.field-0-1.now last c.in-Some.ensures.cases.0 in
    is_other g.T.Item.key_cmp laws.total laws.exact (map g.T.Item.shows c.args.items.now) (map g.T.Item.shows c.in-Some.field-0-1.now) (g.T.Item.shows last) (g.T.Item.shows item) split (sym c.order.ensures ∙ c.in-Equal.is) (c.is_equal.ensures.other c.if-is_equal.false)

pub returns-in_default-order-2 : goal.returns-in_default-order-2
returns-in_default-order-2 g c =
    let last = c.in-Some.last.now in
    let item = c.args.item.now in
    let laws = g.met.T.Item in
    let split = mapped_last g.T.Item.shows c.args.items.now c.in-Some.field-0-1.now last c.in-Some.ensures.cases.0 in
    is_before g.T.Item.key_cmp laws.total laws.exact (map g.T.Item.shows c.args.items.now) (map g.T.Item.shows c.in-Some.field-0-1.now) (g.T.Item.shows last) (g.T.Item.shows item) split (sym c.order.ensures ∙ c.in_default-order.is)
