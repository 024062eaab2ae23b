use Rattle.std.proofs.Common.{◌∷◌, []}
use Rattle.drafting.proofs.Alike.{alike_self}
use Rattle.drafting.proofs.Rows.{list_at, no_list, removed_one, shown}
use Rattle.drafting.proofs.members.take_list.Goals as goal

pub returns-in_default-clause-list : goal.returns-in_default-clause-list
returns-in_default-clause-list c =
    no_list c.args.members.now.items c.deref.result.now c.new.result.items c.args.name.now c.deref.ensures.value c.in_default.ensures c.new.ensures.items

pub returns-clause-list : goal.returns-clause-list
returns-clause-list c =
    list_at c.args.members.now.items c.deref.result.now c.into_items.result.items c.in-Some.at c.args.name.now c.remove-name.result c.deref.ensures.value c.in-Some.ensures
    c.remove-name.ensures.value c.into_items.ensures

pub returns-clause-others : goal.returns-clause-others
returns-clause-others c =
    removed_one (shown c.args.members.now.items) c.args.members.now.items c.deref.result.now c.remove-name.new.self.items c.in-Some.at c.args.name.now
    c.deref.ensures.value c.remove-name.ensures.items c.in-Some.ensures (alike_self (c.args.name.now ∷ []) (shown c.args.members.now.items))
