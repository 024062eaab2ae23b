use Rattle.std.proofs.Common.{◌∷◌, []}
use Rattle.drafting.proofs.Alike.{alike_self}
use Rattle.drafting.proofs.Rows.{no_object, object_at, removed_one, shown}
use Rattle.drafting.proofs.members.take_object.Goals as goal

pub returns-in_default-clause-object : goal.returns-in_default-clause-object
returns-in_default-clause-object c =
    no_object c.args.members.now.items c.deref.result.now c.new.result.items c.args.name.now c.deref.ensures.value c.in_default.ensures c.new.ensures.items

pub returns-clause-object : goal.returns-clause-object
returns-clause-object c =
    object_at c.args.members.now.items c.deref.result.now c.into_members.result.items c.in-Some.at c.args.name.now c.remove-name.result c.deref.ensures.value c.in-Some.ensures
    c.remove-name.ensures.value c.into_members.ensures

pub returns-clause-others : goal.returns-clause-others
returns-clause-others c =
    removed_one (shown c.args.members.now.items) c.args.members.now.items c.deref.result.now c.remove-name.new.self.items c.in-Some.at c.args.name.now
    c.deref.ensures.value c.remove-name.ensures.items c.in-Some.ensures (alike_self (c.args.name.now ∷ []) (shown c.args.members.now.items))
