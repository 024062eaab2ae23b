use Rattle.drafting.specs.Roots.{IsNamed}
use Rattle.drafting.proofs.Holders.{keeps_all, loses_none, loses_one}
use Rattle.drafting.proofs.Rows.{shown}
use Rattle.drafting.proofs.named.keep_named.Goals as goal

pub table-preserved-in-Some : goal.table-preserved-in-Some
table-preserved-in-Some c =
    loses_one (IsNamed (shown c.args.roles.now)) (shown c.args.table.now.items) c.table.table.items c.deref.result.now c.remove.new.self.items c.in-Some.at
    c.deref.ensures.value c.remove.ensures.items c.in-Some.ensures c.table.invariant

pub table-preserved-in-Some-2 : goal.table-preserved-in-Some-2
table-preserved-in-Some-2 c =
    loses_one (IsNamed (shown c.args.roles.now)) (shown c.args.table.now.items) c.table.table.items c.deref.result.now c.remove.new.self.items c.in-Some.at
    c.deref.ensures.value c.remove.ensures.items c.in-Some.ensures c.table.invariant

pub table-preserved-in-Some-3 : goal.table-preserved-in-Some-3
table-preserved-in-Some-3 c =
    loses_one (IsNamed (shown c.args.roles.now)) (shown c.args.table.now.items) c.table.table.items c.deref.result.now c.remove.new.self.items c.in-Some.at
    c.deref.ensures.value c.remove.ensures.items c.in-Some.ensures c.table.invariant

pub table-preserved : goal.table-preserved
table-preserved c =
    loses_one (IsNamed (shown c.args.roles.now)) (shown c.args.table.now.items) c.table.table.items c.deref.result.now c.remove.new.self.items c.in-Some.at
    c.deref.ensures.value c.remove.ensures.items c.in-Some.ensures c.table.invariant

pub table-init : goal.table-init
table-init c = loses_none (IsNamed (shown c.args.roles.now)) (shown c.args.table.now.items)

pub returns : goal.returns
returns c =
    keeps_all (IsNamed (shown c.args.roles.now)) (shown c.args.table.now.items) c.table.table.items c.deref.result.now c.deref.ensures.value c.in_default.ensures c.table.invariant
