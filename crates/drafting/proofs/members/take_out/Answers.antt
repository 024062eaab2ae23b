use Rattle.std.proofs.Common.{◌∷◌, []}
use Rattle.drafting.specs.Members.{without}
use Rattle.drafting.specs.steps.Rows.{rows_view}
use Rattle.drafting.proofs.Without.{without_all, without_one}
use Rattle.drafting.proofs.Rows.{removed_one, shown, taken_out}
use Rattle.drafting.proofs.members.take_out.Goals as goal

pub members-preserved-in-Some : goal.members-preserved-in-Some
members-preserved-in-Some c =
    record {
      alike = removed_one (shown c.args.members.now.items) c.members.members.items c.deref.result.now c.remove.new.self.items c.in-Some.at c.args.name.now
          c.deref.ensures.value c.remove.ensures.items c.in-Some.ensures c.members.invariant.alike;
      rest = without_one (without (c.args.name.now ∷ []) (rows_view c.args.members.now.items)) c.members.members.items c.deref.result.now c.remove.new.self.items c.in-Some.at c.args.name.now
          c.deref.ensures.value c.remove.ensures.items c.in-Some.ensures c.members.invariant.rest;
    }

pub members-preserved-in-Some-2 : goal.members-preserved-in-Some-2
members-preserved-in-Some-2 c =
    record {
      alike = removed_one (shown c.args.members.now.items) c.members.members.items c.deref.result.now c.remove.new.self.items c.in-Some.at c.args.name.now
          c.deref.ensures.value c.remove.ensures.items c.in-Some.ensures c.members.invariant.alike;
      rest = without_one (without (c.args.name.now ∷ []) (rows_view c.args.members.now.items)) c.members.members.items c.deref.result.now c.remove.new.self.items c.in-Some.at c.args.name.now
          c.deref.ensures.value c.remove.ensures.items c.in-Some.ensures c.members.invariant.rest;
    }

pub members-preserved-in-Some-3 : goal.members-preserved-in-Some-3
members-preserved-in-Some-3 c =
    record {
      alike = removed_one (shown c.args.members.now.items) c.members.members.items c.deref.result.now c.remove.new.self.items c.in-Some.at c.args.name.now
          c.deref.ensures.value c.remove.ensures.items c.in-Some.ensures c.members.invariant.alike;
      rest = without_one (without (c.args.name.now ∷ []) (rows_view c.args.members.now.items)) c.members.members.items c.deref.result.now c.remove.new.self.items c.in-Some.at c.args.name.now
          c.deref.ensures.value c.remove.ensures.items c.in-Some.ensures c.members.invariant.rest;
    }

pub members-preserved : goal.members-preserved
members-preserved c =
    record {
      alike = removed_one (shown c.args.members.now.items) c.members.members.items c.deref.result.now c.remove.new.self.items c.in-Some.at c.args.name.now
          c.deref.ensures.value c.remove.ensures.items c.in-Some.ensures c.members.invariant.alike;
      rest = without_one (without (c.args.name.now ∷ []) (rows_view c.args.members.now.items)) c.members.members.items c.deref.result.now c.remove.new.self.items c.in-Some.at c.args.name.now
          c.deref.ensures.value c.remove.ensures.items c.in-Some.ensures c.members.invariant.rest;
    }

pub returns-clause-dropped : goal.returns-clause-dropped
returns-clause-dropped c =
    taken_out (shown c.args.members.now.items) c.members.members.items c.deref.result.now c.args.name.now c.deref.ensures.value c.in_default.ensures c.members.invariant.alike

pub returns-clause-rest : goal.returns-clause-rest
returns-clause-rest c =
    without_all (without (c.args.name.now ∷ []) (rows_view c.args.members.now.items)) c.members.members.items c.deref.result.now c.args.name.now c.deref.ensures.value c.in_default.ensures c.members.invariant.rest
