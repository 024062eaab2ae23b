use Rattle.std.proofs.Common.{◌≡◌, ◌-◌, List, [], ◌∷◌, length, take, inl, inr, refl, sym, ap, arith, rules}
use Rattle.std.proofs.lemmas.List.{length-map, length-take-le}
use Rattle.keys_roles.specs.Views.{rule_view, table_view, entry_view, entries_view}
use Rattle.keys_roles.specs.Views.{verdict_views}
use Rattle.keys_roles.proofs.Knowing.{tells, entry_at, entries_on, fewer_left}
use Rattle.keys_roles.proofs.Checking.{among_none, among_some, entry_taken, none_taken, taken_up_to}
use Rattle.keys_roles.proofs.Tops.{none_found, are_some, are_all, step_none, step_some}
use Rattle.keys_roles.proofs.meeting.count_in.Goals as goal

pub entries-init : goal.entries-init
entries-init c = record {
  found = none_found (rule_view c.args.rule.now) (table_view c.args.table.now) c.args.signed.now (entries_view c.args.signatures.now);
  few = omega arith;
  long = search rules;
  grows = omega arith;
  room = omega arith;
  left = refl;
  places = omega arith;
  upto = omega arith;
  unknown = omega arith;
  among = tt;
  taken = none_taken (rule_view c.args.rule.now) (table_view c.args.table.now) (verdict_views c.args.known.now) (entries_view c.args.signatures.now) (c.args.steps.now - c.args.steps.now) (omega arith);
}

pub returns-then-count-most-clause-counted : goal.returns-then-count-most-clause-counted
returns-then-count-most-clause-counted c =
    let long = c.entries.invariant.long in
    let few = c.entries.invariant.few in
    let count = length-take-le c.entries.count c.entries.tops (omega arith) in
    let shorter = ap length c.in-Some.ensures.cases.0 in
    are_some (rule_view c.args.rule.now) (table_view c.args.table.now) c.args.signed.now (entries_view c.args.signatures.now) (entries_view c.entries.rest.now)
    (take c.entries.count c.entries.tops) c.args.most c.entries.count c.entries.invariant.found (sym count) (omega (arith, c.if-count-most.true))
    (omega (arith, c.entries.invariant.places, c.entries.invariant.upto, shorter, length-map c.args.signatures.now entry_view))

pub entries-preserved-in-Some-counted : goal.entries-preserved-in-Some-counted
entries-preserved-in-Some-counted c =
    let at = c.in-Some.ensures.cases.0 in
    let by = c.in-Some-counted.ensures.found in
    let shorter = ap length at in
    record {
      found = step_some (rule_view c.args.rule.now) (table_view c.args.table.now) c.args.signed.now (entries_view c.args.signatures.now) (entries_view c.entries.rest.now) (entries_view c.in-Some.later.now)
          (entry_view c.in-Some.entry.now) (take c.entries.count c.entries.tops) (take c.take_in-count.result c.take_in-count.new.tops) c.in-Some-counted.top
          (ap entries_view at) c.entries.invariant.found by (λ t b. let same = c.in-Some-counted.ensures.all t b in cc) c.take_in-count.ensures.taken;
      few = omega (arith, c.take_in-count.ensures.most, c.if-count-most.false);
      long = search rules;
      grows = omega (arith, c.in-Some-counted.ensures.grows, c.entries.invariant.grows);
      room = omega (arith, c.in-Some-counted.ensures.most, c.entries.invariant.room, shorter);
      left = entries_on c.entries.place (entries_view c.args.signatures.now) (entry_view c.in-Some.entry.now) (entries_view c.in-Some.later.now) (entries_view c.entries.rest.now)
          c.entries.invariant.left (ap entries_view at);
      places = omega (arith, c.entries.invariant.places, shorter);
      upto = omega (arith, c.entries.invariant.upto, c.take_in-count.ensures.most);
      unknown = let split = fewer_left (verdict_views c.args.known.now) (rule_view c.args.rule.now) (table_view c.args.table.now) c.entries.place (entries_view c.entries.rest.now)
          (entry_view c.in-Some.entry.now) (entries_view c.in-Some.later.now) (ap entries_view at) in
          omega (arith, split, c.in-Some-counted.ensures.unknown, c.entries.invariant.unknown);
      among = among_some (rule_view c.args.rule.now) (table_view c.args.table.now) c.args.signed.now (entries_view c.args.signatures.now) c.entries.place (entry_view c.in-Some.entry.now)
          (take c.entries.count c.entries.tops) (take c.take_in-count.result c.take_in-count.new.tops) c.in-Some-counted.top
          (entry_at c.entries.place (entries_view c.args.signatures.now) (entry_view c.in-Some.entry.now) (entries_view c.in-Some.later.now) (entries_view c.entries.rest.now)
          c.entries.invariant.left (ap entries_view at)) by c.take_in-count.ensures.taken c.entries.invariant.among;
      taken = entry_taken (rule_view c.args.rule.now) (table_view c.args.table.now) (verdict_views c.args.known.now) (entries_view c.args.signatures.now) c.entries.place
          (entries_view c.entries.rest.now) (entry_view c.in-Some.entry.now) (entries_view c.in-Some.later.now) (c.entries.steps - c.args.steps.now) (c.counted.new.steps - c.entries.steps)
          (c.counted.new.steps - c.args.steps.now) (ap entries_view at) c.entries.invariant.taken c.in-Some-counted.ensures.checked
          (omega (arith, c.in-Some-counted.ensures.grows, c.entries.invariant.grows));
    }

pub entries-preserved : goal.entries-preserved
entries-preserved c =
    let at = c.in-Some.ensures.cases.0 in
    let shorter = ap length at in
    record {
      found = step_none (rule_view c.args.rule.now) (table_view c.args.table.now) c.args.signed.now (entries_view c.args.signatures.now) (entries_view c.entries.rest.now) (entries_view c.in-Some.later.now)
          (entry_view c.in-Some.entry.now) (take c.entries.count c.entries.tops)
          (ap entries_view at) c.entries.invariant.found (λ t b. let same = c.in_default-counted.ensures.all t b in let is = c.in_default-counted.is in absurd (cc));
      few = c.entries.invariant.few;
      long = c.entries.invariant.long;
      grows = omega (arith, c.counted.ensures.grows, c.entries.invariant.grows);
      room = omega (arith, c.counted.ensures.most, c.entries.invariant.room, shorter);
      left = entries_on c.entries.place (entries_view c.args.signatures.now) (entry_view c.in-Some.entry.now) (entries_view c.in-Some.later.now) (entries_view c.entries.rest.now)
          c.entries.invariant.left (ap entries_view at);
      places = omega (arith, c.entries.invariant.places, shorter);
      upto = omega (arith, c.entries.invariant.upto);
      unknown = let split = fewer_left (verdict_views c.args.known.now) (rule_view c.args.rule.now) (table_view c.args.table.now) c.entries.place (entries_view c.entries.rest.now)
          (entry_view c.in-Some.entry.now) (entries_view c.in-Some.later.now) (ap entries_view at) in
          omega (arith, split, c.counted.ensures.unknown, c.entries.invariant.unknown);
      among = among_none (rule_view c.args.rule.now) (table_view c.args.table.now) c.args.signed.now (entries_view c.args.signatures.now) c.entries.place
          (take c.entries.count c.entries.tops) c.entries.invariant.among;
      taken = entry_taken (rule_view c.args.rule.now) (table_view c.args.table.now) (verdict_views c.args.known.now) (entries_view c.args.signatures.now) c.entries.place
          (entries_view c.entries.rest.now) (entry_view c.in-Some.entry.now) (entries_view c.in-Some.later.now) (c.entries.steps - c.args.steps.now) (c.counted.new.steps - c.entries.steps)
          (c.counted.new.steps - c.args.steps.now) (ap entries_view at) c.entries.invariant.taken c.counted.ensures.checked
          (omega (arith, c.counted.ensures.grows, c.entries.invariant.grows));
    }

none_left : {X : Type 0} → (xs : List X) → length xs ≡ 0 → xs ≡ []
none_left [] h = refl
none_left (x ∷ xs) h = absurd (omega (arith, h))

pub returns-clause-counted : goal.returns-clause-counted
returns-clause-counted c =
    let long = c.entries.invariant.long in
    let few = c.entries.invariant.few in
    let count = length-take-le c.entries.count c.entries.tops (omega arith) in
    are_all (rule_view c.args.rule.now) (table_view c.args.table.now) c.args.signed.now (entries_view c.args.signatures.now) (entries_view c.entries.rest.now)
    (take c.entries.count c.entries.tops) c.args.most c.entries.count c.entries.invariant.found (sym count) (ap entries_view (none_left c.entries.rest.now c.in_default.ensures.cases))

pub counted-requires-clause-sound : goal.counted-requires-clause-sound
counted-requires-clause-sound c =
    let at = c.in-Some.ensures.cases.0 in
    tells c.args.signed.now (entries_view c.args.signatures.now) c.entries.place (entry_view c.in-Some.entry.now) (verdict_views c.args.known.now)
    (entry_at c.entries.place (entries_view c.args.signatures.now) (entry_view c.in-Some.entry.now) (entries_view c.in-Some.later.now) (entries_view c.entries.rest.now)
    c.entries.invariant.left (ap entries_view at)) c.requires.sound

pub returns-then-count-most-clause-checked : goal.returns-then-count-most-clause-checked
returns-then-count-most-clause-checked c =
    let count = length-take-le c.entries.count c.entries.tops (omega arith) in
    record {
      n = c.entries.place;
      taken = taken_up_to (rule_view c.args.rule.now) (table_view c.args.table.now) (verdict_views c.args.known.now) (entries_view c.args.signatures.now) c.entries.place
          (c.entries.steps - c.args.steps.now) (entries_view c.entries.rest.now) c.entries.invariant.taken;
      ended = inr (
        omega (arith, c.if-count-most.true),
        record {
          keys = take c.entries.count c.entries.tops;
          distinct = c.entries.invariant.found.distinct;
          many = sym count;
          each = c.entries.invariant.among;
        },
      );
    }

pub returns-clause-checked : goal.returns-clause-checked
returns-clause-checked c = record {
  n = c.entries.place;
  taken = taken_up_to (rule_view c.args.rule.now) (table_view c.args.table.now) (verdict_views c.args.known.now) (entries_view c.args.signatures.now) c.entries.place
      (c.entries.steps - c.args.steps.now) (entries_view c.entries.rest.now) c.entries.invariant.taken;
  ended = inl (omega (arith, c.entries.invariant.places, c.in_default.ensures.cases, length-map c.args.signatures.now entry_view));
}
