use Rattle.std.proofs.Common.{◌≡◌, ◌+◌, ◌-◌, ◌≤◌, drop, length, take}
use Rattle.keys_roles.specs.Verdicts.{pairs, pairs_from, unknown}
use Rattle.keys_roles.specs.Views.{rule_view, table_view, entries_view, verdict_views}
use Rattle.keys_roles.proofs.Checking.{Among, HasTaken}
use Rattle.keys_roles.proofs.Tops.{AreFound}
use Rattle.keys_roles.proofs.meeting.count_in.Given as goal

abbrev pub invariant-entries : goal.invariant-entries
invariant-entries l = record {
  found : AreFound (rule_view l.rule) (table_view l.table) l.signed (entries_view l.signatures) (entries_view l.rest) (take l.count l.tops);
  few : l.count ≤ l.most;
  long : length l.tops ≡ length l.fn.tops;
  grows : l.fn.steps ≤ l.steps;
  room : l.steps + length l.rest ≤ l.fn.steps + length l.signatures;
  left : drop l.place (entries_view l.signatures) ≡ entries_view l.rest;
  upto : l.count ≤ l.place;
  places : l.place + length l.rest ≡ length l.signatures;
  unknown : l.steps + unknown (verdict_views l.known) (pairs_from (rule_view l.rule) (table_view l.table) l.place (entries_view l.rest))
      ≤ l.fn.steps + unknown (verdict_views l.known) (pairs (rule_view l.rule) (table_view l.table) (entries_view l.signatures));
  among : Among (rule_view l.rule) (table_view l.table) l.signed (entries_view l.signatures) l.place (take l.count l.tops);
  taken : HasTaken (rule_view l.rule) (table_view l.table) (verdict_views l.known) (entries_view l.signatures) l.place (entries_view l.rest) (l.steps - l.fn.steps);
}

abbrev pub decreases-entries : goal.decreases-entries
decreases-entries l = length l.rest
