use Rattle.std.proofs.Common.{◌≡◌, ◌↔◌, ◌++◌, ◌+◌, ◌≤◌, drop, length, map}
use Rattle.keys_roles.specs.Rules.{AreDistinct}
use Rattle.keys_roles.specs.Verdicts.{AreVerdicts, Pair, pairs, pairs_from, unknown}
use Rattle.keys_roles.specs.Views.{entries_view, rule_view, table_view, verdict_views}
use Rattle.keys_roles.specs.steps.Counting.{IsIn}
use Rattle.keys_roles.proofs.verdicts.with_verdicts.Given as goal

abbrev pub invariant-entries : goal.invariant-entries
invariant-entries l = record {
  left : drop l.place (entries_view l.signatures) ≡ entries_view l.rest;
  few : l.place + length l.rest ≡ length l.signatures;
  all : (p : Pair) → IsIn (map (λ v. v.pair) (verdict_views l.verdicts.items) ++ pairs_from (rule_view l.rule) (table_view l.table) l.place (entries_view l.rest)) p
      ↔ IsIn (map (λ v. v.pair) (verdict_views l.fn.verdicts.items) ++ pairs (rule_view l.rule) (table_view l.table) (entries_view l.signatures)) p;
  sound : AreVerdicts l.signed (entries_view l.signatures) (verdict_views l.verdicts.items);
  distinct : AreDistinct (map (λ v. v.pair) (verdict_views l.verdicts.items));
  grows : l.fn.steps ≤ l.steps;
  room : l.steps + length l.rest ≤ l.fn.steps + length l.signatures;
  unknown : l.steps + unknown (verdict_views l.known) (pairs_from (rule_view l.rule) (table_view l.table) l.place (entries_view l.rest))
      ≤ l.fn.steps + unknown (verdict_views l.known) (pairs (rule_view l.rule) (table_view l.table) (entries_view l.signatures));
}

abbrev pub decreases-entries : goal.decreases-entries
decreases-entries l = length l.rest
