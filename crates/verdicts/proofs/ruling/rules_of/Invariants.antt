use Rattle.std.proofs.Common.{◌≡◌, ◌++◌, ℕ, List, length, map}
use Rattle.document_parts.specs.RuleViews.{rule_view}
use Rattle.verdicts.specs.RuleCase.{AreRules, lists_view}
use Rattle.verdicts.proofs.ruling.rules_of.Given as goal

-- the lists so far are the words of the rules so far
abbrev pub invariant-lists : goal.invariant-lists
invariant-lists l = record {
  before : List (List (List ℕ));
  parted : lists_view l.fn.lists ≡ before ++ lists_view l.rest;
  read : AreRules before (map rule_view l.rules.items);
}

abbrev pub decreases-lists : goal.decreases-lists
decreases-lists l = length l.rest
