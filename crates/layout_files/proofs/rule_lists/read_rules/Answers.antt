use Rattle.std.proofs.Common.{refl, inr, map, arith}
use Rattle.canonical_json.specs.View.{view, items_view}
use Rattle.document_parts.specs.Bodies.{IsListedRule}
use Rattle.document_parts.specs.RuleViews.{rule_view}
use Rattle.document_parts.proofs.Growing.{array_len, items_len}
use Rattle.layout_files.proofs.rule_lists.read_rules.Goals as goal

pub returns-then-items-gt-MOST_RULES-clause-err : goal.returns-then-items-gt-MOST_RULES-clause-err
returns-then-items-gt-MOST_RULES-clause-err c = inr (
  refl,
  λ t.
      let count = array_len IsListedRule (view c.args.value.now) c.in-Some.items.now t.0 c.in-Some.ensures t.1.0 in
      absurd (omega (arith, count, t.1.1)),
)

pub returns-clause-ok : goal.returns-clause-ok
returns-clause-ok c =
    let count = items_len IsListedRule c.in-Some.items.now (map rule_view c.in_ok-rules.rules.items) c.in_ok-rules.ensures.ok in
    ((items_view c.in-Some.items.now, c.in-Some.ensures, c.in_ok-rules.ensures.ok), omega (arith, count))
