use Rattle.std.proofs.Common.{sym}
use Rattle.std.proofs.lemmas.Bool.{true≢false}
use Rattle.std.proofs.lemmas.List.{length-map}
use Rattle.trust_rules.proofs.OrderLines.{yes, no}
use Rattle.state_parts.proofs.loading.is_shelf.Goals as goal

pub returns-then-not-are_in_order : goal.returns-then-not-are_in_order
returns-then-not-are_in_order c = ((λ t. absurd (true≢false (sym t))), (λ a. absurd (no c.if-not-are_in_order.ensures a.in_order)))

pub returns : goal.returns
returns c = (
  (λ t. record {
    each = c.each_is_row.ensures.0 t;
    in_order = yes c.if-not-are_in_order.ensures;
    few = simp length-map c.if-rows-gt-MOST_HELD.false;
  }),
  (λ a. c.each_is_row.ensures.1 a.each),
)
