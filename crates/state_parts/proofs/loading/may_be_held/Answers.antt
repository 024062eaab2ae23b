use Rattle.std.proofs.Common.{◌∙◌, sym}
use Rattle.std.proofs.lemmas.Bool.{true≢false, both_ways}
use Rattle.std.proofs.lemmas.List.{length-map}
use Rattle.std.specs.Prelude.{bytes_eq}
use Rattle.delegations.specs.Delegation.{before}
use Rattle.delegations.specs.steps.Rising.{rises}
use Rattle.delegations.proofs.KeyOrder.{orders_bytes}
use Rattle.delegations.proofs.RisingKeys.{rises_tells}
use Rattle.state_parts.specs.Views.{length_views}
use Rattle.trust_rules.proofs.OrderLines.{yes, no}
use Rattle.state_parts.proofs.loading.may_be_held.Goals as goal

pub returns-then-not-lengths_rise : goal.returns-then-not-lengths_rise
returns-then-not-lengths_rise c = (
  (λ t. absurd (true≢false (sym t))),
  (λ h. absurd (both_ways (rises before (length_views c.args.lengths.now)) (sym c.lengths_rise.ensures ∙ c.if-not-lengths_rise.true)
      ((rises_tells before bytes_eq orders_bytes (length_views c.args.lengths.now)).1 h.in_order))),
)

pub returns-then-not-has_root_or_none : goal.returns-then-not-has_root_or_none
returns-then-not-has_root_or_none c = ((λ t. absurd (true≢false (sym t))), (λ h. absurd (no c.if-not-has_root_or_none.ensures h.none)))

pub returns : goal.returns
returns c = (
  (λ t. record {
    trusted = c.requires;
    none = yes c.if-not-has_root_or_none.ensures;
    short = c.each_is_short.ensures.0 t;
    in_order = (rises_tells before bytes_eq orders_bytes (length_views c.args.lengths.now)).0 (sym c.lengths_rise.ensures ∙ c.if-not-lengths_rise.false);
    few_blobs = simp length-map c.if-lengths-gt-MOST_HELD.false;
  }),
  (λ h. c.each_is_short.ensures.1 h.short),
)
