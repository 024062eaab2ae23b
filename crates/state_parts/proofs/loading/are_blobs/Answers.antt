use Rattle.std.proofs.Common.{sym, ◌∙◌}
use Rattle.std.proofs.lemmas.Bool.{true≢false, both_ways}
use Rattle.std.proofs.lemmas.List.{length-map}
use Rattle.std.specs.Prelude.{bytes_eq}
use Rattle.delegations.specs.Delegation.{before}
use Rattle.delegations.specs.steps.Rising.{rises}
use Rattle.state_parts.specs.Views.{blob_views}
use Rattle.delegations.proofs.KeyOrder.{orders_bytes}
use Rattle.delegations.proofs.RisingKeys.{rises_tells}
use Rattle.state_parts.proofs.loading.are_blobs.Goals as goal

pub returns-then-not-blobs_rise : goal.returns-then-not-blobs_rise
returns-then-not-blobs_rise c = (
  (λ t. absurd (true≢false (sym t))),
  (λ a. absurd (both_ways (rises before (blob_views c.args.blobs.now)) (sym c.blobs_rise.ensures ∙ c.if-not-blobs_rise.true)
      ((rises_tells before bytes_eq orders_bytes (blob_views c.args.blobs.now)).1 a.in_order))),
)

pub returns : goal.returns
returns c = (
  (λ t. record {
    each = c.each_is_blob.ensures.0 t;
    in_order = (rises_tells before bytes_eq orders_bytes (blob_views c.args.blobs.now)).0 (sym c.blobs_rise.ensures ∙ c.if-not-blobs_rise.false);
    few = simp length-map c.if-blobs-gt-MOST_HELD.false;
  }),
  (λ a. c.each_is_blob.ensures.1 a.each),
)
