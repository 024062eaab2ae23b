use Rattle.std.proofs.Common.{◌≡◌, ◌∙◌, ap, refl, sym, subst}
use Rattle.trust_rules.specs.Held.{Held, IsHeld}
use Rattle.state_parts.specs.Views.{length_views, trusted_view}
use Rattle.trust_rules.proofs.HeldStates.{both_held}
use Rattle.trust_rules.proofs.LoadedHeld.{loaded_with, none_held, none_with}
use Rattle.trust_rules.proofs.OrderLines.{yes, no}
use Rattle.trust_rules.proofs.ShapedOnce.{Shapes}
use Rattle.trusted_state.proofs.held.Held.load.Goals as goal

pub returns-in_default-clause-none : goal.returns-in_default-clause-none
returns-in_default-clause-none c rows lengths = none_with c.args.metadata rows (rw (c.in_default.is, c.new.ensures.items) at c.in_ok-state.ensures.none)

pub returns-then-not-may_be_held-clause-none : goal.returns-then-not-may_be_held-clause-none
returns-then-not-may_be_held-clause-none c rows lengths =
    let law : Shapes = record { document = c.one_document.ensures; none = c.one_shape.ensures.none; one = c.one_shape.ensures.one } in
    let tested : Held = record { trusted = trusted_view c.trusted.result.now; blobs = length_views c.deref.result.now } in
    let same : tested ≡ record { trusted = trusted_view c.trusted.result.now; blobs = c.args.blobs.items } = both_held refl (ap length_views c.deref.ensures.value ∙ c.in_ok-lengths.ensures) in
    none_held c.args.metadata law c.in-Some.state.state c.is_valid.ensures (rw (c.in-Some.is, c.new.ensures.items) at c.in_ok-state.ensures.some)
    (c.trusted.ensures.view ∙ ap (λ (H : Held). H.trusted) c.held.ensures.held)
    (λ h. no {P = IsHeld tested} c.if-not-may_be_held.ensures (subst IsHeld (sym same) h)) rows lengths

pub returns-clause-some : goal.returns-clause-some
returns-clause-some c =
    let tested : Held = record { trusted = trusted_view c.trusted.result.now; blobs = length_views c.deref.result.now } in
    let view : trusted_view c.trusted.result.now ≡ c.in-Some.state.state.trusted = c.trusted.ensures.view ∙ ap (λ (H : Held). H.trusted) c.held.ensures.held in
    let same : tested ≡ c.with_lengths.result.held = both_held view (ap length_views c.deref.ensures.value) ∙ sym c.with_lengths.ensures in
    let valid : IsHeld tested = yes c.if-not-may_be_held.ensures in
    loaded_with c.args.metadata c.in-Some.state.state (rw (c.in-Some.is, c.new.ensures.items) at c.in_ok-state.ensures.some)
    (c.with_lengths.ensures ∙ both_held refl c.in_ok-lengths.ensures) (subst IsHeld same valid)
