use Rattle.std.proofs.Common.{[], ◌∷◌, Ok, map, string_bytes, refl, ap, ◌∙◌, arith}
use Rattle.std.proofs.lemmas.List.{length-map, map-append}
use Rattle.denials.specs.Views.{denial_view}
use Rattle.client.specs.Views.{ended, fault_view}
use Rattle.client.specs.WantedViews.{wanted_view}
use Rattle.client.proofs.Composing.{becomes}
use Rattle.client.proofs.OneFile.{as_wanted}
use Rattle.client.proofs.Rounds.{ends_absent, ends_again, ends_denied, ends_enough, ends_failed, ends_unnoted, ends_wanting, goes_on_as, has_as, was_denied, was_granted, was_unmade}
use Rattle.client.proofs.fetching.round.Goals as goal

pub returns-in-Ok-Granted : goal.returns-in-Ok-Granted
returns-in-Ok-Granted g c = was_granted g.F.Source.gives c.args.now c.args.path.now _ _ _ c.args.source.now _ c.in-Ok-Granted.bytes c.in-Ok-Granted.field-0-is c.in-Ok-Granted.ensures

pub returns-in-Err : goal.returns-in-Err
returns-in-Err g c = was_unmade g.F.Source.gives c.args.now c.args.path.now _ _ _ c.args.source.now (fault_view c.in-Err.fault) c.in-Err.ensures.1 c.in-Err.ensures.0

pub returns-in-Ok-None : goal.returns-in-Ok-None
returns-in-Ok-None g c =
    ends_denied g.F.Source.gives c.args.now c.args.path.now _ _ _ c.args.source.now (denial_view c.in-Ok-Denied.denial)
    (rw c.in-Ok-None.field-0-is at c.in-Ok-None.ensures)
    (was_denied _ _ c.args.path.now c.args.now _ c.in-Ok-Denied.denial c.in-Ok-Denied.field-0-is c.in-Ok-Denied.ensures)

pub returns-in-Err-missing : goal.returns-in-Err-missing
returns-in-Err-missing g c =
    ends_wanting g.F.Source.gives c.args.now c.args.path.now _ _ _ c.args.source.now (denial_view c.in-Ok-Denied.denial)
    (was_denied _ _ c.args.path.now c.args.now _ c.in-Ok-Denied.denial c.in-Ok-Denied.field-0-is c.in-Ok-Denied.ensures)

pub returns-then-len-eq-MAX_NAMES : goal.returns-then-len-eq-MAX_NAMES
returns-then-len-eq-MAX_NAMES g c =
    ends_enough g.F.Source.gives c.args.now c.args.path.now _ _ _ c.args.source.now (denial_view c.in-Ok-Denied.denial) (wanted_view c.in-Ok-Some.wanted)
    (rw c.in-Ok-Some.field-0-is at c.in-Ok-Some.ensures)
    (length-map c.args.names.now.items string_bytes ∙ omega (arith, c.args.names.now.ok.0, c.if-len-eq-MAX_NAMES.true))
    (was_denied _ _ c.args.path.now c.args.now _ c.in-Ok-Denied.denial c.in-Ok-Denied.field-0-is c.in-Ok-Denied.ensures)

pub returns-then-has : goal.returns-then-has
returns-then-has g c =
    ends_again g.F.Source.gives c.args.now c.args.path.now _ _ _ c.args.source.now (denial_view c.in-Ok-Denied.denial) (wanted_view c.in-Ok-Some.wanted)
    (rw c.in-Ok-Some.field-0-is at c.in-Ok-Some.ensures)
    (has_as _ _ _ _ _ _ c.has.ensures c.if-has.true (ap (map string_bytes) c.deref.ensures.value) c.as_str.ensures.value)
    (was_denied _ _ c.args.path.now c.args.now _ c.in-Ok-Denied.denial c.in-Ok-Denied.field-0-is c.in-Ok-Denied.ensures)

pub returns-in-Ok-false : goal.returns-in-Ok-false
returns-in-Ok-false g c =
    ends_absent g.F.Source.gives c.args.now c.args.path.now _ _ _ _ c.args.source.now _ (denial_view c.in-Ok-Denied.denial) (wanted_view c.in-Ok-Some.wanted)
    (rw c.in-Ok-Some.field-0-is at c.in-Ok-Some.ensures)
    (has_as _ _ _ _ _ _ c.has.ensures c.if-has.false (ap (map string_bytes) c.deref.ensures.value) c.as_str.ensures.value)
    (omega (arith, length-map c.args.names.now.items string_bytes, c.args.names.now.ok.0, c.requires, c.if-len-eq-MAX_NAMES.false))
    (was_denied _ _ c.args.path.now c.args.now _ c.in-Ok-Denied.denial c.in-Ok-Denied.field-0-is c.in-Ok-Denied.ensures)
    (becomes _ _ c.take.ensures (λ C D took. as_wanted g.F.Source.gives _ _ _ _ _ _ _ _ _ refl (ap (ended (λ b. b)) c.in-Ok-false.is ∙ ap Ok c.in-Ok-false.field-0-test) took))

pub returns-in-Err-take : goal.returns-in-Err-take
returns-in-Err-take g c =
    ends_failed g.F.Source.gives c.args.now c.args.path.now _ _ _ _ c.args.source.now _ (denial_view c.in-Ok-Denied.denial) (wanted_view c.in-Ok-Some.wanted)
    (rw c.in-Ok-Some.field-0-is at c.in-Ok-Some.ensures)
    (has_as _ _ _ _ _ _ c.has.ensures c.if-has.false (ap (map string_bytes) c.deref.ensures.value) c.as_str.ensures.value)
    (omega (arith, length-map c.args.names.now.items string_bytes, c.args.names.now.ok.0, c.requires, c.if-len-eq-MAX_NAMES.false))
    (was_denied _ _ c.args.path.now c.args.now _ c.in-Ok-Denied.denial c.in-Ok-Denied.field-0-is c.in-Ok-Denied.ensures)
    (fault_view c.in-Err-take.fault)
    (becomes _ _ c.take.ensures (λ C D took. as_wanted g.F.Source.gives _ _ _ _ _ _ _ _ _ refl (ap (ended (λ b. b)) c.in-Err-take.is) took))

pub returns-in-Ok : goal.returns-in-Ok
returns-in-Ok g c =
    goes_on_as g.F.Source.gives c.args.now c.args.path.now _ _ _ _ c.args.source.now _ (denial_view c.in-Ok-Denied.denial) (wanted_view c.in-Ok-Some.wanted)
    (rw c.in-Ok-Some.field-0-is at c.in-Ok-Some.ensures)
    (has_as _ _ _ _ _ _ c.has.ensures c.if-has.false (ap (map string_bytes) c.deref.ensures.value) c.as_str.ensures.value)
    (omega (arith, length-map c.args.names.now.items string_bytes, c.args.names.now.ok.0, c.requires, c.if-len-eq-MAX_NAMES.false))
    (was_denied _ _ c.args.path.now c.args.now _ c.in-Ok-Denied.denial c.in-Ok-Denied.field-0-is c.in-Ok-Denied.ensures)
    _ (ap (map string_bytes) c.in-Ok.ensures.items ∙ map-append string_bytes c.args.names.now.items (c.in-Ok-Some.wanted.name ∷ []))
    (becomes _ _ c.take.ensures (λ C D took. as_wanted g.F.Source.gives _ _ _ _ _ _ _ _ _ refl (ap (ended (λ b. b)) c.in-Ok-true.is ∙ ap Ok c.in-Ok-true.field-0-test) took))

pub returns : goal.returns
returns g c =
    ends_unnoted g.F.Source.gives c.args.now c.args.path.now _ _ _ _ c.args.source.now _ (denial_view c.in-Ok-Denied.denial) (wanted_view c.in-Ok-Some.wanted)
    (rw c.in-Ok-Some.field-0-is at c.in-Ok-Some.ensures)
    (has_as _ _ _ _ _ _ c.has.ensures c.if-has.false (ap (map string_bytes) c.deref.ensures.value) c.as_str.ensures.value)
    (omega (arith, length-map c.args.names.now.items string_bytes, c.args.names.now.ok.0, c.requires, c.if-len-eq-MAX_NAMES.false))
    (was_denied _ _ c.args.path.now c.args.now _ c.in-Ok-Denied.denial c.in-Ok-Denied.field-0-is c.in-Ok-Denied.ensures)
    (becomes _ _ c.take.ensures (λ C D took. as_wanted g.F.Source.gives _ _ _ _ _ _ _ _ _ refl (ap (ended (λ b. b)) c.in-Ok-true.is ∙ ap Ok c.in-Ok-true.field-0-test) took))
