use Rattle.std.proofs.Common.{◌≡◌, ℤ, pos, subst, ap, ◌∙◌, sym, unsigned_abs, arith}
use Rattle.std.specs.Int.{FitsUnsignedBits}
use Rattle.std.proofs.lemmas.Option.{IfSome_then}
use Rattle.document_parts.specs.Dates.{IsShown}
use Rattle.document_parts.proofs.Instants.{shown_nanos, shown_from, plain_date, plain_time, in_range, second_is, nanos_are, second_fits, kept, unsigned, new_is}
use Rattle.document_parts.proofs.dates.moment_at.Goals as goal

pub returns-in_default-to_timestamp-clause-only : goal.returns-in_default-to_timestamp-clause-only
returns-in_default-to_timestamp-clause-only c =
    λ seconds s.
    let shown = c.in-Ok.shown in
    let parts = c.in-Ok.ensures.value in
    let date = plain_date c.args.year c.args.month c.args.day shown.date c.requires.year c.requires.month c.requires.day parts.0 in
    let time = plain_time c.args.hour c.args.minute c.args.second shown.time c.requires.hour c.requires.minute c.requires.second parts.1 in
    let nanos = shown_nanos _ _ _ _ _ _ seconds shown s date time in
    let no = c.in_default-to_timestamp.ensures.succeeds.1 (in_range _ seconds nanos.0 nanos.1) in
    cc

pub returns-in_default-try_from-clause-only : goal.returns-in_default-try_from-clause-only
returns-in_default-try_from-clause-only c =
    λ seconds s.
    let shown = c.in-Ok.shown in
    let parts = c.in-Ok.ensures.value in
    let date = plain_date c.args.year c.args.month c.args.day shown.date c.requires.year c.requires.month c.requires.day parts.0 in
    let time = plain_time c.args.hour c.args.minute c.args.second shown.time c.requires.hour c.requires.minute c.requires.second parts.1 in
    let nanos = shown_nanos _ _ _ _ _ _ seconds shown s date time in
    let second = second_is _ _ _ seconds nanos.0 c.in-Ok-to_timestamp.ensures.value c.as_second.ensures in
    let same = kept c.as_second.result seconds second nanos.1 in
    let bound = nanos.1 in
    let few : FitsUnsignedBits 64 (pos seconds) = omega arith in
    absurd (c.in_default-try_from.ensures (subst (λ (z : ℤ). FitsUnsignedBits 64 z) (sym same) few))

pub returns-clause-only : goal.returns-clause-only
returns-clause-only c =
    λ seconds s.
    let shown = c.in-Ok.shown in
    let parts = c.in-Ok.ensures.value in
    let date = plain_date c.args.year c.args.month c.args.day shown.date c.requires.year c.requires.month c.requires.day parts.0 in
    let time = plain_time c.args.hour c.args.minute c.args.second shown.time c.requires.hour c.requires.minute c.requires.second parts.1 in
    let nanos = shown_nanos _ _ _ _ _ _ seconds shown s date time in
    let second = second_is _ _ _ seconds nanos.0 c.in-Ok-to_timestamp.ensures.value c.as_second.ensures in
    let same = kept c.as_second.result seconds second nanos.1 in
    let given : c.in-Ok-try_from.seconds ≡ seconds = c.in-Ok-try_from.ensures.1 ∙ ap unsigned_abs same in
    new_is c.new-2.result c.in-Ok-try_from.seconds seconds c.new-2.ensures.some c.new-2.ensures.none given nanos.1

pub returns-clause-some : goal.returns-clause-some
returns-clause-some c =
    let shown = c.in-Ok.shown in
    let parts = c.in-Ok.ensures.value in
    let date = plain_date c.args.year c.args.month c.args.day shown.date c.requires.year c.requires.month c.requires.day parts.0 in
    let time = plain_time c.args.hour c.args.minute c.args.second shown.time c.requires.hour c.requires.minute c.requires.second parts.1 in
    let whole : shown.time.subsec_nanosecond ≡ 0 = cc in
    let fits = second_fits c.in-Ok-to_timestamp.instant.nanosecond c.as_second.result c.in-Ok-to_timestamp.instant.in_range c.as_second.ensures in
    let second = unsigned c.as_second.result c.in-Ok-try_from.seconds fits c.in-Ok-try_from.ensures.0 c.in-Ok-try_from.ensures.1 in
    let nanos = nanos_are shown _ _ _ whole c.in-Ok-to_timestamp.ensures.value c.as_second.ensures second in
    let is = shown_from _ _ _ _ _ _ c.in-Ok-try_from.seconds shown c.if-year-lt-FIRST_YEAR.false c.if-year-gt-LAST_YEAR.false date time nanos in
    IfSome_then c.new-2.result c.new-2.ensures.some (λ m e. subst (IsShown c.args.year c.args.month c.args.day c.args.hour c.args.minute c.args.second) (sym e.0) is)
