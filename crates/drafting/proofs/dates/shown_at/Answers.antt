use Rattle.std.proofs.Common.{◌≡◌, ℤ, pos, ◌*ℤ◌, ◌≤ℤ◌, ◌<ℤ◌, to_z, of_z, w8, w16, w64, FitsSigned, rules, sym, ap, ◌∙◌, subst, arith, unsigned_abs}
use Rattle.std.proofs.lemmas.Int.{to_z_pos, to_z-of_z}
use Rattle.jiff.specs.Words.{IsTimestampNanos}
use Rattle.drafting.proofs.Moments.{below_is, in_range, nanos_are, not_below, shown_at as is_shown, too_early, too_late}
use Rattle.drafting.proofs.dates.shown_at.Goals as goal
use Rattle.drafting.proofs.dates.shown_at.Goals.{then-year-lt-FIRST_YEAR-via-then-year-lt-FIRST_YEAR, then-year-lt-FIRST_YEAR-via-else-year-lt-FIRST_YEAR+then-year-gt-LAST_YEAR}

pub returns-in_default-clause-none : goal.returns-in_default-clause-none
returns-in_default-clause-none c =
    λ t d.
    let limit = c.seconds.ensures.limit in
    let second : to_z w64 c.seconds.result ≡ pos c.args.moment = to_z_pos w64 c.seconds.result (omega arith) ∙ ap pos c.seconds.ensures.value in
    let ok = c.in_default.ensures.succeeds.1 (subst (λ (z : ℤ). IsTimestampNanos (z *ℤ pos 1000000000)) (sym second) (in_range t c.args.moment d)) in
    cc

pub returns-then-year-lt-FIRST_YEAR-clause-none : goal.returns-then-year-lt-FIRST_YEAR-clause-none
returns-then-year-lt-FIRST_YEAR-clause-none c =
    λ t d.
    let limit = c.seconds.ensures.limit in
    let second : to_z w64 c.seconds.result ≡ pos c.args.moment = to_z_pos w64 c.seconds.result (omega arith) ∙ ap pos c.seconds.ensures.value in
    let fits : FitsSigned w16 c.year-year.result = search rules in
    let same : to_z w16 (of_z w16 c.year-year.result) ≡ c.year-year.result = to_z-of_z w16 c.year-year.result fits in
    let dt = c.to_datetime-shown.result in
    let nanos = nanos_are _ _ (to_z w64 c.seconds.result) c.args.moment c.to_datetime-shown.ensures c.in-Ok.ensures.value second in
    elim c.then-year-lt-FIRST_YEAR.branch [
      | then-year-lt-FIRST_YEAR-via-then-year-lt-FIRST_YEAR w ↦ too_early t c.args.moment dt nanos (subst (λ (z : ℤ). z <ℤ pos 1970) (same ∙ c.year-year.ensures) (below_is _ _ w.if-year-lt-FIRST_YEAR.true)) d
      | then-year-lt-FIRST_YEAR-via-else-year-lt-FIRST_YEAR+then-year-gt-LAST_YEAR w ↦ too_late t c.args.moment dt nanos (subst (λ (z : ℤ). pos 9998 <ℤ z) (same ∙ c.year-year.ensures) (below_is _ _ w.if-year-gt-LAST_YEAR.true)) d
    ]

pub returns-clause-some : goal.returns-clause-some
returns-clause-some c =
    let limit = c.seconds.ensures.limit in
    let second : to_z w64 c.seconds.result ≡ pos c.args.moment = to_z_pos w64 c.seconds.result (omega arith) ∙ ap pos c.seconds.ensures.value in
    let fits : FitsSigned w16 c.year-year.result = search rules in
    let same : to_z w16 (of_z w16 c.year-year.result) ≡ c.year-year.result = to_z-of_z w16 c.year-year.result fits in
    let fits-2 : FitsSigned w8 c.month.result = search rules in
    let fits-3 : FitsSigned w8 c.day.result = search rules in
    let fits-4 : FitsSigned w8 c.hour.result = search rules in
    let fits-5 : FitsSigned w8 c.minute.result = search rules in
    let fits-6 : FitsSigned w8 c.second.result = search rules in
    let dt = c.to_datetime-shown.result in
    let nanos = nanos_are _ _ (to_z w64 c.seconds.result) c.args.moment c.to_datetime-shown.ensures c.in-Ok.ensures.value second in
    is_shown c.args.moment dt c.unsigned_abs.result c.unsigned_abs-2.result c.unsigned_abs-3.result c.unsigned_abs-4.result c.unsigned_abs-5.result c.unsigned_abs-6.result nanos
    (subst (λ (z : ℤ). pos 1970 ≤ℤ z) (same ∙ c.year-year.ensures) (not_below _ _ c.if-year-lt-FIRST_YEAR.false))
    (subst (λ (z : ℤ). z ≤ℤ pos 9998) (same ∙ c.year-year.ensures) (not_below _ _ c.if-year-gt-LAST_YEAR.false))
    (c.unsigned_abs.ensures.value ∙ ap unsigned_abs (same ∙ c.year-year.ensures))
    (c.unsigned_abs-2.ensures.value ∙ ap unsigned_abs (to_z-of_z w8 c.month.result fits-2 ∙ c.month.ensures))
    (c.unsigned_abs-3.ensures.value ∙ ap unsigned_abs (to_z-of_z w8 c.day.result fits-3 ∙ c.day.ensures))
    (c.unsigned_abs-4.ensures.value ∙ ap unsigned_abs (to_z-of_z w8 c.hour.result fits-4 ∙ c.hour.ensures))
    (c.unsigned_abs-5.ensures.value ∙ ap unsigned_abs (to_z-of_z w8 c.minute.result fits-5 ∙ c.minute.ensures))
    (c.unsigned_abs-6.ensures.value ∙ ap unsigned_abs (to_z-of_z w8 c.second.result fits-6 ∙ c.second.ensures))
