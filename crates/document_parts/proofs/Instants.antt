-- A date and time of the calendar, and the seconds from the start of 1970 to it.
use Rattle.std.proofs.Common.{◌≡◌, ℕ, ℤ, pos, ◌*◌, ◌<◌, ◌≤◌, ◌+ℤ◌, ◌-ℤ◌, ◌*ℤ◌, ◌<ℤ◌, inl, arith, rules, sym, ◌∙◌, ap, to_z, of_z, w8, w16, w64, FitsSigned, negsuc, neg_ℤ, suc, unsigned_abs, Option, Some, None, IfSome, IfNone}
use Rattle.std.proofs.lemmas.Int.{ints, to_z_pos, to_z-of_z}
use Rattle.std.specs.Int.{FitsUnsignedBits}
use Rattle.std.specs.Int.RustNames.{int_div}
use Rattle.jiff.specs.Types.{Date, DateTime, Time}
use Rattle.jiff.specs.Words.{epoch_day, civil_nanos, civil_seconds, IsYmd, IsHms, IsTimestampNanos}
use Rattle.jiff.proofs.Family.{epoch_day-lt, epoch_day_same, days_from_civil-day, days_from_civil-max, civil_nanos-parts, civil_nanos-civil_seconds}
use Rattle.jiff.proofs.SpanFacts.{signed_arith}
use Rattle.document_parts.specs.Dates.{IsShown, last_moment}

-- a day of the years before 9999 lies before its December
pub early_enough : (d : Date) (year : ℕ) → d.year ≡ pos year → year ≤ 9998 → epoch_day d <ℤ pos 2932867
early_enough d year e h =
    let december : Date = record { year = pos 9999; month = 12; day = 1; year_in = (search rules, search rules); month_in = (omega arith, omega arith); day_in = (omega arith, omega arith) } in
    let before : d.year <ℤ pos 9999 = rw e (omega (arith, signed_arith)) in
    let first = days_from_civil-day (pos 9999) 12 1 31 (omega arith) (omega arith) in
    let last = days_from_civil-max in
    let earlier = epoch_day-lt d december (inl before) in
    omega (arith, signed_arith, first, last, earlier)

-- the nanoseconds of a datetime that is shown so
pub shown_nanos : (year month day hour minute second seconds : ℕ) (dt : DateTime) → IsShown year month day hour minute second seconds → IsYmd (pos year) (pos month) (pos day) dt.date → IsHms (pos hour) (pos minute) (pos second) (pos 0) dt.time → (civil_nanos dt ≡ pos (seconds * 1000000000)) × (seconds < 253399795200)
shown_nanos year month day hour minute second seconds dt s date time =
    let month_is : dt.date.month ≡ month = cc in
    let day_is : dt.date.day ≡ day = cc in
    let same : epoch_day dt.date ≡ epoch_day s.date = epoch_day_same dt.date s.date (date.0 ∙ sym s.is_year) (month_is ∙ sym s.is_month) (day_is ∙ sym s.is_day) in
    let parts = civil_nanos-parts dt in
    let counted = s.counted in
    let early = early_enough s.date year s.is_year s.last_year in
    let hour_is : dt.time.hour ≡ hour = cc in
    let minute_is : dt.time.minute ≡ minute = cc in
    let second_is : dt.time.second ≡ second = cc in
    let whole : dt.time.subsec_nanosecond ≡ 0 = cc in
    (omega (arith, signed_arith, same, parts, counted), omega (arith, signed_arith, counted, early))

pub shown_from : (year month day hour minute second seconds : ℕ) (dt : DateTime) → 1970 ≤ year → year ≤ 9998 → IsYmd (pos year) (pos month) (pos day) dt.date → IsHms (pos hour) (pos minute) (pos second) (pos 0) dt.time → civil_nanos dt ≡ pos (seconds * 1000000000) → IsShown year month day hour minute second seconds
shown_from year month day hour minute second seconds dt first last date time e =
    let parts = civil_nanos-parts dt in
    let hour_is : dt.time.hour ≡ hour = cc in
    let minute_is : dt.time.minute ≡ minute = cc in
    let second_is : dt.time.second ≡ second = cc in
    let whole : dt.time.subsec_nanosecond ≡ 0 = cc in
    record {
      date = dt.date;
      is_year = date.0;
      is_month = cc;
      is_day = cc;
      first_year = first;
      last_year = last;
      hours = omega arith;
      minutes = omega arith;
      whole_seconds = omega arith;
      counted = omega (arith, signed_arith, parts, e);
    }

-- a number that went through a narrower signed type
pub plain_date : (year month day : ℕ) (d : Date) → year < 10000 → month < 100 → day < 100 → IsYmd (to_z w16 year) (to_z w8 month) (to_z w8 day) d → IsYmd (pos year) (pos month) (pos day) d
plain_date year month day d a b e h =
    (h.0 ∙ to_z_pos w16 year (omega arith), h.1 ∙ to_z_pos w8 month (omega arith), h.2 ∙ to_z_pos w8 day (omega arith))

pub plain_time : (hour minute second : ℕ) (t : Time) → hour < 100 → minute < 100 → second < 100 → IsHms (to_z w8 hour) (to_z w8 minute) (to_z w8 second) (pos 0) t → IsHms (pos hour) (pos minute) (pos second) (pos 0) t
plain_time hour minute second t a b e h =
    (h.0 ∙ to_z_pos w8 hour (omega arith), h.1 ∙ to_z_pos w8 minute (omega arith), h.2 ∙ to_z_pos w8 second (omega arith), h.3)

-- the instant is one of jiff's, and its seconds are read back
pub in_range : (nanos : ℤ) (seconds : ℕ) → nanos ≡ pos (seconds * 1000000000) → seconds < 253399795200 → IsTimestampNanos (nanos -ℤ pos 0)
in_range nanos seconds e h = rw e (omega (arith, signed_arith), omega (arith, signed_arith))

pub second_is : (civil nanos second : ℤ) (seconds : ℕ) → civil ≡ pos (seconds * 1000000000) → nanos ≡ civil -ℤ pos 0 → second ≡ int_div nanos (pos 1000000000) → second ≡ pos seconds
second_is civil nanos second seconds e f g =
    let same : nanos ≡ pos (seconds * 1000000000) = omega (arith, signed_arith, e, f) in
    let back : int_div (pos (seconds * 1000000000)) (pos 1000000000) ≡ pos seconds = omega (arith, ints) in
    g ∙ rw same back

whole_nanos : (civil total nanos : ℤ) (seconds : ℕ) → civil ≡ total *ℤ pos 1000000000 +ℤ pos 0 → nanos ≡ civil -ℤ pos 0 → int_div nanos (pos 1000000000) ≡ pos seconds → civil ≡ pos (seconds * 1000000000)
whole_nanos civil (pos n) nanos seconds e f g =
    let same : nanos ≡ pos (n * 1000000000) = omega (arith, signed_arith, e, f) in
    let back = rw same at g in
    omega (arith, ints, e, back)
whole_nanos civil (negsuc n) nanos seconds e f g =
    let same : nanos ≡ neg_ℤ (pos (suc n * 1000000000)) = omega (arith, signed_arith, e, f) in
    let back = rw same at g in
    omega (arith, ints, e, back)

pub nanos_are : (dt : DateTime) (nanos second : ℤ) (seconds : ℕ) → dt.time.subsec_nanosecond ≡ 0 → nanos ≡ civil_nanos dt -ℤ pos 0 → second ≡ int_div nanos (pos 1000000000) → second ≡ pos seconds → civil_nanos dt ≡ pos (seconds * 1000000000)
nanos_are dt nanos second seconds whole e f g =
    let parts = civil_nanos-civil_seconds dt ∙ ap (λ (k : ℕ). civil_seconds dt *ℤ pos 1000000000 +ℤ pos k) whole in
    whole_nanos (civil_nanos dt) (civil_seconds dt) nanos seconds parts e (sym f ∙ g)

pub second_fits : (nanos second : ℤ) → IsTimestampNanos nanos → second ≡ int_div nanos (pos 1000000000) → FitsSigned w64 second
second_fits nanos second h e = omega (arith, ints, h, e)

-- the instant's second, as a number without a sign
pub kept : (second : ℤ) (seconds : ℕ) → second ≡ pos seconds → seconds < 253399795200 → to_z w64 (of_z w64 second) ≡ pos seconds
kept second seconds e h = rw e (to_z_pos w64 seconds (omega arith))

pub unsigned : (second : ℤ) (seconds : ℕ) → FitsSigned w64 second → FitsUnsignedBits 64 (to_z w64 (of_z w64 second)) → seconds ≡ unsigned_abs (to_z w64 (of_z w64 second)) → second ≡ pos seconds
unsigned second seconds f g h =
    let same : to_z w64 (of_z w64 second) ≡ second = to_z-of_z w64 second f in
    positive second seconds (rw same at g) (rw same at h)
  where
    positive : (z : ℤ) (n : ℕ) → FitsUnsignedBits 64 z → n ≡ unsigned_abs z → z ≡ pos n
    positive (pos k) n g h = ap pos (sym h)
    positive (negsuc k) n g h = absurd g

pub new_is : (r : Option ℕ) (given seconds : ℕ) → IfSome r (λ m. (m ≡ given) × (given ≤ last_moment)) → IfNone r (last_moment < given) → given ≡ seconds → seconds < 253399795200 → r ≡ Some seconds
new_is (Some m) given seconds some none e h = ap Some (some.0 ∙ e)
new_is None given seconds some none e h = absurd (omega arith)
