-- What a calendar and a clock show at a moment, and the texts that have it.
use Rattle.std.proofs.Common.{◌≡◌, ℕ, ℤ, pos, negsuc, ◌*◌, ◌≤◌, ◌+ℤ◌, ◌*ℤ◌, ◌<ℤ◌, ◌≤ℤ◌, List, [], ◌∷◌, ◌++◌, arith, refl, sym, ap, ap₂, ◌∙◌, unsigned_abs, append_assoc, true, false, subst}
use Rattle.std.proofs.lemmas.Int.{by_lt_z}
use lib.Signed.{lt_z}
use lib.Dec.{T}
use Rattle.jiff.specs.Types.{DateTime}
use Rattle.jiff.specs.Words.{epoch_day, civil_nanos, IsTimestampNanos}
use Rattle.jiff.proofs.Family.{epoch_day_injective, civil_nanos-parts, time_nanos_bound}
use Rattle.jiff.proofs.SpanFacts.{signed_arith}
use Rattle.document_parts.specs.Dates.{IsDateTime, IsShown, two_digits, four_digits}
use Rattle.document_parts.proofs.Instants.{early_enough}

-- what has a text is an instant of jiff's
pub in_range : (t : List ℕ) (n : ℕ) → IsDateTime t n → IsTimestampNanos (pos n *ℤ pos 1000000000)
in_range t n d =
    let early = early_enough d.date d.year d.is_year d.last_year in
    let counted = d.counted in
    omega (arith, signed_arith, early, counted)

-- the year that is shown is that of the text
pub same_year : (t : List ℕ) (n : ℕ) (dt : DateTime) → civil_nanos dt ≡ pos (n * 1000000000) → (d : IsDateTime t n) → dt.date.year ≡ pos d.year
same_year t n dt is d =
    let parts = civil_nanos-parts dt in
    let bound = time_nanos_bound dt.time in
    let counted = d.counted in
    let days : epoch_day dt.date ≡ epoch_day d.date = omega (arith, signed_arith, parts, bound, counted, is) in
    (epoch_day_injective dt.date d.date days).0 ∙ d.is_year

pub too_early : (t : List ℕ) (n : ℕ) (dt : DateTime) → civil_nanos dt ≡ pos (n * 1000000000) → dt.date.year <ℤ pos 1970 → IsDateTime t n → ⊥
too_early t n dt is before d =
    let year = same_year t n dt is d in
    let first = d.first_year in
    omega (arith, signed_arith, year, before, first)

pub too_late : (t : List ℕ) (n : ℕ) (dt : DateTime) → civil_nanos dt ≡ pos (n * 1000000000) → pos 9998 <ℤ dt.date.year → IsDateTime t n → ⊥
too_late t n dt is behind d =
    let year = same_year t n dt is d in
    let last = d.last_year in
    omega (arith, signed_arith, year, behind, last)

without_sign : (z : ℤ) → pos 1970 ≤ℤ z → z ≡ pos (unsigned_abs z)
without_sign (pos k) h = refl
without_sign (negsuc k) h = absurd (omega (arith, signed_arith, h))

-- what is shown at an instant
pub shown_at : (n : ℕ) (dt : DateTime) (year month day hour minute second : ℕ) → civil_nanos dt ≡ pos (n * 1000000000) → pos 1970 ≤ℤ dt.date.year → dt.date.year ≤ℤ pos 9998
    → year ≡ unsigned_abs dt.date.year → month ≡ dt.date.month → day ≡ dt.date.day → hour ≡ dt.time.hour → minute ≡ dt.time.minute → second ≡ dt.time.second
    → IsShown year month day hour minute second n
shown_at n dt year month day hour minute second is first last year_is month_is day_is hour_is minute_is second_is =
    let parts = civil_nanos-parts dt in
    let signless : dt.date.year ≡ pos year = without_sign dt.date.year first ∙ ap pos (sym year_is) in
    record {
      date = dt.date;
      is_year = signless;
      is_month = sym month_is;
      is_day = sym day_is;
      first_year = omega (arith, signed_arith, signless, first);
      last_year = omega (arith, signed_arith, signless, last);
      hours = omega arith;
      minutes = omega arith;
      whole_seconds = omega arith;
      counted = omega (arith, signed_arith, parts, is);
    }

-- the text of what is shown
pub text_shown : (t : List ℕ) (n year month day hour minute second : ℕ) → IsShown year month day hour minute second n
    → t ≡ four_digits year ++ 45 ∷ two_digits month ++ 45 ∷ two_digits day ++ 84 ∷ two_digits hour ++ 58 ∷ two_digits minute ++ 58 ∷ two_digits second ++ 90 ∷ []
    → IsDateTime t n
text_shown t n year month day hour minute second s is = record {
  date = s.date;
  year = year;
  hour = hour;
  minute = minute;
  second = second;
  spelled = is ∙ ap₂ (λ (m d : ℕ). four_digits year ++ 45 ∷ two_digits m ++ 45 ∷ two_digits d ++ 84 ∷ two_digits hour ++ 58 ∷ two_digits minute ++ 58 ∷ two_digits second ++ 90 ∷ [])
      (sym s.is_month) (sym s.is_day);
  is_year = s.is_year;
  first_year = s.first_year;
  last_year = s.last_year;
  hours = s.hours;
  minutes = s.minutes;
  whole_seconds = s.whole_seconds;
  counted = s.counted;
}

-- ---- texts that are put together

pub two_more : (a b c : List ℕ) (x y : ℕ) → b ≡ a ++ x ∷ [] → c ≡ b ++ y ∷ [] → c ≡ a ++ x ∷ y ∷ []
two_more a b c x y p q = q ∙ ap (λ (l : List ℕ). l ++ y ∷ []) p ∙ append_assoc a (x ∷ []) (y ∷ [])

pub five_more : (t a b c d e p q r s u : List ℕ) → p ≡ t ++ a → q ≡ p ++ b → r ≡ q ++ c → s ≡ r ++ d → u ≡ s ++ e → u ≡ t ++ (a ++ (b ++ (c ++ (d ++ e))))
five_more t a b c d e p q r s u e1 e2 e3 e4 e5 =
    e5 ∙ ap (λ (x : List ℕ). x ++ e) (e4 ∙ ap (λ (x : List ℕ). x ++ d) (e3 ∙ ap (λ (x : List ℕ). x ++ c) (e2 ∙ ap (λ (x : List ℕ). x ++ b) e1))) ∙ joined t a b c d e
  where
    joined : (t a b c d e : List ℕ) → ((((t ++ a) ++ b) ++ c) ++ d) ++ e ≡ t ++ (a ++ (b ++ (c ++ (d ++ e))))
    joined t a b c d e = simp append_assoc

-- ---- instants

pub nanos_are : (civil instant second : ℤ) (n : ℕ) → civil ≡ instant +ℤ pos 0 → instant ≡ second *ℤ pos 1000000000 → second ≡ pos n → civil ≡ pos (n * 1000000000)
nanos_are civil instant second n e f g =
    let h : instant ≡ pos n *ℤ pos 1000000000 = f ∙ ap (λ (z : ℤ). z *ℤ pos 1000000000) g in
    omega (arith, signed_arith, e, h)

-- ---- tests

pub below_is : (a b : ℤ) → lt_z a b ≡ true → a <ℤ b
below_is a b h = record { lt = subst T (sym h) tt }

pub not_below : (a b : ℤ) → lt_z a b ≡ false → b ≤ℤ a
not_below a b h = by_lt_z a b (λ lt. absurd (subst T h lt.lt)) (λ ge. ge)
