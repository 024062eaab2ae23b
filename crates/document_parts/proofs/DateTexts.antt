-- The text of a date and time: its parts, and the text that parts make.
use Rattle.std.proofs.Common.{◌≡◌, ℕ, ◌+◌, ◌*◌, ◌/◌, ◌%◌, ◌<◌, ◌≤◌, List, [], ◌∷◌, ◌++◌, length, take, drop, slice_index, get_or, refl, ap, sym, ◌∙◌, arith, Option, Some, pos, ℤ, ◌+ℤ◌, ◌*ℤ◌}
use Rattle.std.proofs.Math.Seq.{drop-cons}
use Rattle.std.proofs.lemmas.List.{take-append-drop, drop-drop, drop_all}
use Rattle.std.proofs.lemmas.Bool.Decides.{nat_tests}
use Rattle.jiff.specs.Types.{Date}
use Rattle.jiff.specs.Words.{days_in_month, epoch_day}
use Rattle.document_parts.specs.Dates.{two_digits, IsDateTime, IsShown}

pub eight_bytes : (t : List ℕ) → length t ≡ 8 → t ≡ slice_index t 0 ∷ slice_index t 1 ∷ slice_index t 2 ∷ slice_index t 3 ∷ slice_index t 4 ∷ slice_index t 5 ∷ slice_index t 6 ∷ slice_index t 7 ∷ []
eight_bytes (a ∷ b ∷ c ∷ d ∷ e ∷ f ∷ g ∷ h ∷ []) l = refl
eight_bytes (a ∷ b ∷ c ∷ d ∷ e ∷ f ∷ g ∷ h ∷ i ∷ t) l = absurd (omega (arith, l))
eight_bytes (a ∷ b ∷ c ∷ d ∷ e ∷ f ∷ g ∷ []) l = absurd (omega (arith, l))
eight_bytes (a ∷ b ∷ c ∷ d ∷ e ∷ f ∷ []) l = absurd (omega (arith, l))
eight_bytes (a ∷ b ∷ c ∷ d ∷ e ∷ []) l = absurd (omega (arith, l))
eight_bytes (a ∷ b ∷ c ∷ d ∷ []) l = absurd (omega (arith, l))
eight_bytes (a ∷ b ∷ c ∷ []) l = absurd (omega (arith, l))
eight_bytes (a ∷ b ∷ []) l = absurd (omega (arith, l))
eight_bytes (a ∷ []) l = absurd (omega (arith, l))
eight_bytes [] l = absurd (omega (arith, l))

-- a text of twenty bytes is its first two, the eight after them, one, the next eight and the last
pub twenty_bytes : (t : List ℕ) → length t ≡ 20 → t ≡ get_or t 0 0 ∷ (get_or t 1 0 ∷ (take 8 (drop 2 t) ++ (get_or t 10 0 ∷ (take 8 (drop 11 t) ++ get_or t 19 0 ∷ []))))
twenty_bytes t l =
    let first : t ≡ get_or t 0 0 ∷ drop 1 t = drop-cons t 0 0 (omega arith) in
    let second : drop 1 t ≡ get_or t 1 0 ∷ drop 2 t = drop-cons t 1 0 (omega arith) in
    let date = take-append-drop 8 (drop 2 t) in
    let date_end : drop 8 (drop 2 t) ≡ drop 10 t = drop-drop 8 2 t in
    let between : drop 10 t ≡ get_or t 10 0 ∷ drop 11 t = drop-cons t 10 0 (omega arith) in
    let time = take-append-drop 8 (drop 11 t) in
    let time_end : drop 8 (drop 11 t) ≡ drop 19 t = drop-drop 8 11 t in
    let last : drop 19 t ≡ get_or t 19 0 ∷ drop 20 t = drop-cons t 19 0 (omega arith) in
    let end : drop 20 t ≡ [] = drop_all 20 t (omega arith) in
    cc

days : (y : ℤ) (m d : ℕ) → d ≤ days_in_month y m → d < 100
days y m d h = grind (arith, nat_tests)

pub day_bound : (d : Date) → d.day < 100
day_bound d = days d.year d.month d.day d.day_in.1

pub month_bound : (d : Date) → d.month < 100
month_bound d = let m = d.month_in in omega arith

pub date_part : (t : List ℕ) (n : ℕ) (d : IsDateTime t n) → take 8 (drop 2 t) ≡ two_digits (d.year % 100) ++ 45 ∷ two_digits d.date.month ++ 45 ∷ two_digits d.date.day
date_part t n d = ap (λ (x : List ℕ). take 8 (drop 2 x)) d.spelled

pub time_part : (t : List ℕ) (n : ℕ) (d : IsDateTime t n) → take 8 (drop 11 t) ≡ two_digits d.hour ++ 58 ∷ two_digits d.minute ++ 58 ∷ two_digits d.second
time_part t n d = ap (λ (x : List ℕ). take 8 (drop 11 x)) d.spelled

pub century_part : (t : List ℕ) (n : ℕ) (d : IsDateTime t n) → get_or t 0 0 ∷ get_or t 1 0 ∷ [] ≡ two_digits (d.year / 100)
century_part t n d = ap (λ (x : List ℕ). get_or x 0 0 ∷ get_or x 1 0 ∷ []) d.spelled

-- a date and time of these parts is shown so
pub shown : (t : List ℕ) (n : ℕ) (d : IsDateTime t n) (century year month day hour minute second : ℕ) → century ≡ d.year / 100 → year ≡ d.year % 100 → month ≡ d.date.month → day ≡ d.date.day → hour ≡ d.hour → minute ≡ d.minute → second ≡ d.second → IsShown (century * 100 + year) month day hour minute second n
shown t n d century year month day hour minute second a b e f g h i =
    let whole : d.year ≡ century * 100 + year = omega arith in
    let time : d.hour * 3600 + d.minute * 60 + d.second ≡ hour * 3600 + minute * 60 + second = omega arith in
    record {
      date = d.date;
      is_year = d.is_year ∙ ap pos whole;
      is_month = sym e;
      is_day = sym f;
      first_year = omega arith;
      last_year = omega arith;
      hours = omega arith;
      minutes = omega arith;
      whole_seconds = omega arith;
      counted = d.counted ∙ ap (λ (k : ℕ). epoch_day d.date *ℤ pos 86400 +ℤ pos k) time;
    }

pub one_is : (r : Option ℕ) (a x : ℕ) → r ≡ Some a → r ≡ Some x → a ≡ x
one_is r a x e f = cc

pub three_are : (r : Option (ℕ × ℕ × ℕ)) (a b c x y z : ℕ) → r ≡ Some (a, b, c) → r ≡ Some (x, y, z) → (a ≡ x) × (b ≡ y) × (c ≡ z)
three_are r a b c x y z e f =
    let same : ◌≡◌ {A = ℕ × ℕ × ℕ} (a, b, c) (x, y, z) = cc in
    (ap (λ (p : ℕ × ℕ × ℕ). p.0) same, ap (λ (p : ℕ × ℕ × ℕ). p.1) same, ap (λ (p : ℕ × ℕ × ℕ). p.2) same)

pub date_time : (t : List ℕ) (century year month day hour minute second n : ℕ) → length t ≡ 20 → get_or t 10 0 ≡ 84 → get_or t 19 0 ≡ 90 → century < 100 → year < 100 → get_or t 0 0 ∷ get_or t 1 0 ∷ [] ≡ two_digits century → take 8 (drop 2 t) ≡ two_digits year ++ 45 ∷ two_digits month ++ 45 ∷ two_digits day → take 8 (drop 11 t) ≡ two_digits hour ++ 58 ∷ two_digits minute ++ 58 ∷ two_digits second → IsShown (century * 100 + year) month day hour minute second n → IsDateTime t n
date_time t century year month day hour minute second n l e f small few a b c s =
    let whole = twenty_bytes t l in
    let high : (century * 100 + year) / 100 ≡ century = omega arith in
    let low : (century * 100 + year) % 100 ≡ year = omega arith in
    record {
      date = s.date;
      year = century * 100 + year;
      hour = hour;
      minute = minute;
      second = second;
      spelled = cc;
      is_year = s.is_year;
      first_year = s.first_year;
      last_year = s.last_year;
      hours = s.hours;
      minutes = s.minutes;
      whole_seconds = s.whole_seconds;
      counted = s.counted;
    }
