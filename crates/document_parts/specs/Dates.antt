-- Moments and the text of a date and time (RFC 3339, in the one form that TUF 1.0, section 4.2.1, has).
-- The calendar is jiff's.
use Rattle.std.specs.Prelude.{◌≡◌, ℕ, ◌+◌, ◌*◌, ◌/◌, ◌%◌, ◌<◌, ◌≤◌, pos, ◌+ℤ◌, ◌*ℤ◌, List, [], ◌∷◌, ◌++◌}
use Rattle.jiff.specs.Types.{Date}
use Rattle.jiff.specs.Words.{epoch_day}

-- a number as two and as four decimal digits
abbrev pub two_digits : ℕ → List ℕ
two_digits n = (48 + n / 10 % 10) ∷ (48 + n % 10) ∷ []

abbrev pub four_digits : ℕ → List ℕ
four_digits n = two_digits (n / 100) ++ two_digits (n % 100)

-- The text is YYYY-MM-DDTHH:MM:SSZ of a date of the calendar from 1970 to 9998, and so many seconds lie
-- between the start of 1970 and it.
pub record IsDateTime (text : List ℕ) (seconds : ℕ) : Type 0 where
  pub date : Date
  pub year : ℕ
  pub hour : ℕ
  pub minute : ℕ
  pub second : ℕ
  pub spelled : text ≡ four_digits year ++ 45 ∷ two_digits date.month ++ 45 ∷ two_digits date.day
      ++ 84 ∷ two_digits hour ++ 58 ∷ two_digits minute ++ 58 ∷ two_digits second ++ 90 ∷ []
  pub is_year : date.year ≡ pos year
  pub first_year : 1970 ≤ year
  pub last_year : year ≤ 9998
  pub hours : hour ≤ 23
  pub minutes : minute ≤ 59
  pub whole_seconds : second ≤ 59
  pub counted : pos seconds ≡ (epoch_day date *ℤ pos 86400) +ℤ pos (hour * 3600 + minute * 60 + second)

-- The calendar has such a date, from 1970 to 9998, and a clock such a time, and so many seconds lie between the start of
-- 1970 and them.
pub record IsShown (year month day hour minute second seconds : ℕ) : Type 0 where
  pub date : Date
  pub is_year : date.year ≡ pos year
  pub is_month : date.month ≡ month
  pub is_day : date.day ≡ day
  pub first_year : 1970 ≤ year
  pub last_year : year ≤ 9998
  pub hours : hour ≤ 23
  pub minutes : minute ≤ 59
  pub whole_seconds : second ≤ 59
  pub counted : pos seconds ≡ (epoch_day date *ℤ pos 86400) +ℤ pos (hour * 3600 + minute * 60 + second)

-- the last moment, 9999-12-31T23:59:59Z
abbrev pub last_moment : ℕ
last_moment = 253402300799

-- a document is live before the moment at which it expires
abbrev pub IsLive : ℕ → ℕ → Type 0
IsLive expires now = now < expires
