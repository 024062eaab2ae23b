use Rattle.std.proofs.Common.{ℕ, arith, ◌/◌, ◌%◌, ◌+◌, ◌*◌, ◌∙◌, ap, take, drop, get_or, List, [], ◌∷◌, subst}
use Rattle.std.proofs.lemmas.Option.{IfSome_then}
use Rattle.document_parts.specs.Dates.{IsShown, IsDateTime}
use Rattle.document_parts.proofs.DateTexts.{century_part, date_part, time_part, day_bound, month_bound, shown, one_is, three_are, date_time}
use Rattle.document_parts.proofs.dates.read_date_time.Goals as goal

pub returns-in_err-year-clause-only : goal.returns-in_err-year-clause-only
returns-in_err-year-clause-only c =
    λ n d.
    let part = ap (λ (x : List ℕ). take 8 (drop 2 x)) c.as_bytes-text.ensures.value ∙ date_part c.args.text.now n d in
    let no = c.in_err-year.ensures.only (d.year % 100) d.date.month d.date.day (omega arith) (month_bound d.date) (day_bound d.date) part in
    cc

pub returns-in_err-hour-clause-only : goal.returns-in_err-hour-clause-only
returns-in_err-hour-clause-only c =
    λ n d.
    let part = ap (λ (x : List ℕ). take 8 (drop 11 x)) c.as_bytes-text.ensures.value ∙ time_part c.args.text.now n d in
    let hours = d.hours in
    let minutes = d.minutes in
    let seconds = d.whole_seconds in
    let no = c.in_err-hour.ensures.only d.hour d.minute d.second (omega arith) (omega arith) (omega arith) part in
    cc

pub returns-clause-some : goal.returns-clause-some
returns-clause-some c =
    let text = c.as_bytes-text.result.now in
    let date = c.in_ok-year.ensures.some in
    let time = c.in_ok-hour.ensures.some in
    let century = c.in_ok-century.ensures.some in
    let whole = λ (n : ℕ) (s : IsShown (c.in_ok-century.century * 100 + c.in_ok-year.year) c.in_ok-year.month c.in_ok-year.day c.in_ok-hour.hour c.in_ok-hour.minute c.in_ok-hour.second n).
    date_time text c.in_ok-century.century c.in_ok-year.year c.in_ok-year.month c.in_ok-year.day c.in_ok-hour.hour c.in_ok-hour.minute c.in_ok-hour.second n
    c.if-text-ne-LENGTH.false c.if-text-ne84.false c.if-text-ne90.false century.1 date.1 century.0 date.0 time.0 s in
    IfSome_then c.moment_at.result c.moment_at.ensures.some (λ n s. subst (λ (x : List ℕ). IsDateTime x n) c.as_bytes-text.ensures.value (whole n s))

pub returns-clause-only : goal.returns-clause-only
returns-clause-only c =
    λ n d.
    let same = c.as_bytes-text.ensures.value in
    let century = ap (λ (x : List ℕ). get_or x 0 0 ∷ get_or x 1 0 ∷ []) same ∙ century_part c.args.text.now n d in
    let date = ap (λ (x : List ℕ). take 8 (drop 2 x)) same ∙ date_part c.args.text.now n d in
    let time = ap (λ (x : List ℕ). take 8 (drop 11 x)) same ∙ time_part c.args.text.now n d in
    let last = d.last_year in
    let hours = d.hours in
    let minutes = d.minutes in
    let seconds = d.whole_seconds in
    let century_is = one_is _ _ _ c.in_ok-century.was (c.read_two.ensures.only (d.year / 100) (omega arith) century) in
    let date_is = three_are _ _ _ _ _ _ _ c.in_ok-year.was (c.read_three.ensures.only (d.year % 100) d.date.month d.date.day (omega arith) (month_bound d.date) (day_bound d.date) date) in
    let time_is = three_are _ _ _ _ _ _ _ c.in_ok-hour.was (c.read_three-2.ensures.only d.hour d.minute d.second (omega arith) (omega arith) (omega arith) time) in
    c.moment_at.ensures.only n (shown c.args.text.now n d _ _ _ _ _ _ _ century_is date_is.0 date_is.1 date_is.2 time_is.0 time_is.1 time_is.2)
