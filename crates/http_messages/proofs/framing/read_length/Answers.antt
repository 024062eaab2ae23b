use Rattle.std.proofs.Common.{◌≡◌, ◌≢◌, ℕ, ◌<◌, List, length, get_or, ap, sym, ◌∙◌, arith, subst, true, false}
use Rattle.std.specs.Fmt.{decimal}
use Rattle.std.specs.List.{list_all}
use Rattle.std.specs.Char.{is_ascii_digit}
use Rattle.std.proofs.lemmas.Bool.Decides.{nat_tests}
use Rattle.http_messages.proofs.Frames.{length-is, length-some, length-few, length-digits, length-zero}
use Rattle.http_messages.proofs.framing.read_length.Goals as goal
use Rattle.http_messages.proofs.framing.read_length.Goals.{then-digits-gt1+else-digits-eq48, else-digits-gt1}

pub returns-then-is_empty-clause-none : goal.returns-then-is_empty-clause-none
returns-then-is_empty-clause-none c = λ n h e.
    let some = length-some n h in
    let same : length c.args.digits.now ≡ length (decimal n) = ap (λ (l : List ℕ). length l) e in
    let empty = c.is_empty.ensures in
    let yes = c.if-is_empty.true in
    grind (arith, nat_tests)

pub returns-then-digits-gt-MOST_DIGITS-clause-none : goal.returns-then-digits-gt-MOST_DIGITS-clause-none
returns-then-digits-gt-MOST_DIGITS-clause-none c = λ n h e. omega (arith, length-few n h, ap (λ (l : List ℕ). length l) e)

pub returns-then-not-are_digits-clause-none : goal.returns-then-not-are_digits-clause-none
returns-then-not-are_digits-clause-none c = λ n h e.
    let digits : list_all is_ascii_digit c.args.digits.now ≡ true = ap (list_all is_ascii_digit) e ∙ length-digits n h in
    let none : list_all is_ascii_digit c.args.digits.now ≡ false = sym c.are_digits.ensures ∙ c.if-not-are_digits.true in
    let no : ⊥ = cc in
    no

pub returns-then-digits-eq48-clause-none : goal.returns-then-digits-eq48-clause-none
returns-then-digits-eq48-clause-none c = λ n h e.
    length-zero n h (subst (λ l. 1 < length l) e c.if-digits-gt1.true) (subst (λ l. get_or l 0 0 ≡ 48) e c.if-digits-eq48.true)

pub returns-clause-some : goal.returns-clause-some
returns-clause-some c =
    let digits = sym c.are_digits.ensures ∙ c.if-not-are_digits.false in
    let empty = c.is_empty.ensures in
    let not_empty = c.if-is_empty.false in
    let some : 0 < length c.args.digits.now = grind (arith, nat_tests) in
    let leading : (1 < length c.args.digits.now → get_or c.args.digits.now 0 0 ≢ 48) =
    elim c.if-digits-gt1.branch [
      | then-digits-gt1+else-digits-eq48 w ↦ (λ l. w.if-digits-eq48.false)
      | else-digits-gt1 w ↦ (λ l. absurd (omega (arith, w.if-digits-gt1.false)))
    ] in
    rw c.value_of.ensures (length-is c.args.digits.now some c.if-digits-gt-MOST_DIGITS.false digits leading)
