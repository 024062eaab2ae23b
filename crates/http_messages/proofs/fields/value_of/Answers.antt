use Rattle.std.proofs.Common.{◌≡◌, ◌≤◌, ◌-◌, ◌+◌, ◌*◌, ◌^◌, ℕ, get_or, true, arith, ap, sym, ◌∙◌, add-one}
use Rattle.std.specs.Char.{is_ascii_digit, digit_value}
use Rattle.std.proofs.lemmas.Int.Digits.{digits_value_more}
use Rattle.std.proofs.lemmas.List.Sums.{AllPass-from_list_all}
use Rattle.std.proofs.lemmas.Bool.Decides.{nat_tests}
use Rattle.std.proofs.Math.Nat.{pow-suc}
use Rattle.http_messages.proofs.fields.value_of.Goals as goal

digit-is : (b : ℕ) → is_ascii_digit b ≡ true → (48 ≤ b) × (b ≤ 57)
digit-is b e = grind (arith, nat_tests)

digit-value : (b : ℕ) → is_ascii_digit b ≡ true → digit_value b ≡ b - 48
digit-value b e = grind (arith, nat_tests)

pub loop-b-preserved : goal.loop-b-preserved
loop-b-preserved c =
    let i = c.loop-b.b-index in
    let b = get_or c.args.digits.now i 0 in
    let digit : is_ascii_digit b ≡ true = AllPass-from_list_all is_ascii_digit c.args.digits.now c.requires.digits i 0 c.loop-b-test.true in
    let range = digit-is b digit in
    let power : 10 ^ (i + 1) ≡ 10 ^ i * 10 = rw add-one (pow-suc 10 i) in
    record {
      value = sym (digits_value_more 10 c.args.digits.now i c.loop-b-test.true ∙ ap (λ n. n * 10 + digit_value b) (sym c.loop-b.invariant.value) ∙ ap (λ d. c.loop-b.n * 10 + d) (digit-value b digit ∙ sym c.from.ensures));
      bound = rw power (omega (arith, range.0, range.1, c.loop-b.invariant.bound, c.from.ensures));
    }
