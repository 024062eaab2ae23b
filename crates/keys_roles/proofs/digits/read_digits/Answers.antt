use Rattle.std.proofs.Common.{◌≡◌, ◌%◌, length, false, true, sym, ap, subst, arith, ◌∙◌}
use Rattle.std.specs.Result.{is_ok}
use Rattle.std.specs.List.{list_all}
use Rattle.path_patterns.specs.Bytes.{is_hex}
use Rattle.path_patterns.proofs.Digits.{spelled, spells}
use Rattle.keys_roles.specs.Rules.{AreDigitsOf}
use Rattle.keys_roles.proofs.Signatures.{decodes}
use Rattle.keys_roles.proofs.digits.read_digits.Goals as goal

pub returns-then-are_hex_digits-clause-read : goal.returns-then-are_hex_digits-clause-read
returns-then-are_hex_digits-clause-read c h =
    let two = c.requires in
    let even : length c.args.digits.now % 2 ≡ 0 = omega (arith, two) in
    let s = spelled c.args.digits.now even (sym c.are_hex_digits.ensures ∙ c.if-are_hex_digits.true) in
    let d = decodes c.args.digits.now s.0 _ (s.1, s.2) two in
    let v = rw d at c.decode_to_slice.ensures.value in
    subst (λ b. AreDigitsOf c.args.digits.now b) (sym v.1) (s.1, s.2)

pub returns-then-are_hex_digits-clause-all : goal.returns-then-are_hex_digits-clause-all
returns-then-are_hex_digits-clause-all c s are =
    let d = decodes c.args.digits.now s _ are c.requires in
    let v = rw d at c.decode_to_slice.ensures.value in
    (c.is_ok.ensures.value ∙ ap is_ok v.0, v.1)

pub returns-else-are_hex_digits-clause-all : goal.returns-else-are_hex_digits-clause-all
returns-else-are_hex_digits-clause-all c s are =
    let all : list_all is_hex c.args.digits.now ≡ true = ap (list_all is_hex) are.1 ∙ spells s are.0 in
    absurd (let e : true ≡ false = sym all ∙ sym c.are_hex_digits.ensures ∙ c.if-are_hex_digits.false in cc)
