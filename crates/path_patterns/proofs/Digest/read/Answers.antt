use Rattle.std.proofs.Common.{◌≡◌, sym, ◌∙◌, ap, subst, List, ℕ, length, true, arith}
use Rattle.hex.specs.Hex.{decode_sized, encode_lower}
use Rattle.std.specs.List.{list_all}
use Rattle.path_patterns.specs.Bytes.{is_hex}
use Rattle.path_patterns.specs.Names.{IsDigest}
use Rattle.path_patterns.proofs.Digits.{read_digits}
use Rattle.path_patterns.proofs.Digest.read.Goals as goal

pub returns-in-Ok-clause-some : goal.returns-in-Ok-clause-some
returns-in-Ok-clause-some c =
    let long : length c.args.text.now ≡ 64 = omega (arith, c.if-digits-ne64.false, c.as_bytes-digits.ensures.len) in
    let hex : list_all is_hex c.args.text.now ≡ true =
    ap (λ (t : List ℕ). list_all is_hex t) (sym c.as_bytes-digits.ensures.value) ∙ sym c.are_hex_digits.ensures ∙ c.if-not-are_hex_digits.false in
    let d = read_digits c.args.text.now (long, hex) in
    let e = ap (λ (t : List ℕ). decode_sized t 32) c.as_bytes-digits.ensures.value ∙ d.1 in
    let v = rw e at c.decode_to_slice.ensures.value in
    (subst IsDigest (sym v.1) d.3, (long, hex), d.2 ∙ ap encode_lower (sym v.1))

pub returns-in-Err-clause-none : goal.returns-in-Err-clause-none
returns-in-Err-clause-none c is =
    let d = read_digits c.args.text.now is in
    let e = ap (λ (t : List ℕ). decode_sized t 32) c.as_bytes-digits.ensures.value ∙ d.1 in
    let v = rw e at c.decode_to_slice.ensures.value in
    let differ = sym v.0 ∙ c.in-Err.is in
    cc
