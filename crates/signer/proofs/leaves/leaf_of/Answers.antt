use Rattle.std.proofs.Common.{◌≡◌, ◌<◌, ◌^◌, ◌≤◌, ℕ, List, ap, sym, subst, arith, length, take, false, true, rules}
use Rattle.keys_roles.specs.Rules.{AreDigitsOf}
use Rattle.lms.specs.Text.{u32}
use Rattle.signer.proofs.LeafDigits.{leaf_front, leaf_long, leaf_read}
use Rattle.signer.proofs.leaves.leaf_of.Goals as goal

pub returns-then-digits-lt8 : goal.returns-then-digits-lt8
returns-then-digits-lt8 c leaf b =
    let long : 8 ≤ length c.args.sig.now = leaf_long c.args.sig.now leaf b in
    let same : length c.as_bytes-digits.result.now ≡ length c.args.sig.now = ap (λ (l : List ℕ). length l) c.as_bytes-digits.ensures.value in
    absurd (omega (arith, long, same, c.if-digits-lt8.true))

pub returns-then-not-read_digits : goal.returns-then-not-read_digits
returns-then-not-read_digits c leaf b =
    let front = subst (λ (l : List ℕ). AreDigitsOf (take 8 l) (u32 leaf)) (sym c.as_bytes-digits.ensures.value) (leaf_front c.args.sig.now leaf b) in
    let e : false ≡ true = (c.if-not-read_digits.ensures.all (u32 leaf) front).0 in
    absurd (cc)

pub returns : goal.returns
returns c =
    let low : c.from_be_bytes.result < 2 ^ 32 = omega arith in
    leaf_read c.args.sig.now c.as_bytes-digits.result.now c.read_digits.new.bytes c.from_be_bytes.result c.as_bytes-digits.ensures.value (search rules) low c.from_be_bytes.ensures
    (c.if-not-read_digits.ensures.read (search rules))
