use Rattle.std.proofs.Common.{◌≡◌, false, true, sym, ◌∙◌, arith}
use Rattle.keys_roles.proofs.Signatures.{digits_length}
use Rattle.document_parts.proofs.keys.read_lms.Goals as goal

pub returns-then-text-ne112 : goal.returns-then-text-ne112
returns-then-text-ne112 c p are e =
    let two = digits_length c.args.text.now p (are.1, e) in
    c.if-text-ne112.true (omega (arith, two, are.0))

pub returns-else-read_digits : goal.returns-else-read_digits
returns-else-read_digits c p are e =
    let t = c.read_digits.ensures.all p (are.1, c.as_bytes.ensures.value ∙ e) in
    absurd (let u : false ≡ true = sym c.if-read_digits.false ∙ t.0 in cc)
