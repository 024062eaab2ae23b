use Rattle.std.proofs.Common.{◌≡◌, ◌∷◌, ◌++◌, length, arith}
use Rattle.document_parts.specs.Dates.{two_digits}
use Rattle.document_parts.proofs.DateTexts.{eight_bytes}
use Rattle.document_parts.proofs.dates.read_three.Goals as goal

pub returns-clause-some : goal.returns-clause-some
returns-clause-some c =
    let few : length c.args.text.now ≡ 8 = omega arith in
    let whole = eight_bytes c.args.text.now few in
    let a = c.in_ok-read_two.ensures.some in
    let b = c.in_ok-read_two-2.ensures.some in
    let e = c.in_ok-read_two-3.ensures.some in
    let same : c.args.text.now ≡ two_digits c.in_ok-read_two.field-0 ++ c.args.mark ∷ two_digits c.in_ok-read_two-2.field-0 ++ c.args.mark ∷ two_digits c.in_ok-read_two-3.field-0 = cc in
    (same, a.1, b.1, e.1)
