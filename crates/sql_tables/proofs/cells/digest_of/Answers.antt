use Rattle.std.proofs.Common.{◌≡◌, ℕ, List, Ok, is_err, sym, ap, ◌∙◌, true≢false, rules}
use Rattle.hex.specs.Hex.{encode_lower, decode_sized}
use Rattle.hex.proofs.HexLemmas.{decode_sized-encode_lower}
use Rattle.sql_tables.proofs.ListLemmas.{bytes_at}
use Rattle.sql_tables.proofs.cells.digest_of.Goals as goal

pub returns-then-is_err-clause-value : goal.returns-then-is_err-clause-value
returns-then-is_err-clause-value c d is e =
    let read : decode_sized c.args.text.now 32 ≡ Ok d = ap (λ (t : List ℕ). decode_sized t 32) e ∙ decode_sized-encode_lower d 32 is.0 (bytes_at d is.1) in
    let both = rw read at c.decode_to_slice.ensures.value in
    true≢false (sym c.if-is_err.true ∙ c.is_err.ensures.value ∙ ap is_err both.0)

pub returns-then-not-is_same-clause-value : goal.returns-then-not-is_same-clause-value
returns-then-not-is_same-clause-value c d is e =
    let read : decode_sized c.args.text.now 32 ≡ Ok d = ap (λ (t : List ℕ). decode_sized t 32) e ∙ decode_sized-encode_lower d 32 is.0 (bytes_at d is.1) in
    let both = rw read at c.decode_to_slice.ensures.value in
    let digits : c.encode_to_slice.new.output ≡ encode_lower c.decode_to_slice.new.out = search rules in
    let same = c.is_same.ensures.other (e ∙ ap encode_lower (sym both.1) ∙ sym digits) in
    true≢false (sym same ∙ c.if-not-is_same.true)
