use Rattle.std.proofs.Common.{◌≡◌, ◌∙◌, sym, ap, inr, string_bytes}
use Rattle.std.proofs.lemmas.Str.{IsUtf8-string_bytes}
use Rattle.verdicts.proofs.Hexes.{hex_word_one}
use Rattle.verdicts.proofs.words.text_of.Goals as goal

pub returns-in-Ok-clause-text : goal.returns-in-Ok-clause-text
returns-in-Ok-clause-text c =
    let same : string_bytes c.in-Ok.text ≡ c.in_ok-bytes.bytes.items = ap (λ v. v.items) c.in-Ok.ensures.ok in
    let found = c.in_ok-bytes.ensures.bytes in
    (rw same found.0, (rw same found.1, IsUtf8-string_bytes c.in-Ok.text))

pub returns-clause-fault : goal.returns-clause-fault
returns-clause-fault c =
    let found = c.in_ok-bytes.ensures.bytes in
    inr (λ bytes is word.
    let same : c.in_ok-bytes.bytes.items ≡ bytes = hex_word_one _ _ found.1 is.0 (sym found.0 ∙ word) in
    let bad = c.in-Err.ensures.succeeds (rw same is.1) in cc)
