use Rattle.std.proofs.Common.{ℕ, List, ◌≡◌, length, inr, refl, sym, ap, ◌∙◌, arith}
use Rattle.keys_roles.specs.Views.{entries_view, id_text}
use Rattle.keys_roles.specs.declared.Signature.{Signature}
use Rattle.signer.specs.Files.{others as others_of}
use Rattle.signer.proofs.SignedFiles.{same_length}
use Rattle.signer.proofs.files.judge_result.Goals as goal

pub returns-then-len-gt-FILE_LIMIT-clause-fault : goal.returns-then-len-gt-FILE_LIMIT-clause-fault
returns-then-len-gt-FILE_LIMIT-clause-fault c =
    let key = id_text c.args.id.now in
    let os = others_of key (entries_view c.args.file.now.signatures.items) in
    let few = c.if-others-ge-MOST_SIGNATURES.false in
    let count = c.others.ensures ∙ ap (λ (es : List Signature). length (others_of key (entries_view es))) c.as_slice.ensures.value in
    let long = c.if-len-gt-FILE_LIMIT.true in
    let zeros : length c.as_slice-2.result.now ≡ c.args.signature_len = c.as_slice-2.ensures.len ∙ c.in_ok-nothing.ensures.len in
    inr (inr (
      refl,
      (omega (arith, few, count)),
      (λ signature has.
          let same = same_length os key signature c.as_slice-2.result.now c.args.file.now.signed.now (has ∙ sym zeros) in
          let whole = ap (λ (t : List ℕ). length t) c.in_ok-whole.ensures in
          omega (arith, same, whole, long, c.len.ensures)),
    ))

pub returns-clause-ok : goal.returns-clause-ok
returns-clause-ok c =
    let key = id_text c.args.id.now in
    let os = others_of key (entries_view c.args.file.now.signatures.items) in
    let few = c.if-others-ge-MOST_SIGNATURES.false in
    let count = c.others.ensures ∙ ap (λ (es : List Signature). length (others_of key (entries_view es))) c.as_slice.ensures.value in
    let short = c.if-len-gt-FILE_LIMIT.false in
    let zeros : length c.as_slice-2.result.now ≡ c.args.signature_len = c.as_slice-2.ensures.len ∙ c.in_ok-nothing.ensures.len in (
      omega (arith, few, count),
      λ signature has.
          let same = same_length os key signature c.as_slice-2.result.now c.args.file.now.signed.now (has ∙ sym zeros) in
          let whole = ap (λ (t : List ℕ). length t) c.in_ok-whole.ensures in
          omega (arith, same, whole, short, c.len.ensures),
    )
