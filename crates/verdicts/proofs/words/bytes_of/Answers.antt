use Rattle.std.proofs.Common.{rules, ◌≡◌, ap, inl, inr, codes, false, length}
use Rattle.std.proofs.lemmas.Result.{err_from_is_err_and}
use Rattle.std.specs.Str.{bytes_eq}
use Rattle.verdicts.specs.Words.{fault_of}
use Rattle.verdicts.proofs.Hexes.{refused, respelled, empty}
use Rattle.hex.specs.Hex.{encode_lower}
use Rattle.verdicts.proofs.words.bytes_of.Goals as goal
use Rattle.verdicts.proofs.words.bytes_of.Goals.{then-is_empty-via-then-is_empty, then-is_empty-via-else-is_empty+in_ok-is_text_of+then-not-branch}

pub returns-in_err-bytes-clause-fault : goal.returns-in_err-bytes-clause-fault
returns-in_err-bytes-clause-fault c =
    let other : bytes_eq c.args.word.now (codes "-") ≡ false = search rules in
    let p = err_from_is_err_and c.from_residual.result c.from_residual.ensures.1 in
    rw (p.1, p.2) (elim c.in_err-bytes.ensures.err [
      | inl memory ↦ inl (ap fault_of memory)
      | inr bad ↦ inr (refused c.args.word.now _ other bad)
    ])

pub returns-then-is_empty-clause-fault : goal.returns-then-is_empty-clause-fault
returns-then-is_empty-clause-fault c =
    let other : bytes_eq c.args.word.now (codes "-") ≡ false = search rules in
    elim c.then-is_empty.branch [
      | then-is_empty-via-then-is_empty w ↦
          let none : length c.in_ok-bytes.bytes.items ≡ 0 = search rules in
          inr (empty c.args.word.now _ other c.in_ok-bytes.ensures.ok none)
      | then-is_empty-via-else-is_empty+in_ok-is_text_of+then-not-branch w ↦
          let unlike : c.args.word.now ≡ encode_lower c.in_ok-bytes.bytes.items → ⊥ = search rules in
          inr (respelled c.args.word.now _ other c.in_ok-bytes.ensures.ok unlike)
    ]
