use Rattle.std.proofs.Common.{rules, ◌≡◌, inr, length}
use Rattle.verdicts.proofs.Hexes.{of_no_key}
use Rattle.verdicts.proofs.words.key_of.Goals as goal

pub returns-clause-fault : goal.returns-clause-fault
returns-clause-fault c =
    let not_lms : length c.in_ok-bytes.bytes.items ≡ 56 → ⊥ = search rules in
    let not_hss : length c.in_ok-bytes.bytes.items ≡ 60 → ⊥ = search rules in
    let found = c.in_ok-bytes.ensures.bytes in
    inr (of_no_key c.args.word.now c.in_ok-bytes.bytes.items found.0 found.1 not_lms not_hss)
