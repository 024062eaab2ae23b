use Rattle.std.proofs.Common.{rules, ◌≡◌, inr, length}
use Rattle.verdicts.proofs.Hexes.{of_another_length}
use Rattle.verdicts.proofs.words.array_of.Goals as goal

pub returns-clause-fault : goal.returns-clause-fault
returns-clause-fault g c =
    let unlike : length c.in_ok-bytes.bytes.items ≡ g.row.N → ⊥ = search rules in
    let found = c.in_ok-bytes.ensures.bytes in
    inr (of_another_length c.args.word.now c.in_ok-bytes.bytes.items g.row.N found.0 found.1 unlike)
