use Rattle.std.proofs.Common.{rules, ◌≡◌, inr, decimal}
use Rattle.verdicts.proofs.Leaves.{no_text, unparsed, respelled}
use Rattle.verdicts.proofs.words.leaf_of.Goals as goal

pub returns-in_default-clause-fault : goal.returns-in_default-clause-fault
returns-in_default-clause-fault c = inr (no_text c.args.word.now c.in_default.ensures.cases.0)

pub returns-in_default-parse-clause-fault : goal.returns-in_default-parse-clause-fault
returns-in_default-parse-clause-fault c =
    inr (unparsed c.args.word.now c.in-Ok.text.now c.parse.result _ c.in-Ok.ensures.cases.0 (search rules) c.in_default-parse.is)

pub returns-then-ne-clause-fault : goal.returns-then-ne-clause-fault
returns-then-ne-clause-fault c =
    let unlike : c.args.word.now ≡ decimal c.in-Ok-parse.leaf → ⊥ = search rules in
    inr (respelled c.args.word.now c.in-Ok.text.now c.parse.result c.in-Ok-parse.leaf c.in-Ok.ensures.cases.0 (search rules) c.in-Ok-parse.is unlike)
