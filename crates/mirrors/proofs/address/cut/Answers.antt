use Rattle.std.proofs.Common.{arith}
use Rattle.std.proofs.lemmas.Str.Pattern.{find_char}
use Rattle.mirrors.proofs.Cutting.{cut_nowhere, cut_before}
use Rattle.mirrors.proofs.address.cut.Goals as goal

pub returns-in-Some : goal.returns-in-Some
returns-in-Some c =
    let found = find_char 47 c.args.text.now c.find.result c.find.ensures.cases (omega arith) in
    let some = rw c.in-Some.is at found in
    rw (c.split_at.ensures.front, c.split_at.ensures.back) (cut_before c.args.text.now c.in-Some.slash some.0 some.1 some.2)

pub returns-in-None : goal.returns-in-None
returns-in-None c =
    let found = find_char 47 c.args.text.now c.find.result c.find.ensures.cases (omega arith) in
    let none = rw c.in-None.is at found in
    cut_nowhere c.args.text.now none
