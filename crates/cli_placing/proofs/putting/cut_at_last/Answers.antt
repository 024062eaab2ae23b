use Rattle.std.proofs.Common.{arith}
use Rattle.std.proofs.lemmas.Str.Pattern.{rfind_char}
use Rattle.path_patterns.proofs.LastSegment.{cut_nowhere, cut_behind}
use Rattle.cli_placing.proofs.putting.cut_at_last.Goals as goal

pub returns-in-None : goal.returns-in-None
returns-in-None c =
    let found = rfind_char 47 c.args.place.now c.rfind.result c.rfind.ensures.cases (omega arith) in
    let none = rw c.in-None.is at found in
    cut_nowhere c.args.place.now none

pub returns-in-Some : goal.returns-in-Some
returns-in-Some c =
    let found = rfind_char 47 c.args.place.now c.rfind.result c.rfind.ensures.cases (omega arith) in
    let some = rw c.in-Some.is at found in
    rw (c.split_at.ensures.front, c.split_at.ensures.back) (cut_behind c.args.place.now c.in-Some.slash some.0 some.1 some.2)
