use Rattle.std.proofs.Common.{◌/◌, rules}
use Rattle.canonical_json.specs.Spelling.{numeral}
use Rattle.canonical_json.proofs.Appending.{first_digit, last_digit}
use Rattle.canonical_json.proofs.Room.{appended_len, digits_some, digits_more}
use Rattle.canonical_json.proofs.writer.+digits.Goals as goal
use Rattle.canonical_json.proofs.writer.+digits.Goals.{then-n-ge10+in_ok-digits, else-n-ge10}

pub returns-clause-ok : goal.returns-clause-ok
returns-clause-ok t c =
    elim c.if-n-ge10.branch [
      | then-n-ge10+in_ok-digits w ↦ last_digit c.args.n c.args.out.now.items c.if-n-ge10.out.items c.push.new.self.items (search rules) (search rules) (search rules)
      | else-n-ge10 w ↦ first_digit c.args.n c.args.out.now.items c.if-n-ge10.out.items c.push.new.self.items (search rules) (search rules) (search rules)
    ]

pub returns-in_err-digits-clause-short : goal.returns-in_err-digits-clause-short
returns-in_err-digits-clause-short t c =
    let more = digits_more c.args.n (search rules) in
    search rules

pub returns-in_err-push-clause-short : goal.returns-in_err-push-clause-short
returns-in_err-push-clause-short t c =
    let some = digits_some c.args.n in
    elim c.if-n-ge10.branch [
      | then-n-ge10+in_ok-digits w ↦ let more = digits_more c.args.n (search rules) in let written = appended_len c.args.out.now c.if-n-ge10.out (numeral (c.args.n / 10)) (search rules) in search rules
      | else-n-ge10 w ↦ search rules
    ]
