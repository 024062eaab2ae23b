use Rattle.std.proofs.Common.{string_bytes}
use Rattle.drafting.proofs.Moments.{text_shown}
use Rattle.drafting.proofs.dates.date_text.Goals as goal

pub returns-in-Ok-clause-ok : goal.returns-in-Ok-clause-ok
returns-in-Ok-clause-ok c =
    let s = c.in-Some.shown in
    text_shown (string_bytes c.in-Ok.text) c.args.moment s.year s.month s.day s.hour s.minute s.second c.in-Some.ensures.some c.in-Ok.ensures
