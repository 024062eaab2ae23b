use Rattle.http_messages.proofs.Frames.{name-text}
use Rattle.http_messages.proofs.framing.read_name.Goals as goal

pub returns-in-Err-clause-none : goal.returns-in-Err-clause-none
returns-in-Err-clause-none c = λ h. c.in-Err.ensures.cases.0 (name-text c.args.text.now h)
