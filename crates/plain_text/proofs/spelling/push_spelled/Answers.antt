use Rattle.std.proofs.Common.{rules}
use Rattle.plain_text.proofs.Spelled.{control_bytes, hidden_bytes, kept_bytes}
use Rattle.plain_text.proofs.spelling.push_spelled.Goals as goal

pub returns-then-is_control : goal.returns-then-is_control
returns-then-is_control c = rw (control_bytes c.args.c (search rules)) (search rules)

pub returns-then-is_hidden : goal.returns-then-is_hidden
returns-then-is_hidden c = rw (hidden_bytes c.args.c (search rules) (search rules)) (search rules)

pub returns : goal.returns
returns c = rw (kept_bytes c.args.c (search rules) (search rules) c.if-c-eq92.false) (search rules)
