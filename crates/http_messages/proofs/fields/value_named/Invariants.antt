use Rattle.std.proofs.Common.{◌≡◌, drop, map}
use Rattle.httparse.specs.Spans.{header_bytes}
use Rattle.http_messages.specs.Length.{first_named}
use Rattle.http_messages.proofs.fields.value_named.Given as goal

-- the first of those that are left is the first of all
abbrev pub invariant-loop-header : goal.invariant-loop-header
invariant-loop-header l = first_named l.word (map (header_bytes l.got) (drop l.header-index l.headers)) ≡ first_named l.word (map (header_bytes l.got) l.headers)
