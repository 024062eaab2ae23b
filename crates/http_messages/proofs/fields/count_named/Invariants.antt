use Rattle.std.proofs.Common.{◌≡◌, ◌≤◌, ◌+◌, drop, map}
use Rattle.httparse.specs.Spans.{header_bytes}
use Rattle.http_messages.specs.Length.{count_named}
use Rattle.http_messages.proofs.fields.count_named.Given as goal

abbrev pub invariant-loop-header : goal.invariant-loop-header
invariant-loop-header l = record {
  count : l.count + count_named l.word (map (header_bytes l.got) (drop l.header-index l.headers)) ≡ count_named l.word (map (header_bytes l.got) l.headers);
  bound : l.count ≤ l.header-index;
}
