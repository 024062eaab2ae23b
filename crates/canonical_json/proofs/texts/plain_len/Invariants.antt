use Rattle.std.proofs.Common.{◌-◌, ◌≤◌, length}
use Rattle.canonical_json.proofs.TextSteps.{StandForThemselves}
use Rattle.canonical_json.proofs.texts.plain_len.Given as goal

abbrev pub invariant-plain : goal.invariant-plain
invariant-plain l = record {
  within : l.len ≤ length l.fn.bytes;
  plain : StandForThemselves l.fn.bytes l.len;
}

abbrev pub decreases-plain : goal.decreases-plain
decreases-plain l = length l.fn.bytes - l.len
