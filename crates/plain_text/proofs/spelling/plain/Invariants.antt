use Rattle.std.proofs.Common.{◌≡◌, encode_utf8_all, flat_map, string_bytes}
use Rattle.plain_text.specs.Spelling.{spelling_of}
use Rattle.plain_text.proofs.spelling.plain.Given as goal

-- what is read so far is spelled
abbrev pub invariant-loop-c : goal.invariant-loop-c
invariant-loop-c l = string_bytes l.spelled ≡ encode_utf8_all (flat_map spelling_of l.yielded)
