use Rattle.std.proofs.Common.{◌≡◌, map, string_bytes, take}
use Rattle.cli_tasks.proofs.given.copied.Given as goal

abbrev pub invariant-loop-text : goal.invariant-loop-text
invariant-loop-text l = map string_bytes l.texts.items ≡ map (λ t. t.now) (take l.text-index l.found)
