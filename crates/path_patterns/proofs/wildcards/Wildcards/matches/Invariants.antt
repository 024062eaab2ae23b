use Rattle.std.proofs.Common.{◌+◌, ◌*◌, length}
use Rattle.path_patterns.specs.steps.Walking.{free_of}
use Rattle.path_patterns.proofs.LastRun.{Goes, text_of}
use Rattle.path_patterns.proofs.wildcards.Wildcards.matches.Given as goal

abbrev pub invariant-bytes : goal.invariant-bytes
invariant-bytes l = Goes (free_of l.self) l.fn.pattern l.fn.text l.run l.rest.pattern.now l.rest.text.now

-- at most as many steps as the product of the two lengths, each one more
abbrev pub decreases-bytes : goal.decreases-bytes
decreases-bytes l = length (text_of l.run l.fn.text) * (length l.fn.pattern + 1) + length l.rest.pattern.now
