use Rattle.std.proofs.Common.{sym}
use Rattle.path_patterns.specs.steps.Walking.{free_of}
use Rattle.path_patterns.proofs.Greedy.{no_byte, other_byte}
use Rattle.path_patterns.proofs.wildcards.Rest.next.Goals as goal

pub returns-in_default-split_first : goal.returns-in_default-split_first
returns-in_default-split_first c =
    no_byte (free_of c.args.wildcards) _ _ _ _ c.in-Some.ensures.cases.0 c.in_default-split_first.ensures.cases c.if-c-eq42.false

pub returns-else-pass : goal.returns-else-pass
returns-else-pass c =
    other_byte (free_of c.args.wildcards) _ _ _ _ _ _ c.in-Some.ensures.cases.0 c.in-Some-split_first.ensures.cases.0 c.if-c-eq42.false (sym c.if-pass.ensures)
