use Rattle.std.proofs.Common.{sym, subst, ◌↔◌, IsTrue, Bool}
use Rattle.path_patterns.specs.Grammar.{IsTargetPath}
use Rattle.path_patterns.proofs.Segments.{path_tells}
use Rattle.path_patterns.proofs.grammar.is_target_path.Goals as goal

pub returns-then-text-le-LONGEST_PATH : goal.returns-then-text-le-LONGEST_PATH
returns-then-text-le-LONGEST_PATH c =
    subst (λ (b : Bool). IsTrue b ↔ IsTargetPath c.args.text.now) (sym c.are_segments.ensures) (path_tells c.args.text.now c.if-text-le-LONGEST_PATH.true)
