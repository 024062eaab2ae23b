use Rattle.path_patterns.specs.steps.Walking.{free_of}
use Rattle.path_patterns.proofs.LastRun.{begins, passed, new_run, new_run_is_less}
use Rattle.path_patterns.proofs.wildcards.Wildcards.matches.Goals as goal

pub bytes-init : goal.bytes-init
bytes-init c = begins (free_of c.args.self) c.args.pattern.now c.args.text.now

pub bytes-preserved-in-Passed : goal.bytes-preserved-in-Passed
bytes-preserved-in-Passed c =
    let h = c.in-Passed.ensures in
    passed (free_of c.args.self) _ _ _ _ _ h.0 h.1 _ _ c.bytes.invariant h.2 h.3 h.4 h.5

pub bytes-smaller-in-Run : goal.bytes-smaller-in-Run
bytes-smaller-in-Run c =
    let h = c.in-Run.ensures in
    new_run_is_less (free_of c.args.self) _ _ _ _ _ c.in-Run.behind c.bytes.invariant h.0 h.1

pub bytes-preserved-in-Run : goal.bytes-preserved-in-Run
bytes-preserved-in-Run c =
    let h = c.in-Run.ensures in
    new_run (free_of c.args.self) _ _ _ _ _ _ c.bytes.invariant h.0 h.1
