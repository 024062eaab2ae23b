use Rattle.std.proofs.Common.{◌≤◌, min}
use Rattle.served_files.specs.steps.Visits.{Became, TellsRoots}
use Rattle.served_files.proofs.visiting.visit_roots.Given as goal

abbrev pub invariant-loop-before : goal.invariant-loop-before
invariant-loop-before g l = record {
  told : Became g.V.FileVisitor.Stands l.initial.visitor l.visitor (λ files more. TellsRoots files l.before l.last more);
  low : min l.after l.last ≤ l.before;
}
