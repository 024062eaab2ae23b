use Rattle.std.proofs.Common.{◌≡◌, ◌+◌, drop}
use Rattle.lms.specs.Tree.{root_over}
use Rattle.lms.proofs.tree.root_over.Given as goal

abbrev pub invariant-loop-sibling : goal.invariant-loop-sibling
invariant-loop-sibling l = record {
  value : root_over l.identifier l.node l.here (drop l.sibling-index l.path) ≡ root_over l.identifier l.fn.node l.fn.start l.path;
  count : l.steps ≡ l.initial.steps + l.sibling-index;
}
