use Rattle.std.proofs.Common.{◌≡◌}
use Rattle.lms.specs.Keys.{leaf_count}
use Rattle.lms.specs.steps.Leaves.{leaf_nodes as leaf_nodes_of}
use Rattle.lms.proofs.keys.leaf_nodes.Given as goal

abbrev pub invariant-loop-q : goal.invariant-loop-q
invariant-loop-q l = l.hashes.items ≡ leaf_nodes_of l.fn.params.ots l.seed.identifier l.seed.secret (leaf_count l.fn.params) l.q
