use Rattle.std.proofs.Common.{◌≡◌, ◌≤◌, ◌-◌, ◌+◌, ◌*◌, ◌++◌, flat_map, vec_len, vec_capacity}
use Rattle.std.specs.List.{range_with_len}
use Rattle.lms.specs.Chains.{below}
use Rattle.lms.specs.Keys.{path_hash}
use Rattle.lms.proofs.signing.put_path.Given as goal

abbrev pub invariant-loop-i : goal.invariant-loop-i
invariant-loop-i l = record {
  items : l.out.items ++ flat_map (path_hash l.fn.lms l.ots l.seed.identifier l.seed.secret l.q) (range_with_len l.i (l.levels - l.i))
      ≡ l.initial.out.items ++ flat_map (path_hash l.fn.lms l.ots l.seed.identifier l.seed.secret l.q) (below l.levels);
  len : vec_len l.out ≡ vec_len l.initial.out + 32 * l.i;
  capacity : vec_capacity l.initial.out ≤ vec_capacity l.out;
}
