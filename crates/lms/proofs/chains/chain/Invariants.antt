use Rattle.std.proofs.Common.{◌≡◌, ◌+◌, ◌-◌, ◌++◌, take, drop}
use Rattle.lms.specs.Text.{u16, u32}
use Rattle.lms.specs.Chains.{chain}
use Rattle.lms.proofs.chains.chain.Given as goal

abbrev pub invariant-loop-j : goal.invariant-loop-j
invariant-loop-j l = record {
  front : take 22 l.input ≡ l.identifier ++ u32 l.q ++ u16 l.i;
  value : chain l.identifier l.q l.i l.j l.to (drop 23 l.input) ≡ chain l.identifier l.q l.i l.fn.from l.fn.to l.start;
  count : l.steps + (l.to - l.j) ≡ l.initial.steps + (l.fn.to - l.fn.from);
}
