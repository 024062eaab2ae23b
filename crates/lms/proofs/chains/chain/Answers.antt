use Rattle.std.proofs.Common.{◌≡◌, ◌≤◌, ◌+◌, ◌++◌, ◌∷◌, ℕ, List, length, length-drop, drop, sym, ap, ◌∙◌, arith}
use Rattle.sha2.specs.Sha256.{sha256}
use Rattle.lms.specs.Chains.{chain_step, chain}
use Rattle.std.proofs.lemmas.List.{take_all}
use Rattle.lms.proofs.Runs.{one_step, no_step}
use Rattle.lms.proofs.chains.chain.Goals as goal

pub loop-j-preserved : goal.loop-j-preserved
loop-j-preserved c =
    let tmp = drop 23 c.loop-j.input in
    let next : drop 23 c.chain_step.new.input ≡ chain_step c.args.identifier.now c.args.q c.args.i tmp c.loop-j.j
    = c.chain_step.ensures.back ∙ ap (λ (xs : List ℕ). sha256 (xs ++ c.loop-j.j ∷ tmp)) c.loop-j.invariant.front in
    record {
      front = c.chain_step.ensures.front ∙ c.loop-j.invariant.front;
      value = ap (chain c.args.identifier.now c.args.q c.args.i (c.loop-j.j + 1) c.args.to) next
          ∙ sym (one_step (chain_step c.args.identifier.now c.args.q c.args.i) tmp c.loop-j.j c.args.to c.loop-j-test.true) ∙ c.loop-j.invariant.value;
      count = omega arith;
    }

pub returns-clause-value : goal.returns-clause-value
returns-clause-value c =
    let tmp = drop 23 c.loop-j.input in
    let n : length tmp ≤ 32 = omega (arith, length-drop 23 c.loop-j.input) in
    let same : c.copy_from_slice.new.self ≡ tmp = c.copy_from_slice.ensures.after ∙ take_all 32 tmp n in
    same ∙ sym (no_step (chain_step c.args.identifier.now c.args.q c.args.i) tmp c.loop-j.j c.args.to c.loop-j-test.false) ∙ c.loop-j.invariant.value
