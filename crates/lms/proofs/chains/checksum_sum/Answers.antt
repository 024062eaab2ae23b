use Rattle.std.proofs.Common.{◌≡◌, ◌-◌, ◌/◌, ◌≤◌, ℕ, ap, ◌∙◌, arith}
use Rattle.lms.specs.Parameters.{width, chain_end}
use Rattle.lms.specs.Chains.{coef, checksum_sum}
use Rattle.lms.proofs.Counts.{sum_more, sum_done}
use Rattle.lms.proofs.chains.checksum_sum.Goals as goal

pub loop-i-preserved : goal.loop-i-preserved
loop-i-preserved c =
    let d : c.from-sum.result ≡ chain_end c.args.ots - coef c.args.hash.now c.loop-i.i (width c.args.ots)
    = c.from-sum.ensures ∙ ap (λ (x : ℕ). x - c.coef.result) c.chain_end.ensures ∙ ap (λ (x : ℕ). chain_end c.args.ots - x) c.coef.ensures in
    let few : c.from-sum.result ≤ chain_end c.args.ots = omega (arith, c.from-sum.ensures, c.chain_end.ensures) in
    record {
      value = sum_more (λ i. chain_end c.args.ots - coef c.args.hash.now i (width c.args.ots)) c.loop-i.i (256 / c.width-count.result)
          c.loop-i.sum c.from-sum.result (checksum_sum c.args.ots c.args.hash.now) c.loop-i-test.true d c.loop-i.invariant.value;
      bound = omega (arith, few, c.loop-i.invariant.bound);
    }

pub returns-clause-sum : goal.returns-clause-sum
returns-clause-sum c =
    sum_done (λ i. chain_end c.args.ots - coef c.args.hash.now i (width c.args.ots)) c.loop-i.i (256 / c.width-count.result)
    c.loop-i.sum (checksum_sum c.args.ots c.args.hash.now) c.loop-i-test.false c.loop-i.invariant.value
