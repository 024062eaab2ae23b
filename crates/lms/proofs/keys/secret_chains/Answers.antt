use Rattle.std.proofs.Common.{◌≡◌, length-set, ◌∙◌, arith}
use Rattle.lms.specs.Parameters.{chain_end}
use Rattle.lms.specs.Keys.{derived}
use Rattle.lms.specs.steps.Lanes.{seed_chain}
use Rattle.lms.proofs.Counts.{count_small}
use Rattle.lms.proofs.Started.{started_more}
use Rattle.lms.proofs.keys.secret_chains.Goals as goal

pub loop-i-preserved : goal.loop-i-preserved
loop-i-preserved c =
    let cs = c.loop-i.chains in
    let i = c.loop-i.i in
    let seed = c.args.seed.now in
    let to : c.chain_end-to.result ≡ chain_end c.args.ots = c.chain_end-to.ensures in
    let value : c.derived.result ≡ derived seed.identifier seed.secret c.args.q i = c.derived.ensures in
    let short = count_small c.args.ots in
    record {
      len = length-set cs _ _ ∙ c.loop-i.invariant.len;
      done = started_more (λ j. seed_chain seed.identifier seed.secret c.args.q (chain_end c.args.ots) j) cs i _ _ c.from.ensures
          (omega (arith, short, c.loop-i.invariant.len, c.chain_count-count.ensures))
          (λ k. record { index = i; from = 0; to = to k; value = value k }) c.loop-i.invariant.done;
    }

pub returns : goal.returns
returns c =
    let done : c.loop-i.i ≡ c.chain_count-count.result = omega arith in
    rw (← c.chain_count-count.ensures, ← done) c.loop-i.invariant.done
