use Rattle.std.proofs.Common.{◌≡◌, ℕ, List, [], length, slice_index_or, length-set, refl, ap, ◌∙◌, arith}
use Rattle.lms.specs.Parameters.{chain_end, width}
use Rattle.lms.specs.Chains.{coef, coefficient}
use Rattle.lms.specs.steps.Lanes.{cut_chain}
use Rattle.lms.proofs.Counts.{count_small}
use Rattle.lms.proofs.Started.{started_more}
use Rattle.lms.proofs.lanes.cut_chains.Goals as goal

pub loop-i-preserved : goal.loop-i-preserved
loop-i-preserved c =
    let cs = c.loop-i.chains in
    let i = c.loop-i.i in
    let elements = c.args.elements.now in
    let g = cut_chain c.args.ots c.args.hash.now elements in
    let from : c.coef.result ≡ coefficient c.args.ots c.args.hash.now i
    = c.coef.ensures ∙ ap (λ (xs : List ℕ). coef xs i (width c.args.ots)) c.with_checksum-cut.ensures in
    let to : c.chain_end-to.result ≡ chain_end c.args.ots = c.chain_end-to.ensures in
    let short = count_small c.args.ots in
    record {
      len = length-set cs i _ ∙ c.loop-i.invariant.len;
      done = started_more g cs i i _ refl (omega (arith, short, c.loop-i.invariant.len))
          (λ k. record { index = i; from = from k; to = to k; value = slice_index_or elements i [] }) c.loop-i.invariant.done;
    }

pub returns : goal.returns
returns c =
    let g = cut_chain c.args.ots c.args.hash.now c.args.elements.now in
    let done : c.loop-i.i ≡ length c.args.elements.now = omega arith in
    rw (← c.requires, ← done) c.loop-i.invariant.done
