use Rattle.std.proofs.Common.{◌≡◌, ℕ, List, length, take, length-take-le, ap, sym, ◌∙◌, arith}
use Rattle.lms.specs.declared.lanes.Chain.{Chain}
use Rattle.lms.specs.Chains.{ends_hash}
use Rattle.lms.specs.steps.Lanes.{all_ends, all_left, cut_chains}
use Rattle.lms.proofs.Counts.{chain_steps_small, count_small}
use Rattle.lms.proofs.Started.{cut_ends, cut_left}
use Rattle.lms.proofs.chains.candidate.Goals as goal

pub slice_bounds-key_of-end : goal.slice_bounds-key_of-end
slice_bounds-key_of-end c = sym (length-take-le (length c.args.elements.now) c.cut_chains-chains.result (omega (arith, count_small c.args.ots, c.requires.elements)))

pub key_of-requires : goal.key_of-requires
key_of-requires c =
    let cs = c.cut_chains-chains.result in
    let started : take (length c.args.elements.now) cs ≡ cut_chains c.args.ots c.args.hash.now c.args.elements.now
    = ap (λ (k : ℕ). take k cs) c.requires.elements ∙ c.cut_chains-chains.ensures in
    let left = ap all_left started ∙ cut_left c.args.ots c.args.hash.now c.args.elements.now c.requires.elements in
    omega (arith, left, chain_steps_small c.args.ots c.args.hash.now, c.requires.room)

pub returns-clause-value : goal.returns-clause-value
returns-clause-value c =
    let cs = c.cut_chains-chains.result in
    let id = c.args.identifier.now in
    let started : take (length c.args.elements.now) cs ≡ cut_chains c.args.ots c.args.hash.now c.args.elements.now
    = ap (λ (k : ℕ). take k cs) c.requires.elements ∙ c.cut_chains-chains.ensures in
    c.key_of.ensures.value
    ∙ ap (λ (xs : List Chain). ends_hash id c.args.q (all_ends id c.args.q xs)) started
    ∙ ap (ends_hash id c.args.q) (cut_ends c.args.ots id c.args.q c.args.hash.now c.args.elements.now)

pub returns-clause-count : goal.returns-clause-count
returns-clause-count c =
    let cs = c.cut_chains-chains.result in
    let started : take (length c.args.elements.now) cs ≡ cut_chains c.args.ots c.args.hash.now c.args.elements.now
    = ap (λ (k : ℕ). take k cs) c.requires.elements ∙ c.cut_chains-chains.ensures in
    let left = ap all_left started ∙ cut_left c.args.ots c.args.hash.now c.args.elements.now c.requires.elements in
    omega (arith, left, c.key_of.ensures.count)
