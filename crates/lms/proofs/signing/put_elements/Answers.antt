use Rattle.std.proofs.Common.{◌≡◌, ℕ, List, ◌++◌, take, length-take-le, ap, sym, ◌∙◌, arith}
use Rattle.std.specs.List.{concat}
use Rattle.lms.specs.declared.lanes.Chain.{Chain}
use Rattle.lms.specs.steps.Lanes.{all_ends, all_left, element_chains}
use Rattle.lms.proofs.Counts.{count_small}
use Rattle.lms.proofs.Started.{element_ends, element_left}
use Rattle.lms.proofs.signing.put_elements.Goals as goal

pub slice_bounds-chains-end : goal.slice_bounds-chains-end
slice_bounds-chains-end c =
    sym (length-take-le c.from-count.result c.element_chains-all.result (omega (arith, count_small c.args.ots, c.from-count.ensures, c.chain_count.ensures)))

pub run_lanes-requires : goal.run_lanes-requires
run_lanes-requires c =
    let cs = c.element_chains-all.result in
    let seed = c.args.seed.now in
    let started : take c.from-count.result cs ≡ element_chains c.args.ots seed.identifier seed.secret c.args.q c.args.hash.now
    = ap (λ (k : ℕ). take k cs) (c.from-count.ensures ∙ c.chain_count.ensures) ∙ c.element_chains-all.ensures in
    omega (arith, ap all_left started, element_left c.args.ots seed.identifier seed.secret c.args.q c.args.hash.now)

pub returns-clause-items : goal.returns-clause-items
returns-clause-items c =
    let cs = c.element_chains-all.result in
    let seed = c.args.seed.now in
    let id = seed.identifier in
    let items = c.args.out.now.items in
    let started : take c.from-count.result cs ≡ element_chains c.args.ots id seed.secret c.args.q c.args.hash.now
    = ap (λ (k : ℕ). take k cs) (c.from-count.ensures ∙ c.chain_count.ensures) ∙ c.element_chains-all.ensures in
    c.put_ends.ensures.items
    ∙ ap (λ (xs : List (List ℕ)). items ++ concat xs) c.run_lanes.ensures.ends
    ∙ ap (λ (xs : List Chain). items ++ all_ends id c.args.q xs) started
    ∙ ap (λ (xs : List ℕ). items ++ xs) (element_ends c.args.ots id seed.secret c.args.q c.args.hash.now)

pub returns-clause-len : goal.returns-clause-len
returns-clause-len c =
    let n = length-take-le c.from-count.result c.element_chains-all.result (omega (arith, count_small c.args.ots, c.from-count.ensures, c.chain_count.ensures)) in
    omega (arith, n, c.put_ends.ensures.len, c.from-count.ensures, c.chain_count.ensures)
