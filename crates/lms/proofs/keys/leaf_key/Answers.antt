use Rattle.std.proofs.Common.{◌≡◌, ℕ, List, take, ap, ◌∙◌}
use Rattle.lms.specs.declared.lanes.Chain.{Chain}
use Rattle.lms.specs.Chains.{ends_hash}
use Rattle.lms.specs.steps.Lanes.{all_ends, secret_chains}
use Rattle.lms.proofs.Started.{secret_ends}
use Rattle.lms.proofs.keys.leaf_key.Goals as goal

pub returns : goal.returns
returns c =
    let cs = c.secret_chains-chains.result in
    let seed = c.args.seed.now in
    let id = seed.identifier in
    let started : take c.from-count.result cs ≡ secret_chains c.args.ots id seed.secret c.args.q
    = ap (λ (k : ℕ). take k cs) (c.from-count.ensures ∙ c.chain_count.ensures) ∙ c.secret_chains-chains.ensures in
    c.key_of.ensures.value
    ∙ ap (λ (xs : List Chain). ends_hash id c.args.q (all_ends id c.args.q xs)) started
    ∙ ap (ends_hash id c.args.q) (secret_ends c.args.ots id seed.secret c.args.q)
