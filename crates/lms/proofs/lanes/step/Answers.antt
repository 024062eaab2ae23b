use Rattle.std.proofs.Common.{ℕ, List, [], slice_index_or, ap, ◌∙◌, arith}
use Rattle.sha2.specs.Sha256.{sha256}
use Rattle.lms.specs.steps.Lanes.{chain_at}
use Rattle.lms.proofs.Advances.{below_four, one_ahead}
use Rattle.lms.proofs.lanes.step.Goals as goal

pub returns-clause-ahead : goal.returns-clause-ahead
returns-clause-ahead c =
    let id = c.args.identifier.now in
    let q = c.args.q in
    let cs = c.args.chains.now in
    let value = c.finish_lanes.ensures.value in
    let at : ℕ → List (List ℕ) → List ℕ = λ i xs. slice_index_or xs i [] in
    below_four _
    (one_ahead id q (chain_at cs 0) c.moved.result _ (c.requires.going 0 (omega arith)) (ap (at 0) value ∙ ap sha256 c.message.ensures) c.moved.ensures)
    (one_ahead id q (chain_at cs 1) c.moved-2.result _ (c.requires.going 1 (omega arith)) (ap (at 1) value ∙ ap sha256 c.message-2.ensures) c.moved-2.ensures)
    (one_ahead id q (chain_at cs 2) c.moved-3.result _ (c.requires.going 2 (omega arith)) (ap (at 2) value ∙ ap sha256 c.message-3.ensures) c.moved-3.ensures)
    (one_ahead id q (chain_at cs 3) c.moved-4.result _ (c.requires.going 3 (omega arith)) (ap (at 3) value ∙ ap sha256 c.message-4.ensures) c.moved-4.ensures)
