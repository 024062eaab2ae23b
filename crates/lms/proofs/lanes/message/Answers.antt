use Rattle.std.proofs.Common.{◌++◌, ◌∷◌, ℕ, List, drop, ap, ◌∙◌}
use Rattle.lms.specs.Text.{u16, u32}
use Rattle.lms.proofs.Placed.{one_placed}
use Rattle.lms.proofs.lanes.message.Goals as goal

pub returns : goal.returns
returns c =
    let chain = c.args.chain.now in
    let input = c.chain_input-input.result in
    one_placed 22 input c.place.new.target chain.from c.place.ensures.front c.place.ensures.back
    ∙ ap (λ (xs : List ℕ). xs ++ chain.from ∷ drop 23 input) c.chain_input-input.ensures.front
    ∙ ap (λ (xs : List ℕ). (c.args.identifier.now ++ u32 c.args.q ++ u16 chain.index) ++ chain.from ∷ xs) c.chain_input-input.ensures.back
