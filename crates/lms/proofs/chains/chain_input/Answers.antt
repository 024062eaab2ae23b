use Rattle.std.proofs.Common.{◌++◌, ℕ, List, length, ap, ◌∙◌, arith}
use Rattle.lms.specs.Text.{u16}
use Rattle.lms.proofs.Placed.{placed_first, placed_at, keeps, ends}
use Rattle.lms.proofs.chains.chain_input.Goals as goal

pub returns-clause-front : goal.returns-clause-front
returns-clause-front c =
    let one = placed_first (length c.args.identifier.now) 16 c.place.new.target c.args.identifier.now (omega arith) c.place.ensures.front in
    let two = placed_at 16 (length c.to_be_bytes.result) 20 c.place.new.target c.place-2.new.target c.to_be_bytes.result (omega arith) c.place-2.ensures.front in
    let three = placed_at 20 (length c.to_be_bytes-2.result) 22 c.place-2.new.target c.place-3.new.target c.to_be_bytes-2.result (omega arith) c.place-3.ensures.front in
    let four = keeps 22 23 (length c.args.start.now) c.place-3.new.target c.place-4.new.target c.args.start.now (omega arith) (omega arith) c.place-4.ensures.front in
    four ∙ three ∙ ap (λ (xs : List ℕ). xs ++ c.to_be_bytes-2.result) (two ∙ ap (λ (xs : List ℕ). xs ++ c.to_be_bytes.result) one)
    ∙ ap (λ (xs : List ℕ). (c.args.identifier.now ++ c.to_be_bytes.result) ++ xs) c.to_be_bytes-2.ensures
    ∙ ap (λ (xs : List ℕ). (c.args.identifier.now ++ xs) ++ u16 c.args.i) c.to_be_bytes.ensures

pub returns-clause-back : goal.returns-clause-back
returns-clause-back c =
    ends 23 (length c.args.start.now) c.place-3.new.target c.place-4.new.target c.args.start.now (omega arith) (omega arith) c.place-4.ensures.front
