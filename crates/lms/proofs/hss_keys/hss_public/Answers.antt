use Rattle.std.proofs.Common.{◌++◌, List, ℕ, length, ap, ◌∙◌, arith}
use Rattle.lms.proofs.Placed.{placed_first, filled}
use Rattle.lms.proofs.hss_keys.hss_public.Goals as goal

pub returns : goal.returns
returns c =
    let word = c.to_be_bytes.result in
    let top = c.args.top.now in
    let first = placed_first (length word) 4 c.place.new.target word (omega arith) c.place.ensures.front in
    let second = filled 4 (length top) c.place.new.target c.place-2.new.target top (omega arith) c.place-2.ensures.front in
    second ∙ ap (λ (xs : List ℕ). xs ++ top) (first ∙ c.to_be_bytes.ensures)
