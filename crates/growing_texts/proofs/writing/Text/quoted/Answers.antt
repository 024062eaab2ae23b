use Rattle.std.proofs.Common.{ℕ, List, [], ◌∷◌, ◌++◌, map, sym, subst}
use Rattle.std.specs.List.{concat}
use Rattle.std.proofs.lemmas.List.{append_assoc}
use Rattle.growing_texts.specs.Texts.{Says, in_quotes}
use Rattle.growing_texts.proofs.Saying.{then}
use Rattle.growing_texts.proofs.writing.Text.quoted.Goals as goal

pub bytes-preserved : goal.bytes-preserved
bytes-preserved c t h =
    let left : List ℕ = concat (map in_quotes c.in-Some.later.now) in
    c.bytes.invariant t
    (subst (λ (rest : List ℕ). Says c.bytes.self t (concat (map in_quotes rest) ++ 34 ∷ [])) (sym c.in-Some.ensures.cases.0)
    (subst (λ (more : List ℕ). Says c.bytes.self t more) (sym (append_assoc (in_quotes c.in-Some.byte.now) left (34 ∷ [])))
    (then c.bytes.self c.in_quotes.new.self t (in_quotes c.in-Some.byte.now) (left ++ 34 ∷ []) c.in_quotes.ensures h)))
