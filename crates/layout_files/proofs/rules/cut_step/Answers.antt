use Rattle.std.proofs.Common.{rules, ◌≡◌, List, [], ◌∷◌, codes, length, string_bytes, refl, arith}
use Rattle.layout_files.proofs.rules.cut_step.Goals as goal

none_left : {A : Type 0} (xs : List A) → length xs ≡ 0 → xs ≡ []
none_left [] h = refl
none_left (x ∷ xs) h = absurd (omega (arith, h))

pub returns-in-None : goal.returns-in-None
returns-in-None c =
    let words : c.args.words.now ≡ c.in_ok-first.first.now ∷ c.in_ok-first.rest.now = search rules in
    let rest : c.in_ok-first.rest.now ≡ c.in_ok-step.step.now ∷ c.in_ok-step.later.now = search rules in
    let few : length c.in_ok-step.later.now ≡ 0 = search rules in
    let last = none_left c.in_ok-step.later.now few in
    let from : string_bytes c.in_ok-first.first.now ≡ codes "FROM" = search rules in
    let step : c.as_str-in-None.result.now ≡ string_bytes c.in_ok-step.step.now = search rules in
    rw (words, rest, last, from, step) refl
