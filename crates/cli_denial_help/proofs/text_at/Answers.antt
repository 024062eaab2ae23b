use Rattle.std.proofs.Common.{◌≡◌, ◌≤◌, ◌<◌, ◌∙◌, Bor, HoldsAt, MatchOption, Option, None, Some, length, ℕ, List, map, sym, ap}
use Rattle.std.specs.Prelude.{option_map, slice_get}
use Rattle.std.proofs.lemmas.Option.{slice_get-get_or, slice_get-map, slice_get_past}
use Rattle.cli_denial_help.proofs.text_at.Goals as goal

-- what is found at a place of these texts
found : (rows : List (Bor (List ℕ))) (i : ℕ) (r : Option (Bor (Bor (List ℕ))))
    → MatchOption r (length rows ≤ i) (λ y. (i < length rows) × HoldsAt (λ z. y.now ≡ z) rows i)
    → option_map (λ y. y.now.now) r ≡ slice_get (map (λ b. b.now) rows) i
found rows i None h = sym (slice_get-map (λ b. b.now) rows i ∙ ap (option_map (λ b. b.now)) (slice_get_past rows i h))
found rows i (Some y) h =
    sym (slice_get-map (λ b. b.now) rows i ∙ ap (option_map (λ b. b.now)) (slice_get-get_or rows i y.now h.0 ∙ ap Some (sym (h.1 y.now))))

pub returns-in-Some : goal.returns-in-Some
returns-in-Some c = ap (option_map (λ y. y.now.now)) (sym c.in-Some.is) ∙ found c.args.texts.now c.args.place c.get.result c.get.ensures.lookup.3

pub returns-in-None : goal.returns-in-None
returns-in-None c = ap (option_map (λ y. y.now.now)) (sym c.in-None.is) ∙ found c.args.texts.now c.args.place c.get.result c.get.ensures.lookup.3
