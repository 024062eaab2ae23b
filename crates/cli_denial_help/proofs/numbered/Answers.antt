use Rattle.std.proofs.Common.{◌≡◌, ◌≤◌, ◌<◌, ◌-◌, ◌∙◌, None, Some, length, ℕ, List, [], refl, sym, ap, subst, arith}
use Rattle.std.specs.Prelude.{option_map, slice_get, unwrap_or}
use Rattle.std.proofs.lemmas.Option.{slice_get-get_or, slice_get_within}
use Rattle.denials.specs.Numbers.{names}
use Rattle.cli_denial_help.proofs.numbered.Goals as goal

pub returns-in-Some-clause-says : goal.returns-in-Some-clause-says
returns-in-Some-clause-says c =
    let there : slice_get names c.in_ok-place.place ≡ Some c.in-Some.name.now =
    sym (ap (option_map (λ s. s.now)) (sym c.in-Some.is) ∙ c.text_at.ensures) in
    let within = slice_get_within names c.in_ok-place.place c.in-Some.name.now there in
    let before : c.in_ok-place.place ≡ c.args.number - 1 = c.in_ok-place.ensures.1 ∙ ap (λ n. n - 1) c.from.ensures in
    let least : 1 ≤ c.args.number = subst (λ n. 1 ≤ n) c.from.ensures c.in_ok-place.ensures.0 in (
      refl,
      record {
        least = least;
        most = omega (arith, within, before, least);
        name = sym (ap (λ o. unwrap_or o []) (ap (slice_get names) (sym before) ∙ there));
        text = c.text_of-text.ensures;
      },
    )

-- within a list of texts there is a text at a place
none_within : (xs : List (List ℕ)) (i : ℕ) → slice_get xs i ≡ None → i < length xs → ⊥
none_within xs i none within = let some = slice_get-get_or xs i [] within in cc

pub returns-in-None-clause-every : goal.returns-in-None-clause-every
returns-in-None-clause-every c is =
    let there : slice_get names c.in_ok-place.place ≡ None = sym (ap (option_map (λ s. s.now)) (sym c.in-None.is) ∙ c.text_at.ensures) in
    let before : c.in_ok-place.place ≡ c.args.number - 1 = c.in_ok-place.ensures.1 ∙ ap (λ n. n - 1) c.from.ensures in
    absurd (none_within names c.in_ok-place.place there (omega (arith, is.0, is.1, before)))
