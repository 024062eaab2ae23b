use Rattle.std.proofs.Common.{◌≡◌, ◌≤◌, ◌<◌, List, [], ◌∷◌, String, Global, arith, ap, ap₂, codes, length, map, slice_index_or, string_bytes, sym, ◌∙◌}
use Rattle.std.proofs.lemmas.Slice.Eq.{bytes_eq-Decides}
use Rattle.cli_tasks.specs.CommandLine.{AsksForDenials}
use Rattle.cli_tasks.proofs.help.asks_for_denials.Goals as goal

-- three words, of which the second and the third are these
three : (words : List (String Global)) (h d : String Global) → 3 ≤ length words → length words < 4 → h ≡ slice_index_or words 1 h → d ≡ slice_index_or words 2 d
    → string_bytes h ≡ codes "help" → string_bytes d ≡ codes "denials" → AsksForDenials (map (λ w. string_bytes w) words)
three [] h d long short first second help denials = absurd (omega (arith, long))
three (p ∷ []) h d long short first second help denials = absurd (omega (arith, long))
three (p ∷ q ∷ []) h d long short first second help denials = absurd (omega (arith, long))
three (p ∷ q ∷ r ∷ []) h d long short first second help denials =
    (string_bytes p, ap₂ (λ x y. string_bytes p ∷ x ∷ y ∷ []) (ap (λ w. string_bytes w) (sym first) ∙ help) (ap (λ w. string_bytes w) (sym second) ∙ denials))
three (p ∷ q ∷ r ∷ s ∷ words) h d long short first second help denials = absurd (omega (arith, short))

pub returns-then-eq : goal.returns-then-eq
returns-then-eq c told =
    three c.args.words.now c.help-item.result c.denials-item.result (omega (arith, c.in-len3.len_at_least)) (omega (arith, c.in-len3.len_below)) c.help-item.is c.denials-item.is
    (sym c.as_str.ensures.value ∙ (bytes_eq-Decides c.as_str.result.now (codes "help")).0 (sym c.eq.ensures ∙ c.if-eq.true))
    (sym c.as_str-then-eq.ensures.value ∙ (bytes_eq-Decides c.as_str-then-eq.result.now (codes "denials")).0 (sym c.eq-then-eq.ensures ∙ told))
