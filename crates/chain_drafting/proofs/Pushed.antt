-- Values that are put after a list.
use Rattle.std.proofs.Common.{◌≡◌, List, [], ◌∷◌, ◌++◌, append_assoc, map, ap, ◌∙◌}
use Rattle.std.proofs.lemmas.List.{map-append}
use Rattle.canonical_json.specs.Json.{Json}
use Rattle.canonical_json.specs.View.{view}
use Rattle.canonical_json.specs.declared.Value.{Value}

pub pushed : (old new : List Value) (v : Value) (x : Json) → new ≡ old ++ v ∷ [] → view v ≡ x → map view new ≡ map view old ++ x ∷ []
pushed old new v x is same = ap (map view) is ∙ (map-append view old (v ∷ []) ∙ ap (λ (y : Json). map view old ++ y ∷ []) same)

pub goes_on : (old new : List Json) (x : Json) (more all : List Json) → new ≡ old ++ x ∷ [] → old ++ x ∷ more ≡ all → new ++ more ≡ all
goes_on old new x more all is before = ap (λ (l : List Json). l ++ more) is ∙ (append_assoc old (x ∷ []) more ∙ before)
