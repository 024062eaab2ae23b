-- Objects as rows of names and values.
use Rattle.std.proofs.Common.{◌≡◌, ℕ, List, [], ◌∷◌, ◌++◌, append_assoc, string_bytes, refl, ap, ◌∙◌}
use Rattle.canonical_json.specs.Json.{Json, object, Members, no_members, member}
use Rattle.canonical_json.specs.View.{view, members_view}
use Rattle.drafting.proofs.Rows.{Row, shown}
use Rattle.drafting.specs.steps.Rows.{rows_view}

abbrev pub members_from : List (List ℕ × Json) → Members
members_from [] = no_members
members_from (r ∷ rows) = member r.0 r.1 (members_from rows)

from_rows : (ms : List Row) → members_view ms ≡ members_from (rows_view ms)
from_rows [] = refl
from_rows (m ∷ ms) = ap (λ (more : Members). member (string_bytes m.0) (view m.1) more) (from_rows ms)

pub object_from : (ms : List Row) (rows : List (List ℕ × Json)) → rows_view ms ≡ rows → shown ms ≡ object (members_from rows)
object_from ms rows is = ap (λ (l : Members). object l) (from_rows ms ∙ ap members_from is)

abbrev pub Said : Type 0
Said = List (List ℕ × Json)

pub two_more : (old : Said) (a b : List ℕ × Json) → (old ++ a ∷ []) ++ b ∷ [] ≡ old ++ a ∷ b ∷ []
two_more old a b = append_assoc old (a ∷ []) (b ∷ [])

pub four_more : (old : Said) (a b c d : List ℕ × Json) → (((old ++ a ∷ []) ++ b ∷ []) ++ c ∷ []) ++ d ∷ [] ≡ old ++ a ∷ b ∷ c ∷ d ∷ []
four_more old a b c d =
    ap (λ (l : Said). (l ++ c ∷ []) ++ d ∷ []) (two_more old a b) ∙ (two_more (old ++ a ∷ b ∷ []) c d ∙ append_assoc old (a ∷ b ∷ []) (c ∷ d ∷ []))
