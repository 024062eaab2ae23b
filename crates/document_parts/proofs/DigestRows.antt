-- Looking the digest of a path up by halves, in rows that are in the order of their paths.
use Rattle.std.proofs.Common.{◌≡◌, ℕ, List, length, map, Some, None, option_map, MatchResult, Result, Ok, Err, get_or, bytes_eq, sym, ap, subst, ◌∙◌}
use Rattle.std.specs.List.{find}
use Rattle.std.specs.List.Sorted.{IsSearchInRange, IsBinarySearchResult}
use Rattle.path_patterns.specs.declared.Digest.{Digest}
use Rattle.keys_roles.specs.Plain.{look_up}
use Rattle.document_parts.specs.Sorted.{AreInOrder}
use Rattle.document_parts.proofs.Halving.{order, searched, hit_name, miss_name, look_up_view}

abbrev Row : Type 0
Row = List ℕ × Digest

-- what the path has in the list that was searched, which has the rows
seen : (q : List ℕ) (rows xs : List Row) → xs ≡ rows → look_up (map (λ (a : Row). (a.0, a.1.0)) rows) q ≡ option_map (λ (a : Row). a.1.0) (find (λ (a : Row). bytes_eq a.0 q) xs)
seen q rows xs is = ap (λ (z : List Row). look_up (map (λ a. (a.0, a.1.0)) z) q) (sym is) ∙ look_up_view (λ (a : Row). a.0) (λ (a : Row). a.1.0) q xs

-- what a search by halves finds is what the path has
pub digest_at : (q : List ℕ) (rows xs : List Row) → xs ≡ rows → AreInOrder (map (λ (a : Row). a.0) rows)
    → (r : Result ℕ ℕ) → IsSearchInRange r (length xs) → IsBinarySearchResult (order (λ (a : Row). a.0) q) xs r
    → MatchResult r (λ i. (d : Row) → look_up (map (λ (a : Row). (a.0, a.1.0)) rows) q ≡ Some (get_or xs i d).1.0) (λ _. look_up (map (λ (a : Row). (a.0, a.1.0)) rows) q ≡ None)
digest_at q rows xs is s (Ok i) bound place =
    let sorted = subst (λ (z : List Row). AreInOrder (map (λ a. a.0) z)) (sym is) s in
    let found = searched (λ (a : Row). a.0) q (λ a. bytes_eq a.0 q) (λ a. hit_name a.0 q) (λ a. miss_name a.0 q) xs sorted (Ok i) bound place in
    λ d. seen q rows xs is ∙ ap (option_map (λ (a : Row). a.1.0)) (found d)
digest_at q rows xs is s (Err i) bound place =
    let sorted = subst (λ (z : List Row). AreInOrder (map (λ a. a.0) z)) (sym is) s in
    seen q rows xs is ∙ ap (option_map (λ (a : Row). a.1.0)) (searched (λ (a : Row). a.0) q (λ a. bytes_eq a.0 q) (λ a. hit_name a.0 q) (λ a. miss_name a.0 q) xs sorted (Err i) bound place)
