-- One more field, and one more digit.
use Rattle.std.proofs.Common.{◌≡◌, ℕ, ◌+◌, ◌<◌, List, length, get_or, drop, map, cond, Some, ap}
use Rattle.std.proofs.lemmas.List.{drop_more}
use Rattle.http_messages.specs.Length.{NameAndValue, is_named, count_named, first_named}

module _ {H : Type 0} (view : H → NameAndValue) (word : List ℕ) where
  pub count-step : (hs : List H) (i : ℕ) (d : H) → i < length hs
      → count_named word (map view (drop i hs)) ≡ cond (is_named word (view (get_or hs i d))) (1 + count_named word (map view (drop (i + 1) hs))) (count_named word (map view (drop (i + 1) hs)))
  count-step hs i d h = ap (λ l. count_named word (map view l)) (drop_more hs i d h)

  pub first-step : (hs : List H) (i : ℕ) (d : H) → i < length hs
      → first_named word (map view (drop i hs)) ≡ cond (is_named word (view (get_or hs i d))) (Some (view (get_or hs i d)).1) (first_named word (map view (drop (i + 1) hs)))
  first-step hs i d h = ap (λ l. first_named word (map view l)) (drop_more hs i d h)
