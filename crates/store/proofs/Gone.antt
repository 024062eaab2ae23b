-- What goes of a state's rows is what goes of the state.
use Rattle.std.proofs.Common.{◌≡◌, ℕ, ◌+◌, ◌/◌, ◌%◌, ◌<◌, Bool, true, false, not, List, [], ◌∷◌, filter, length, drop, nat_lt, zero, suc, slice_index, Some, None, refl, sym, ap, ◌∙◌, bytes_eq, arith}
use Rattle.std.proofs.lemmas.Bool.{false_from_ne_true, ltb-false, ltb-true}
use Rattle.std.proofs.lemmas.Slice.Eq.{bytes_eq-Decides}
use Rattle.std.specs.List.{AllByRecursion}
use Rattle.hex.specs.Hex.{encode_lower, encode_with, hex_digit_value, lower_digits}
use Rattle.hex.proofs.HexLemmas.{IsDigits-lower_digits}
use Rattle.metadata.specs.File.{Bytes}
use Rattle.delegations.specs.Rows.{Place, Rows, same_place}
use Rattle.trust_rules.specs.Contents.{shelf_rows}
use Rattle.trust_rules.specs.Effects.{without}
use Rattle.trust_rules.specs.State.{State}
use Rattle.trust_rules.proofs.GoneKeys.{filter_so, map_filter}
use Rattle.repository_rows.specs.Contents.{Contents}
use Rattle.table_rows.specs.Tables.{IsDigest}
use Rattle.repository_tables.specs.Changes.{is_blob_of, is_row_of, without_row}
use Rattle.store.specs.StateRows.{rows_of}
use Rattle.store.specs.steps.Changed.{blobs_gone, rows_gone}

-- ---- digits tell digests apart

past_end : (xs : List ℕ) (i : ℕ) → length xs < i + 1 → slice_index xs i ≡ 0
past_end [] i h = refl
past_end (x ∷ xs) zero h = absurd (omega (arith, h))
past_end (x ∷ xs) (suc i) h = past_end xs i (omega (arith, h))

digit_one : (x y : ℕ) → x < 16 → slice_index lower_digits x ≡ slice_index lower_digits y → x ≡ y
digit_one x y below same = at (nat_lt y 16) refl
  where
    value : Some x ≡ hex_digit_value (slice_index lower_digits y)
    value = sym (IsDigits-lower_digits x below) ∙ ap hex_digit_value same

    at : (t : Bool) → nat_lt y 16 ≡ t → x ≡ y
    at true e = let k : Some x ≡ Some y = value ∙ IsDigits-lower_digits y (ltb-true y 16 e) in cc
    at false e = absurd (none (value ∙ ap hex_digit_value (past_end lower_digits y (let not_below = ltb-false y 16 e in omega (arith, not_below)))))
      where
        none : Some x ≡ None → ⊥
        none k = cc

pub digits_one : (a b : List ℕ) → AllByRecursion (λ x. x < 256) a → encode_lower a ≡ encode_lower b → a ≡ b
unfolding encode_with
digits_one [] [] h same = refl
digits_one [] (y ∷ ys) h same = absurd (let f = same in cc)
digits_one (x ∷ xs) [] h same = absurd (let f = same in cc)
digits_one (x ∷ xs) (y ∷ ys) h same =
    let first : slice_index lower_digits (x / 16) ≡ slice_index lower_digits (y / 16) = ap (λ (l : List ℕ). slice_index l 0) same in
    let second : slice_index lower_digits (x % 16) ≡ slice_index lower_digits (y % 16) = ap (λ (l : List ℕ). slice_index l 1) same in
    let below = h.0 in
    let high = digit_one (x / 16) (y / 16) (omega (arith, below)) first in
    let low = digit_one (x % 16) (y % 16) (omega arith) second in
    let one : x ≡ y = omega (arith, high, low) in
    let rest : xs ≡ ys = digits_one xs ys h.1 (ap (λ (l : List ℕ). drop 2 l) same) in
    λ i. one i ∷ rest i

-- ---- rows of the shelf

rows_left : (places : List Place) (t : Contents) (rows : Rows) → t.shelf ≡ shelf_rows rows → rows_gone places t ≡ record t { shelf = shelf_rows (without same_place rows places) }
rows_left [] t rows is = ap (λ (l : List (Place × Bytes)). record t { shelf = l }) is
rows_left (place ∷ places) t rows is =
    rows_left places (without_row place.0 place.1 t) (filter (λ row. not (same_place row.0 place)) rows)
    (ap (λ (l : List (Place × Bytes)). filter (λ r. not (is_row_of place.0 place.1 r)) l) is
    ∙ sym (map_filter (λ row. (row.0, row.1.bytes)) (λ (r : Place × Bytes). not (is_row_of place.0 place.1 r)) rows))

-- ---- blobs

abbrev pub AreDigests : List (Bytes × Bytes) → Type 0
AreDigests blobs = AllByRecursion (λ b. IsDigest b.0) blobs

still_digests : (p : Bytes × Bytes → Bool) (blobs : List (Bytes × Bytes)) → AreDigests blobs → AreDigests (filter p blobs)
still_digests p [] h = tt
still_digests p (b ∷ bs) h = at (p b) refl (still_digests p bs h.1)
  where
    at : (t : Bool) → p b ≡ t → AreDigests (filter p bs) → AreDigests (filter p (b ∷ bs))
    at true e later = rw e (h.0, later)
    at false e later = rw e later

same_test : (a b : Bytes) → IsDigest a → bytes_eq (encode_lower a) (encode_lower b) ≡ bytes_eq a b
same_test a b h = at (bytes_eq a b) refl
  where
    at : (t : Bool) → bytes_eq a b ≡ t → bytes_eq (encode_lower a) (encode_lower b) ≡ bytes_eq a b
    at true e = (bytes_eq-Decides (encode_lower a) (encode_lower b)).1 (ap encode_lower ((bytes_eq-Decides a b).0 e)) ∙ sym e
    at false e =
        false_from_ne_true (bytes_eq (encode_lower a) (encode_lower b)) (λ k. apart (sym e ∙ (bytes_eq-Decides a b).1 (digits_one a b h.1 ((bytes_eq-Decides (encode_lower a) (encode_lower b)).0 k)))) ∙ sym e
      where
        apart : false ≡ true → ⊥
        apart k = cc

each_test : (blobs : List (Bytes × Bytes)) (digest : Bytes) → AreDigests blobs → AllByRecursion (λ b. not (is_blob_of digest b) ≡ not (bytes_eq b.0 digest)) blobs
each_test [] digest h = tt
each_test (b ∷ bs) digest h = (ap not (same_test b.0 digest h.0), each_test bs digest h.1)

blobs_left : (digests : List Bytes) (t : Contents) → AreDigests t.blobs → blobs_gone digests t ≡ record t { blobs = without bytes_eq t.blobs digests }
blobs_left [] t h = refl
blobs_left (digest ∷ digests) t h =
    let same = filter_so (λ (b : Bytes × Bytes). not (is_blob_of digest b)) (λ (b : Bytes × Bytes). not (bytes_eq b.0 digest)) t.blobs (each_test t.blobs digest h) in
    ap (λ (l : List (Bytes × Bytes)). blobs_gone digests (record t { blobs = l })) same
    ∙ blobs_left digests (record t { blobs = filter (λ b. not (bytes_eq b.0 digest)) t.blobs }) (still_digests (λ b. not (bytes_eq b.0 digest)) t.blobs h)

-- what is left of the rows of a state
pub gone_rows : (S : State) (places : List Place) (digests : List Bytes) → AreDigests S.blobs
    → blobs_gone digests (rows_gone places (rows_of S))
    ≡ record (rows_of S) { shelf = shelf_rows (without same_place S.trusted.shelf places); blobs = without bytes_eq S.blobs digests }
gone_rows S places digests h =
    ap (blobs_gone digests) (rows_left places (rows_of S) S.trusted.shelf refl)
    ∙ blobs_left digests (record (rows_of S) { shelf = shelf_rows (without same_place S.trusted.shelf places) }) h
