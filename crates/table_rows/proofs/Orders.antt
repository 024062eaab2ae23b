-- The order of the rows of the shelf, and that of digests and of their digits.
use Rattle.std.proofs.Common.{◌≡◌, ◌<◌, ◌/◌, ◌%◌, inl, inr, ℕ, zero, suc, List, [], ◌∷◌, length, arith, rules, slice_index, refl, ap, subst, ◌∙◌}
use Rattle.std.specs.List.{AllByRecursion}
use Rattle.std.specs.List.Sorted.{IsStrictlySortedBy}
use Rattle.std.specs.Ordering.{ordering_then, nat_cmp, MatchOrdering}
use Rattle.std.specs.declared.cmp.Ordering.{Ordering}
use Rattle.hex.specs.Hex.{encode_lower, encode_with, lower_digits}
use Rattle.std.specs.Cmp.{IsTotalOrder, ranks}
use Rattle.std.specs.Cmp.Lexicographic.{slice_cmp}
use Rattle.std.specs.declared.cmp.Ordering.TheVariants.{Less, Equal, Greater}
use Rattle.std.proofs.lemmas.Cmp.{nat_cmp_total, nat_list_cmp_total, on_total, then_total, tied_itself}
use Rattle.std.proofs.lemmas.Bool.{cases_lt}
use Rattle.std.proofs.lemmas.Map.Lookups.{exact_unsigned, exact_bytes, exact_pairs}
use Rattle.table_rows.specs.Tables.{row_cmp}

pub row_cmp_total : IsTotalOrder row_cmp
row_cmp_total = then_total (on_total (λ (k : List ℕ × ℕ). k.0) nat_list_cmp_total) (on_total (λ (k : List ℕ × ℕ). k.1) nat_cmp_total)

pub exact_rows : (a b : List ℕ × ℕ) → row_cmp a b ≡ Equal → a ≡ b
exact_rows = exact_pairs (slice_cmp nat_cmp) nat_cmp exact_bytes exact_unsigned

-- ---- digests and their digits rise alike

all_at : (P : ℕ → Type 0) (ks : List ℕ) (j : ℕ) → AllByRecursion P ks → j < length ks → P (slice_index ks j)
all_at P [] j all below = absurd (omega (arith, below))
all_at P (k ∷ ks) zero all below = all.0
all_at P (k ∷ ks) (suc j) all below = all_at P ks j all.1 (omega (arith, below))

index_less : (ks : List ℕ) → IsStrictlySortedBy nat_cmp ks → (i j : ℕ) → i < j → j < length ks → nat_cmp (slice_index ks i) (slice_index ks j) ≡ Less
unfolding IsStrictlySortedBy
index_less [] up i j lower below = absurd (omega (arith, below))
index_less (k ∷ ks) up i zero lower below = absurd (omega (arith, lower))
index_less (k ∷ ks) up zero (suc j) lower below = all_at (λ y. nat_cmp k y ≡ Less) ks j up.0 (omega (arith, below))
index_less (k ∷ ks) up (suc i) (suc j) lower below = index_less ks up.1 i j (omega (arith, lower)) (omega (arith, below))

digits_up : IsStrictlySortedBy nat_cmp lower_digits
unfolding IsStrictlySortedBy
digits_up = search rules

nat_less : (m n : ℕ) → nat_cmp m n ≡ Less → m < n
nat_less m n e = subst (λ r. MatchOrdering r (m < n) (m ≡ n) (n < m)) e (ranks m n)

then_less : (o p : Ordering) → o ≡ Less → ordering_then o p ≡ Less
then_less Less p e = refl
then_less Equal p e = absurd (let f = e in cc)
then_less Greater p e = absurd (let f = e in cc)

equal_then : (o p : Ordering) → o ≡ Equal → ordering_then o p ≡ p
equal_then Less p e = absurd (let f = e in cc)
equal_then Equal p e = refl
equal_then Greater p e = absurd (let f = e in cc)

abbrev digit : ℕ → ℕ
digit n = slice_index lower_digits n

byte_less : (x y : ℕ) (rest : Ordering) → x < 256 → y < 256 → x < y → ordering_then (nat_cmp (digit (x / 16)) (digit (y / 16))) (ordering_then (nat_cmp (digit (x % 16)) (digit (y % 16))) rest) ≡ Less
byte_less x y rest bx by lower = elim (cases_lt (x / 16) (y / 16)) [
  | inl high ↦ then_less _ _ (index_less lower_digits digits_up (x / 16) (y / 16) high (omega (arith, by)))
  | inr not_high ↦
      let same : x / 16 ≡ y / 16 = omega (arith, lower, not_high) in
      let low : x % 16 < y % 16 = omega (arith, lower, same) in
      equal_then _ _ (ap (λ n. nat_cmp (digit n) (digit (y / 16))) same ∙ tied_itself nat_cmp_total (digit (y / 16))) ∙ then_less _ _ (index_less lower_digits digits_up (x % 16) (y % 16) low (omega arith))
]

pub digits_less : (a b : List ℕ) → AllByRecursion (λ n. n < 256) a → AllByRecursion (λ n. n < 256) b → slice_cmp nat_cmp a b ≡ Less → slice_cmp nat_cmp (encode_lower a) (encode_lower b) ≡ Less
unfolding encode_with
digits_less [] [] all_a all_b less = absurd (let f = less in cc)
digits_less [] (y ∷ ys) all_a all_b less = refl
digits_less (x ∷ xs) [] all_a all_b less = absurd (let f = less in cc)
digits_less (x ∷ xs) (y ∷ ys) all_a all_b less = go (nat_cmp x y) refl less (λ l. digits_less xs ys all_a.1 all_b.1 l)
  where
    go : (o : Ordering) → nat_cmp x y ≡ o → ordering_then o (slice_cmp nat_cmp xs ys) ≡ Less → (slice_cmp nat_cmp xs ys ≡ Less → slice_cmp nat_cmp (encode_lower xs) (encode_lower ys) ≡ Less)
        → slice_cmp nat_cmp (encode_lower (x ∷ xs)) (encode_lower (y ∷ ys)) ≡ Less
    go Less is e rest = byte_less x y _ all_a.0 all_b.0 (nat_less x y is)
    go Equal is e rest =
        let same : x ≡ y = exact_unsigned x y is in
        subst (λ z. ordering_then (nat_cmp (digit (x / 16)) (digit (z / 16))) (ordering_then (nat_cmp (digit (x % 16)) (digit (z % 16))) (slice_cmp nat_cmp (encode_lower xs) (encode_lower ys))) ≡ Less) same
        (equal_then _ _ (tied_itself nat_cmp_total (digit (x / 16))) ∙ equal_then _ _ (tied_itself nat_cmp_total (digit (x % 16))) ∙ rest e)
    go Greater is e rest = absurd (let f = e in cc)
