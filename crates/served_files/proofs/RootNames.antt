-- The name of a root's file tells its version.
use Rattle.std.proofs.Common.{◌≡◌, ◌≢◌, ℕ, suc, ◌^◌, ◌<◌, List, [], ◌∷◌, ◌++◌, length, get_or, codes, refl, arith}
use Rattle.std.specs.Fmt.{decimal}
use Rattle.std.specs.Str.Parse.{AllDigits, digits_value}
use Rattle.std.proofs.lemmas.Fmt.{decimal_is_IsNumeral, decimal_injective}
use Rattle.std.proofs.lemmas.Str.Parse.{IsNumeralModel, numerals_by_value, tells_digits, not_in_digits}
use Rattle.served_files.specs.Served.{root_name}

abbrev Lacks : ℕ → List ℕ → Type 0
Lacks c bs = (k : ℕ) → k < length bs → get_or bs k 0 ≢ c

tail_lacks : (c h : ℕ) (t : List ℕ) → Lacks c (h ∷ t) → Lacks c t
tail_lacks c h t l k lt = l (suc k) (omega arith)

split_once : (c : ℕ) (a b x y : List ℕ) → Lacks c a → Lacks c b → a ++ c ∷ x ≡ b ++ c ∷ y → a ≡ b
split_once c [] [] x y la lb e = refl
split_once c [] (h ∷ t) x y la lb e = absurd (lb 0 (omega arith) (cc))
split_once c (h ∷ t) [] x y la lb e = absurd (la 0 (omega arith) (cc))
split_once c (h ∷ t) (g ∷ s) x y la lb e =
    let head : h ≡ g = cc in
    let tails : t ++ c ∷ x ≡ s ++ c ∷ y = cc in
    let more : t ≡ s = split_once c t s x y (tail_lacks c h t la) (tail_lacks c g s lb) tails in
    cc

own : IsNumeralModel (AllDigits 10) (digits_value 10)
own = numerals_by_value (AllDigits 10) tells_digits

no_dot : (n : ℕ) → n < 2 ^ 64 → Lacks 46 (decimal n)
no_dot n h k lt = not_in_digits own (decimal n) 46 (decimal_is_IsNumeral n h).0.1 (λ r. omega (arith, r.0)) k lt

pub one_version : (n m : ℕ) → n < 2 ^ 64 → m < 2 ^ 64 → root_name n ≡ root_name m → n ≡ m
one_version n m hn hm e = decimal_injective n m hn hm
    (split_once 46 (decimal n) (decimal m) (codes "root" ++ codes ".json") (codes "root" ++ codes ".json") (no_dot n hn) (no_dot m hm) e)
