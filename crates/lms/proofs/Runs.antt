-- A chain goes on after its first step as the chain from there.
use Rattle.std.proofs.Common.{◌≡◌, ℕ, zero, suc, ◌+◌, ◌-◌, ◌<◌, ◌≤◌, List, [], ◌∷◌, ◌++◌, fold, refl, sym, ap, ◌∙◌, arith, zero-add, add-zero}
use Rattle.std.specs.List.{range_with_len}

pub one_step : {A : Type 0} (f : A → ℕ → A) (a : A) (j to : ℕ) → j < to
    → fold f a (range_with_len j (to - j)) ≡ fold f (f a j) (range_with_len (j + 1) (to - (j + 1)))
one_step f a j to h =
    let e : to - j ≡ suc (to - (j + 1)) = omega arith in
    rw e refl

pub no_step : {A : Type 0} (f : A → ℕ → A) (a : A) (j to : ℕ) → to ≤ j → fold f a (range_with_len j (to - j)) ≡ a
no_step f a j to h =
    let e : to - j ≡ 0 = omega arith in
    rw e refl

fold-append : {A : Type 0} (f : A → ℕ → A) (a : A) (xs ys : List ℕ) → fold f a (xs ++ ys) ≡ fold f (fold f a xs) ys
fold-append f a [] ys = refl
fold-append f a (x ∷ xs) ys = fold-append f (f a x) xs ys

pub range-add : (start m n : ℕ) → range_with_len start (m + n) ≡ range_with_len start m ++ range_with_len (start + m) n
range-add start zero n = rw (zero-add n, add-zero) refl
range-add start (suc m) n =
    let e : suc m + n ≡ suc (m + n) = omega arith in
    let s : start + suc m ≡ start + 1 + m = omega arith in
    rw (e, s) (ap (λ (xs : List ℕ). start ∷ xs) (range-add (start + 1) m n))

-- a run cut anywhere is the run
pub joined : {A : Type 0} (f : A → ℕ → A) (x : A) (a b : ℕ) → a ≤ b
    → fold f (fold f x (range_with_len 0 (a - 0))) (range_with_len a (b - a)) ≡ fold f x (range_with_len 0 (b - 0))
joined f x a b h =
    let p : a - 0 ≡ a = omega arith in
    let q : b - 0 ≡ a + (b - a) = omega arith in
    let s : 0 + a ≡ a = omega arith in
    rw (p, q) (sym (ap (fold f x) (range-add 0 a (b - a) ∙ ap (λ (k : ℕ). range_with_len 0 a ++ range_with_len k (b - a)) s) ∙ fold-append f x (range_with_len 0 a) (range_with_len a (b - a))))
