-- The first line of a text and what follows it.
use Rattle.std.proofs.Common.{◌≡◌, ℕ, ◌-◌, ◌<◌, suc, refl, List, [], ◌∷◌, length, Bool, true, false, cond, ◌==◌, nat_lt, inl, inr, arith, rules}
use Rattle.std.proofs.lemmas.Bool.{cases_Bool}
use Rattle.std.specs.Io.BufRead.{take_through, drop_through, strip_last}
use Rattle.verdicts.specs.Lines.{lines_of}

cond_cons : (p : Bool) (b : ℕ) (xs ys : List ℕ) → cond p (b ∷ xs) (b ∷ ys) ≡ b ∷ cond p xs ys
cond_cons true b xs ys = refl
cond_cons false b xs ys = refl

-- only the last byte counts
strip_last-cons : (b c : ℕ) (cs : List ℕ) → strip_last 10 (b ∷ c ∷ cs) ≡ b ∷ strip_last 10 (c ∷ cs)
strip_last-cons b c cs =
    let long : length (b ∷ c ∷ cs) - 1 ≡ suc (length cs) = omega arith in
    let short : length (c ∷ cs) - 1 ≡ length cs = omega arith in
    let long_some : nat_lt 0 (suc (suc (length cs))) ≡ true = search rules in
    let short_some : nat_lt 0 (suc (length cs)) ≡ true = search rules in
    rw (long, short, long_some, short_some) (cond_cons _ b _ _)

-- a text that is not empty has a first byte up to and with its first break
take_through-first : (c : ℕ) (cs : List ℕ) → (rest : List ℕ) × (take_through 10 (c ∷ cs) ≡ c ∷ rest)
take_through-first c cs =
    elim (cases_Bool (c == 10)) [
      | inl is ↦ ([], rw is refl)
      | inr is ↦ (take_through 10 cs, rw is refl)
    ]

strip_take-cons : (b c : ℕ) (cs : List ℕ) → strip_last 10 (b ∷ take_through 10 (c ∷ cs)) ≡ b ∷ strip_last 10 (take_through 10 (c ∷ cs))
strip_take-cons b c cs = let p = take_through-first c cs in rw p.1 (strip_last-cons b c p.0)

-- the text up to its first break without the break, and then the lines after
pub lines_of-first : (text : List ℕ) → 0 < length text
    → lines_of text ≡ strip_last 10 (take_through 10 text) ∷ lines_of (drop_through 10 text)
lines_of-first [] some = absurd (omega (arith, some))
lines_of-first (b ∷ []) some =
    elim (cases_Bool (b == 10)) [
      | inl is ↦ simp is refl
      | inr is ↦ simp is refl
    ]
lines_of-first (b ∷ c ∷ cs) some =
    elim (cases_Bool (b == 10)) [
      | inl is ↦ simp is refl
      | inr is ↦
          let rest = lines_of-first (c ∷ cs) (omega arith) in
          rw (is, rest, strip_take-cons b c cs) refl
    ]
