-- The status of a reply (RFC 9112, section 4).
use Rattle.std.specs.Prelude.{◌≡◌, ◌+◌, ◌*◌, ◌-◌, ℕ, List, ◌∷◌, ◌++◌, codes}
use Rattle.std.specs.Int.{IsInRange}

-- the number that three digits write; 48 is a zero, and 57 a nine
pub record IsNumber (a b c n : ℕ) : Type 0 where
  pub hundreds : IsInRange 48 57 a
  pub tens : IsInRange 48 57 b
  pub ones : IsInRange 48 57 c
  pub value : n ≡ 100 * (a - 48) + 10 * (b - 48) + (c - 48)

-- the beginning of a head says this status: its version, a space, and three digits
pub record HasStatus (beginning : List ℕ) (status : ℕ) : Type 0 where
  pub minor : ℕ
  pub a : ℕ
  pub b : ℕ
  pub c : ℕ
  pub rest : List ℕ
  pub whole : beginning ≡ codes "HTTP/1." ++ (minor ∷ 32 ∷ a ∷ b ∷ c ∷ rest)
  pub number : IsNumber a b c status
