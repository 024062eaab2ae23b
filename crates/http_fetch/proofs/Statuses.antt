-- Where the status of a reply stands.
use Rattle.std.proofs.Common.{◌≡◌, ℕ, ◌≤◌, List, [], ◌∷◌, ◌++◌, length, drop, get_or, sym, ◌∙◌, ap, arith, refl, subst}
use Rattle.std.specs.Prelude.{codes}
use Rattle.std.proofs.lemmas.List.{append_cancel_left}
use Rattle.http_fetch.specs.Refusing.{HasStatus, IsNumber}

-- behind the version
pub record IsBehind (rest : List ℕ) (status : ℕ) : Type 0 where
  pub long : 5 ≤ length rest
  pub space : get_or rest 1 0 ≡ 32
  pub number : IsNumber (get_or rest 2 0) (get_or rest 3 0) (get_or rest 4 0) status

pub behind : (text rest : List ℕ) (status : ℕ) → text ≡ codes "HTTP/1." ++ rest → HasStatus text status → IsBehind rest status
behind text rest status e h =
    let same : h.minor ∷ 32 ∷ h.a ∷ h.b ∷ h.c ∷ h.rest ≡ rest = append_cancel_left (codes "HTTP/1.") (h.minor ∷ 32 ∷ h.a ∷ h.b ∷ h.c ∷ h.rest) rest (sym h.whole ∙ e) in
    subst (λ l. IsBehind l status) same (record { long = omega arith; space = refl; number = h.number })

five : (rest : List ℕ) → 5 ≤ length rest → get_or rest 1 0 ≡ 32 → rest ≡ get_or rest 0 0 ∷ 32 ∷ get_or rest 2 0 ∷ get_or rest 3 0 ∷ get_or rest 4 0 ∷ drop 5 rest
five [] l e = absurd (omega (arith, l))
five (a ∷ []) l e = absurd (omega (arith, l))
five (a ∷ b ∷ []) l e = absurd (omega (arith, l))
five (a ∷ b ∷ c ∷ []) l e = absurd (omega (arith, l))
five (a ∷ b ∷ c ∷ d ∷ []) l e = absurd (omega (arith, l))
five (a ∷ b ∷ c ∷ d ∷ f ∷ more) l e = ap (λ (s : ℕ). a ∷ s ∷ c ∷ d ∷ f ∷ more) e

pub stands : (text rest : List ℕ) (status : ℕ) → text ≡ codes "HTTP/1." ++ rest → IsBehind rest status → HasStatus text status
stands text rest status e h = record {
  minor = get_or rest 0 0;
  a = get_or rest 2 0;
  b = get_or rest 3 0;
  c = get_or rest 4 0;
  rest = drop 5 rest;
  whole = e ∙ ap (λ l. codes "HTTP/1." ++ l) (five rest h.long h.space);
  number = h.number;
}
