-- Members of lists.
use Rattle.std.proofs.Common.{◌≡◌, ◌⊎◌, inl, inr, List, ◌∷◌, map, sym, subst}
use Rattle.sqlite_rules.specs.Lists.{Has}

-- a member of a list by its first
pub first_or_later : {A B : Type 0} (f : A → B) (all later : List A) (first : A) (v : B) → all ≡ first ∷ later → Has (map f all) v → (v ≡ f first) ⊎ Has (map f later) v
first_or_later f all later first v is h = subst (λ xs. Has (map f xs) v) is h

pub is_first : {A B : Type 0} (f : A → B) (all later : List A) (first : A) (v : B) → all ≡ first ∷ later → v ≡ f first → Has (map f all) v
is_first f all later first v is same = subst (λ xs. Has (map f xs) v) (sym is) (inl same)

pub is_later : {A B : Type 0} (f : A → B) (all later : List A) (first : A) (v : B) → all ≡ first ∷ later → Has (map f later) v → Has (map f all) v
is_later f all later first v is h = subst (λ xs. Has (map f xs) v) (sym is) (inr h)
