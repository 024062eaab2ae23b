-- How many distinct public keys there are.
use Rattle.std.proofs.Common.{◌≡◌, ◌≢◌, inl, inr, ℕ, ◌≤◌, List, [], ◌∷◌, length, Bool, true, false, cond, bytes_eq, refl, sym, subst, ◌∙◌}
use Rattle.std.specs.List.{list_any}
use Rattle.keys_roles.specs.Rules.{AreDistinct}
use Rattle.keys_roles.specs.steps.Counting.{IsIn}
use Rattle.keys_roles.proofs.Elements.{any_in, for_each, fewer}
use Rattle.layouts.specs.steps.Gathering.{distinct_of}

-- ---- the list without repetition has the same elements

pick : (b : Bool) (x y : List ℕ) (ys zs : List (List ℕ)) → (IsIn zs x → IsIn ys x) → IsIn (cond b zs (y ∷ zs)) x → IsIn (y ∷ ys) x
pick true x y ys zs f k = inr (f k)
pick false x y ys zs f (inl k) = inl k
pick false x y ys zs f (inr k) = inr (f k)

pub in_distinct : (xs : List (List ℕ)) (x : List ℕ) → IsIn (distinct_of xs) x → IsIn xs x
in_distinct [] x h = absurd h
in_distinct (y ∷ ys) x h = pick (list_any (λ z. bytes_eq z y) ys) x y ys (distinct_of ys) (in_distinct ys x) h

put : (b : Bool) (x y : List ℕ) (ys zs : List (List ℕ)) → list_any (λ z. bytes_eq z y) ys ≡ b → (IsIn ys x → IsIn zs x) → IsIn (y ∷ ys) x → IsIn (cond b zs (y ∷ zs)) x
put true x y ys zs e f (inl k) = f (subst (λ (z : List ℕ). IsIn ys z) k ((any_in ys y).0 e))
put true x y ys zs e f (inr k) = f k
put false x y ys zs e f (inl k) = inl k
put false x y ys zs e f (inr k) = inr (f k)

pub distinct_in : (xs : List (List ℕ)) (x : List ℕ) → IsIn xs x → IsIn (distinct_of xs) x
distinct_in [] x h = absurd h
distinct_in (y ∷ ys) x h = put (list_any (λ z. bytes_eq z y) ys) x y ys (distinct_of ys) refl (distinct_in ys x) h

-- ---- each once

alone : (b : Bool) (y : List ℕ) (ys zs : List (List ℕ)) → list_any (λ z. bytes_eq z y) ys ≡ b → ((x : List ℕ) → IsIn zs x → IsIn ys x) → AreDistinct zs → AreDistinct (cond b zs (y ∷ zs))
alone true y ys zs e inside d = d
alone false y ys zs e inside d = (
  for_each (λ (z : List ℕ). y ≢ z) zs (λ z h same.
      let among = (any_in ys y).1 (subst (λ (w : List ℕ). IsIn ys w) (sym same) (inside z h)) in
      let both : false ≡ true = sym e ∙ among in
      absurd (cc)),
  d,
)

pub are_distinct : (xs : List (List ℕ)) → AreDistinct (distinct_of xs)
are_distinct [] = tt
are_distinct (y ∷ ys) = alone (list_any (λ z. bytes_eq z y) ys) y ys (distinct_of ys) refl (in_distinct ys) (are_distinct ys)

-- distinct ones that stand in the list are no more
pub no_more : (tops xs : List (List ℕ)) → AreDistinct tops → ((x : List ℕ) → IsIn tops x → IsIn xs x) → length tops ≤ length (distinct_of xs)
no_more tops xs distinct inside = fewer tops (distinct_of xs) distinct (λ x h. distinct_in xs x (inside x h))
