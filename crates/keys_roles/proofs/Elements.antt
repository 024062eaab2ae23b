-- What stands in a list, by recursion on the list, and how many distinct elements a list has room for.
use Rattle.std.proofs.Common.{IsTrue, ⊎_elim, bytes_eq, ◌↔◌, ◌≡◌, ◌≢◌, ℕ, zero, suc, ◌<◌, ◌≤◌, List, [], ◌∷◌, ◌++◌, length, map, refl, sym, ap, subst, ◌∙◌, arith, ◌⊎◌, inl, inr}
use Rattle.std.proofs.lemmas.Bool.{or_cases, or_left, or_right}
use Rattle.std.proofs.lemmas.Slice.Eq.{bytes_eq-Decides}
use Rattle.std.specs.Prelude.{slice_index_or}
use Rattle.std.specs.List.{AllByRecursion, Contains, list_any}
use Rattle.keys_roles.specs.Rules.{AreDistinct}
use Rattle.keys_roles.specs.steps.Counting.{IsIn}

pub contains_in : {X : Type 0} → (xs : List X) (x : X) → IsIn xs x → Contains xs x
contains_in [] x h = absurd h
contains_in (y ∷ ys) x (inl h) = (0, omega arith, h)
contains_in (y ∷ ys) x (inr h) = let t = contains_in ys x h in (suc t.0, (let below = t.1 in omega arith), t.2)

in_at : {X : Type 0} → (xs : List X) (x : X) (k : ℕ) → k < length xs → slice_index_or xs k x ≡ x → IsIn xs x
in_at [] x k below h = absurd (omega arith)
in_at (y ∷ ys) x zero below h = inl h
in_at (y ∷ ys) x (suc k) below h = inr (in_at ys x k (omega arith) h)

pub in_contains : {X : Type 0} → (xs : List X) (x : X) → Contains xs x → IsIn xs x
in_contains xs x h = in_at xs x h.0 h.1 h.2

-- the same as a test of byte lists
pub any_in : (xs : List (List ℕ)) (x : List ℕ) → IsTrue (list_any (λ y. bytes_eq y x) xs) ↔ IsIn xs x
any_in [] x = (λ e. cc, λ h. absurd h)
any_in (y ∷ ys) x =
    let same = bytes_eq-Decides y x in
    let rest = any_in ys x in (
      λ e. ⊎_elim (λ l. inl (same.0 l)) (λ r. inr (rest.0 r)) (or_cases (bytes_eq y x) (list_any (λ z. bytes_eq z x) ys) e),
      λ h. ⊎_elim (λ l. or_left (bytes_eq y x) (list_any (λ z. bytes_eq z x) ys) (same.1 l)) (λ r. or_right (bytes_eq y x) (list_any (λ z. bytes_eq z x) ys) (rest.1 r)) h,
    )

-- what holds of each element holds of one
pub of_each : {X : Type 0} → (P : X → Type 0) (xs : List X) (x : X) → AllByRecursion P xs → IsIn xs x → P x
of_each P [] x all h = absurd h
of_each P (y ∷ ys) x all (inl h) = subst P h all.0
of_each P (y ∷ ys) x all (inr h) = of_each P ys x all.1 h

pub for_each : {X : Type 0} → (P : X → Type 0) (xs : List X) → ((x : X) → IsIn xs x → P x) → AllByRecursion P xs
for_each P [] all = tt
for_each P (y ∷ ys) all = (all y (inl refl), for_each P ys (λ x h. all x (inr h)))

-- the same with one more element behind
pub each_more : {X : Type 0} → (P : X → Type 0) (xs : List X) (x : X) → AllByRecursion P xs → P x → AllByRecursion P (xs ++ x ∷ [])
each_more P [] x all h = (h, tt)
each_more P (y ∷ ys) x all h = (all.0, each_more P ys x all.1 h)

pub in_more : {X : Type 0} → (xs : List X) (x y : X) → IsIn xs y → IsIn (xs ++ x ∷ []) y
in_more [] x y h = absurd h
in_more (z ∷ zs) x y (inl h) = inl h
in_more (z ∷ zs) x y (inr h) = inr (in_more zs x y h)

pub in_last : {X : Type 0} → (xs : List X) (x : X) → IsIn (xs ++ x ∷ []) x
in_last [] x = inl refl
in_last (z ∷ zs) x = inr (in_last zs x)

pub distinct_more : {X : Type 0} → (xs : List X) (x : X) → AreDistinct xs → (IsIn xs x → ⊥) → AreDistinct (xs ++ x ∷ [])
distinct_more [] x distinct new = (tt, tt)
distinct_more (y ∷ ys) x distinct new = (
  each_more (λ z. y ≢ z) ys x distinct.0 (λ h. new (inl h)),
  distinct_more ys x distinct.1 (λ h. new (inr h)),
)

-- the list without an element of it
without : {X : Type 0} (ys : List X) (x : X) → IsIn ys x → List X
without [] x h = []
without (y ∷ ys) x (inl h) = ys
without (y ∷ ys) x (inr h) = y ∷ without ys x h

without_length : {X : Type 0} (ys : List X) (x : X) (h : IsIn ys x) → suc (length (without ys x h)) ≡ length ys
unfolding without
without_length [] x h = absurd h
without_length (y ∷ ys) x (inl h) = refl
without_length (y ∷ ys) x (inr h) = ap suc (without_length ys x h)

without_in : {X : Type 0} (ys : List X) (x : X) (h : IsIn ys x) (z : X) → x ≢ z → IsIn ys z → IsIn (without ys x h) z
unfolding without
without_in [] x h z other there = absurd h
without_in (y ∷ ys) x (inl h) z other (inl there) = absurd (other (sym h ∙ there))
without_in (y ∷ ys) x (inl h) z other (inr there) = there
without_in (y ∷ ys) x (inr h) z other (inl there) = inl there
without_in (y ∷ ys) x (inr h) z other (inr there) = inr (without_in ys x h z other there)

-- distinct elements of a list are at most as many as the list has
pub fewer : {X : Type 0} → (xs ys : List X) → AreDistinct xs → ((x : X) → IsIn xs x → IsIn ys x) → length xs ≤ length ys
fewer [] ys distinct inside = omega arith
fewer (x ∷ xs) ys distinct inside =
    let here = inside x (inl refl) in
    let less = fewer xs (without ys x here) distinct.1 (λ z h. without_in ys x here z (of_each (λ z. x ≢ z) xs z distinct.0 h) (inside z (inr h))) in
    let one = without_length ys x here in
    omega arith

-- the first element, and the others
pub first_in : {X : Type 0} → (xs ys : List X) (y x : X) → xs ≡ y ∷ ys → y ≡ x → IsIn xs x
first_in xs ys y x at h = subst (λ l. IsIn l x) (sym at) (inl h)

pub later_in : {X : Type 0} → (xs ys : List X) (y x : X) → xs ≡ y ∷ ys → IsIn ys x → IsIn xs x
later_in xs ys y x at h = subst (λ l. IsIn l x) (sym at) (inr h)

one_of : {X : Type 0} → (ys : List X) (y x : X) → IsIn (y ∷ ys) x → (y ≡ x) ⊎ IsIn ys x
one_of ys y x h = h

pub first_or_later : {X : Type 0} → (xs ys : List X) (y x : X) → xs ≡ y ∷ ys → IsIn xs x → (y ≡ x) ⊎ IsIn ys x
first_or_later xs ys y x at h = one_of ys y x (subst (λ l. IsIn l x) at h)

or_later : {X : Type 0} → (ys : List X) (y x : X) → (y ≡ x → ⊥) → (y ≡ x) ⊎ IsIn ys x → IsIn ys x
or_later ys y x other (inl h) = absurd (other h)
or_later ys y x other (inr h) = h

pub not_first : {X : Type 0} → (xs ys : List X) (y x : X) → xs ≡ y ∷ ys → (y ≡ x → ⊥) → IsIn xs x → IsIn ys x
not_first xs ys y x at other h = or_later ys y x other (first_or_later xs ys y x at h)

pub none_in : {X : Type 0} → (xs : List X) (x : X) → xs ≡ [] → IsIn xs x → ⊥
none_in xs x at h = subst (λ l. IsIn l x) at h

-- two lists one behind the other
pub in_front : {X : Type 0} → (xs ys : List X) (x : X) → IsIn xs x → IsIn (xs ++ ys) x
in_front [] ys x h = absurd h
in_front (y ∷ xs) ys x (inl h) = inl h
in_front (y ∷ xs) ys x (inr h) = inr (in_front xs ys x h)

pub in_back : {X : Type 0} → (xs ys : List X) (x : X) → IsIn ys x → IsIn (xs ++ ys) x
in_back [] ys x h = h
in_back (y ∷ xs) ys x h = inr (in_back xs ys x h)

pub in_either : {X : Type 0} → (xs ys : List X) (x : X) → IsIn (xs ++ ys) x → IsIn xs x ⊎ IsIn ys x
in_either [] ys x h = inr h
in_either (y ∷ xs) ys x (inl h) = inl (inl h)
in_either (y ∷ xs) ys x (inr h) = front (in_either xs ys x h)
  where
    front : IsIn xs x ⊎ IsIn ys x → IsIn (y ∷ xs) x ⊎ IsIn ys x
    front (inl t) = inl (inr t)
    front (inr t) = inr t

pub in_map : {X Y : Type 0} → (f : X → Y) (xs : List X) (x : X) → IsIn xs x → IsIn (map f xs) (f x)
in_map f [] x h = absurd h
in_map f (y ∷ xs) x (inl h) = inl (ap f h)
in_map f (y ∷ xs) x (inr h) = inr (in_map f xs x h)
