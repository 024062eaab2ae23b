-- What stands in a list, and whether a text stands twice in a list of texts.
use Rattle.std.proofs.Common.{◌≡◌, ◌≢◌, ℕ, List, [], ◌∷◌, length, map, Option, Some, None, refl, sym, ap, ◌∙◌, subst, arith, inl, inr}
use Rattle.std.specs.List.{AllByRecursion, cons_option}
use Rattle.keys_roles.specs.Plain.{Table}
use Rattle.keys_roles.specs.Rules.{AreDistinct}
use Rattle.keys_roles.specs.steps.Counting.{IsIn}
use Rattle.document_parts.specs.Parts.{top_at, tops_of}
pub use Rattle.keys_roles.proofs.Elements.{contains_in, in_contains}

pub absent : (xs : List (List ℕ)) (x : List ℕ) → (IsIn xs x → ⊥) → AllByRecursion (λ y. x ≢ y) xs
absent [] x h = tt
absent (y ∷ ys) x h = (λ e. h (inl (sym e)), absent ys x (λ k. h (inr k)))

pub present : (xs : List (List ℕ)) (x : List ℕ) → IsIn xs x → AllByRecursion (λ y. x ≢ y) xs → ⊥
present [] x h all = absurd h
present (y ∷ ys) x (inl h) all = all.0 (sym h)
present (y ∷ ys) x (inr h) all = present ys x h all.1

-- the first is none of the others
pub first_alone : (rest later : List (List ℕ)) (x : List ℕ) → rest ≡ x ∷ later → (IsIn later x → ⊥)
    → (AreDistinct rest → AreDistinct later) × (AreDistinct later → AreDistinct rest)
first_alone rest later x at no_other = (
  λ d. (subst AreDistinct at d).1,
  λ d. subst AreDistinct (sym at) (absent later x no_other, d),
)

pub first_again : (rest later : List (List ℕ)) (x : List ℕ) → rest ≡ x ∷ later → IsIn later x → AreDistinct rest → ⊥
first_again rest later x at other d = present later x other (subst AreDistinct at d).0

-- names are distinct where those of what the items stand for are
pub distinct_views : {X Y : Type 0} (name : Y → List ℕ) (view : X → Y) (xs : List X)
    → (AreDistinct (map (λ x. name (view x)) xs) → AreDistinct (map name (map view xs))) × (AreDistinct (map name (map view xs)) → AreDistinct (map (λ x. name (view x)) xs))
distinct_views {X} {Y} name view xs = (λ d. subst AreDistinct (sym (same xs)) d, λ d. subst AreDistinct (same xs) d)
  where
    same : (xs : List X) → map name (map view xs) ≡ map (λ x. name (view x)) xs
    same [] = refl
    same (x ∷ xs) = ap (λ l. name (view x) ∷ l) (same xs)

pub none_left : {X : Type 0} → (xs : List X) → length xs ≡ 0 → xs ≡ []
none_left [] h = refl
none_left (x ∷ xs) h = absurd (omega (arith, h))

-- the same of the top keys of the keys that ids name
next_tops : (table : Table) (rest later : List (List ℕ)) (x : List ℕ) (o : Option (List ℕ)) → rest ≡ x ∷ later → top_at table x ≡ o
    → tops_of table rest ≡ cons_option o (tops_of table later)
next_tops table rest later x o at is = ap (tops_of table) at ∙ ap (λ (p : Option (List ℕ)). cons_option p (tops_of table later)) is

-- the text names a key with the top key of one that the ids name
abbrev pub SharesTop : Table → List ℕ → List (List ℕ) → Type 0
SharesTop table x ids = (top : List ℕ) × (top_at table x ≡ Some top) × IsIn (tops_of table ids) top

pub top_alone : (table : Table) (rest later : List (List ℕ)) (x : List ℕ) → rest ≡ x ∷ later → (SharesTop table x later → ⊥)
    → (AreDistinct (tops_of table rest) → AreDistinct (tops_of table later)) × (AreDistinct (tops_of table later) → AreDistinct (tops_of table rest))
top_alone table rest later x at no_other = by (top_at table x) refl
  where
    by : (o : Option (List ℕ)) → top_at table x ≡ o
        → (AreDistinct (tops_of table rest) → AreDistinct (tops_of table later)) × (AreDistinct (tops_of table later) → AreDistinct (tops_of table rest))
    by None is =
        let same = next_tops table rest later x None at is in
        (λ d. subst AreDistinct same d, λ d. subst AreDistinct (sym same) d)
    by (Some top) is =
        first_alone (tops_of table rest) (tops_of table later) top (next_tops table rest later x (Some top) at is) (λ h. no_other (top, is, h))

pub top_again : (table : Table) (rest later : List (List ℕ)) (x : List ℕ) → rest ≡ x ∷ later → SharesTop table x later → AreDistinct (tops_of table rest) → ⊥
top_again table rest later x at h d =
    first_again (tops_of table rest) (tops_of table later) h.0 (next_tops table rest later x (Some h.0) at h.1) h.2 d
