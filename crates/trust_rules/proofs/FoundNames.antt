-- What is found by a name in two lists, one after the other.
use Rattle.std.proofs.Common.{◌≡◌, List, [], ◌∷◌, ◌++◌, Some, None, refl}
use Rattle.std.specs.Prelude.{bytes_eq}
use Rattle.keys_roles.specs.Plain.{look_up}
use Rattle.metadata.specs.File.{Bytes}
use Rattle.delegations.proofs.Walk.{by_test}

pub found_first : {A : Type 0} (xs ys : List (Bytes × A)) (name : Bytes) (a : A) → look_up xs name ≡ Some a → look_up (xs ++ ys) name ≡ Some a
found_first [] ys name a h = let none : None ≡ Some a = h in cc
found_first (x ∷ xs) ys name a h = by_test (bytes_eq x.0 name)
    (λ t. rw t (rw t at h))
    (λ f. rw f (found_first xs ys name a (rw f at h)))

pub found_later : {A : Type 0} (xs ys : List (Bytes × A)) (name : Bytes) → look_up xs name ≡ None → look_up (xs ++ ys) name ≡ look_up ys name
found_later [] ys name h = refl
found_later {A} (x ∷ xs) ys name h = by_test (bytes_eq x.0 name)
    (λ t. let some : Some x.1 ≡ None = rw t at h in cc)
    (λ f. rw f (found_later xs ys name (rw f at h)))
