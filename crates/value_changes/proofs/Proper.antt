-- In a value of canonical JSON no names are out of order.
use Rattle.std.proofs.Common.{◌≡◌, ◌⊎◌, inl, inr, ℕ, zero, suc, Bool, true, false, cond, List, [], ◌∷◌, Option, Some, None, refl, subst}
use Rattle.std.specs.Str.{bytes_eq}
use Rattle.canonical_json.specs.Json.{Json, null, boolean, integer, text, array, object, Items, no_items, item, Members, no_members, member, EachItem, EachMember}
use Rattle.canonical_json.specs.Spelling.{IsSound, IsProper}
use Rattle.value_changes.specs.Changes.{Step, at_name, at_index, named, item_at, inside, standing, HasUnordered}
use Rattle.value_changes.specs.declared.faults.CompareFault.{CompareFault}
use Rattle.value_changes.specs.declared.faults.CompareFault.TheVariants.{Unordered, OutOfMemory}

-- what stands there, if anything does, is a value of the grammar
abbrev ProperIf : Option Json → Type 0
ProperIf None = Unit {0}
ProperIf (Some v) = IsProper v

named_proper : (k : List ℕ) (ms : Members) → EachMember IsSound ms → ProperIf (named k ms)
named_proper k no_members h = tt
named_proper k (member n v ms) h = of_test (bytes_eq n k) (named_proper k ms h.1)
  where
    of_test : (b : Bool) → ProperIf (named k ms) → ProperIf (cond b (Some v) (named k ms))
    of_test true later = h.0
    of_test false later = later

item_proper : (i : ℕ) (vs : Items) → EachItem IsSound vs → ProperIf (item_at i vs)
item_proper i no_items h = tt
item_proper zero (item v vs) h = h.0
item_proper (suc i) (item v vs) h = item_proper i vs h.1

inside_proper : (s : Step) (one : Option Json) → ProperIf one → ProperIf (inside s one)
inside_proper (at_name k) None h = tt
inside_proper (at_name k) (Some null) h = tt
inside_proper (at_name k) (Some (boolean b)) h = tt
inside_proper (at_name k) (Some (integer z)) h = tt
inside_proper (at_name k) (Some (text t)) h = tt
inside_proper (at_name k) (Some (array vs)) h = tt
inside_proper (at_name k) (Some (object ms)) h = named_proper k ms h.1
inside_proper (at_index i) None h = tt
inside_proper (at_index i) (Some null) h = tt
inside_proper (at_index i) (Some (boolean b)) h = tt
inside_proper (at_index i) (Some (integer z)) h = tt
inside_proper (at_index i) (Some (text t)) h = tt
inside_proper (at_index i) (Some (array vs)) h = item_proper i vs h.1
inside_proper (at_index i) (Some (object ms)) h = tt

standing_proper : (place : List Step) (one : Option Json) → ProperIf one → ProperIf (standing place one)
standing_proper [] one h = h
standing_proper (s ∷ place) one h = standing_proper place (inside s one) (inside_proper s one h)

pub ordered_when_proper : (v : Json) → IsProper v → HasUnordered (Some v) → ⊥
ordered_when_proper v h u =
    let object_there : IsProper (object u.1) = subst ProperIf u.2 (standing_proper u.0 (Some v) h) in
    u.3 object_there.0.1

pub none_unordered : (v w : Json) → IsProper v → IsProper w → HasUnordered (Some v) ⊎ HasUnordered (Some w) → ⊥
none_unordered v w h g (inl u) = ordered_when_proper v h u
none_unordered v w h g (inr u) = ordered_when_proper w g u

pub only_memory : (e : CompareFault) → (e ≡ Unordered → ⊥) → e ≡ OutOfMemory
only_memory Unordered h = absurd (h refl)
only_memory OutOfMemory h = refl
