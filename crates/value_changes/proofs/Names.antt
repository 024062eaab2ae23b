-- Names in the order of their bytes, and the members of an object whose names rise.
use Rattle.std.proofs.Common.{◌≡◌, ◌≢◌, ℕ, Bool, true, false, cond, List, ◌∷◌, Some, None, refl, sym, ap, ◌∙◌}
use Rattle.std.specs.Str.{bytes_eq}
use Rattle.std.specs.Cmp.Lexicographic.{slice_cmp}
use Rattle.std.specs.Ordering.{nat_cmp, ordering_reverse}
use Rattle.std.specs.declared.cmp.Ordering.{Ordering}
use Rattle.std.specs.declared.cmp.Ordering.TheVariants.{Less, Equal, Greater}
use Rattle.std.proofs.lemmas.Cmp.{nat_list_cmp_total}
use Rattle.std.proofs.lemmas.Map.Lookups.{exact_bytes}
use Rattle.std.proofs.lemmas.Slice.Eq.{bytes_eq-Decides}
use Rattle.canonical_json.specs.Json.{Json, Members, no_members, member, names}
use Rattle.canonical_json.specs.Spelling.{IsBefore, AreRising}
use Rattle.value_changes.specs.Changes.{named}
use Rattle.value_changes.specs.steps.Turns.{Turn, by_order}

pub before_before : (a b c : List ℕ) → IsBefore a b → IsBefore b c → IsBefore a c
before_before a b c h g = nat_list_cmp_total.trans a b c h g

pub greater_before : (a b : List ℕ) → slice_cmp nat_cmp a b ≡ Greater → IsBefore b a
greater_before a b h = nat_list_cmp_total.antisymm b a ∙ ap ordering_reverse h

-- no name stands before itself
pub not_before_itself : (a b : List ℕ) → IsBefore a b → a ≢ b
not_before_itself a b h e =
    let less : slice_cmp nat_cmp a a ≡ Less = ap (slice_cmp nat_cmp a) e ∙ h in
    let greater : slice_cmp nat_cmp a a ≡ Greater = nat_list_cmp_total.antisymm a a ∙ ap ordering_reverse less in
    cc

-- what holds of each outcome holds of the one that there is
pub at_order : (P : List Turn → Type 0) (n m : List ℕ) (less equal greater : List Turn) → (IsBefore n m → P less) → (n ≡ m → P equal) → (IsBefore m n → P greater)
    → P (by_order (slice_cmp nat_cmp n m) less equal greater)
at_order P n m less equal greater l e g = of_order (slice_cmp nat_cmp n m) refl
  where
    of_order : (o : Ordering) → slice_cmp nat_cmp n m ≡ o → P (by_order o less equal greater)
    of_order Less h = l h
    of_order Equal h = e (exact_bytes n m h)
    of_order Greater h = g (greater_before n m h)

-- ---- members

pub other_name : (n k : List ℕ) → n ≢ k → bytes_eq n k ≡ false
other_name n k h = of_test (bytes_eq n k) refl
  where
    of_test : (b : Bool) → bytes_eq n k ≡ b → b ≡ false
    of_test true e = absurd (h ((bytes_eq-Decides n k).0 e))
    of_test false e = refl

pub named_first : (n : List ℕ) (v : Json) (ms : Members) → named n (member n v ms) ≡ Some v
named_first n v ms = ap (λ b. cond b (Some v) (named n ms)) ((bytes_eq-Decides n n).1 refl)

pub named_later : (n k : List ℕ) (v : Json) (ms : Members) → n ≢ k → named k (member n v ms) ≡ named k ms
named_later n k v ms h = ap (λ b. cond b (Some v) (named k ms)) (other_name n k h)

-- P of each name
abbrev pub EachName : (List ℕ → Type 0) → Members → Type 0
EachName P no_members = Unit {0}
EachName P (member n v ms) = P n × EachName P ms

pub each_name : (P Q : List ℕ → Type 0) (ms : Members) → ((n : List ℕ) → P n → Q n) → EachName P ms → EachName Q ms
each_name P Q no_members f h = tt
each_name P Q (member n v ms) f h = (f n h.0, each_name P Q ms f h.1)

pub not_named : (n : List ℕ) (ms : Members) → EachName (IsBefore n) ms → named n ms ≡ None
not_named n no_members h = refl
not_named n (member m v ms) h = named_later m n v ms (λ e. not_before_itself n m h.0 (sym e)) ∙ not_named n ms h.1

-- each name stands before all later ones
abbrev pub Rises : Members → Type 0
Rises no_members = Unit {0}
Rises (member n v ms) = EachName (IsBefore n) ms × Rises ms

rises_behind : (n : List ℕ) (ms : Members) → AreRising (n ∷ names ms) → EachName (IsBefore n) ms × Rises ms
rises_behind n no_members h = (tt, tt)
rises_behind n (member m v ms) h =
    let later = rises_behind m ms h.1 in
    ((h.0, each_name (IsBefore m) (IsBefore n) ms (λ k g. before_before n m k h.0 g) later.0), later)

pub rises : (ms : Members) → AreRising (names ms) → Rises ms
rises no_members h = tt
rises (member n v ms) h = rises_behind n ms h
