-- The index lists that a search looks at rise in dictionary order, and so do those that it keeps of them.
use Rattle.std.proofs.Common.{ℕ, zero, suc, ◌<◌, List, [], ◌∷◌, ◌++◌, map, refl, arith, IsTrue}
use Rattle.std.proofs.lemmas.Bool.{lt-ltb, or_left, or_right, and_from}
use Rattle.std.proofs.lemmas.Bool.Decides.{Decides-eqb}
use Rattle.std.proofs.lemmas.List.Elements.{All-from_recursion}
use Rattle.std.proofs.lemmas.List.Kept.{AllPairs-cons, AllPairs-filter}
use Rattle.std.specs.Prelude.{nat_lt, ◌==◌, ◌&&◌, not, length, AllPairs}
use Rattle.std.specs.List.{flat_map, AllByRecursion}
use Rattle.delegations.specs.Delegation.{Graph, before, places_from, index_lists, longest, all_index_lists, is_chain, chains, is_first, firsts, cut, visits}

abbrev Below : List ℕ → List ℕ → Type 0
Below c d = IsTrue (before c d)

-- each list is before all later ones, by recursion
abbrev Rise : List (List ℕ) → Type 0
Rise [] = Unit {0}
Rise (c ∷ cs) = AllByRecursion (Below c) cs × Rise cs

risen : (cs : List (List ℕ)) → Rise cs → AllPairs Below cs
risen [] h = λ i j d lt within. absurd (omega arith)
risen (c ∷ cs) h = AllPairs-cons Below c cs (All-from_recursion (Below c) cs h.0) (risen cs h.1)

all_append : (P : List ℕ → Type 0) (xs ys : List (List ℕ)) → AllByRecursion P xs → AllByRecursion P ys → AllByRecursion P (xs ++ ys)
all_append P [] ys h g = g
all_append P (x ∷ xs) ys h g = (h.0, all_append P xs ys h.1 g)

rise_append : (xs ys : List (List ℕ)) → Rise xs → Rise ys → AllByRecursion (λ x. AllByRecursion (Below x) ys) xs → Rise (xs ++ ys)
rise_append [] ys h g b = g
rise_append (x ∷ xs) ys h g b = (all_append (Below x) xs ys h.0 b.0, rise_append xs ys h.1 g b.1)

-- ---- lists that begin with one index

same_front : (i : ℕ) (c d : List ℕ) → Below c d → Below (i ∷ c) (i ∷ d)
same_front i c d h = or_right (nat_lt i i) ((i == i) && before c d) (and_from (i == i) (before c d) ((Decides-eqb i i).1 refl) h)

less_front : (i j : ℕ) (c d : List ℕ) → i < j → Below (i ∷ c) (j ∷ d)
less_front i j c d h = or_left (nat_lt i j) ((i == j) && before c d) (lt-ltb i j h)

all_fronted : (i : ℕ) (c : List ℕ) (cs : List (List ℕ)) → AllByRecursion (Below c) cs → AllByRecursion (Below (i ∷ c)) (map (λ is. i ∷ is) cs)
all_fronted i c [] h = tt
all_fronted i c (d ∷ cs) h = (same_front i c d h.0, all_fronted i c cs h.1)

rise_fronted : (i : ℕ) (cs : List (List ℕ)) → Rise cs → Rise (map (λ is. i ∷ is) cs)
rise_fronted i [] h = tt
rise_fronted i (c ∷ cs) h = (all_fronted i c cs h.0, rise_fronted i cs h.1)

-- ---- lists that begin with one index each of several

module _ (cs : List (List ℕ)) where
  abbrev fronted : ℕ → List (List ℕ)
  fronted i = map (λ is. i ∷ is) cs

  all_of_front : (P : List ℕ → Type 0) (j : ℕ) (ds : List (List ℕ)) → ((d : List ℕ) → P (j ∷ d)) → AllByRecursion P (map (λ is. j ∷ is) ds)
  all_of_front P j [] h = tt
  all_of_front P j (d ∷ ds) h = (h d, all_of_front P j ds h)

  -- what holds of all lists that begin so holds of these
  all_of_fronts : (P : List ℕ → Type 0) (Q : ℕ → Type 0) (js : List ℕ) → ((j : ℕ) (d : List ℕ) → Q j → P (j ∷ d)) → AllByRecursion Q js → AllByRecursion P (flat_map fronted js)
  all_of_fronts P Q [] h q = tt
  all_of_fronts P Q (j ∷ js) h q =
      all_append P (fronted j) (flat_map fronted js) (all_of_front P j cs (λ d. h j d q.0)) (all_of_fronts P Q js h q.1)

  -- the indices rise
  abbrev Climb : List ℕ → Type 0
  Climb [] = Unit {0}
  Climb (i ∷ is) = AllByRecursion (λ j. i < j) is × Climb is

  front_below : (i : ℕ) (ds : List (List ℕ)) (js : List ℕ) → AllByRecursion (λ j. i < j) js
      → AllByRecursion (λ c. AllByRecursion (Below c) (flat_map fronted js)) (map (λ is. i ∷ is) ds)
  front_below i [] js h = tt
  front_below i (c ∷ ds) js h = (all_of_fronts (Below (i ∷ c)) (λ j. i < j) js (λ j d lt. less_front i j c d lt) h, front_below i ds js h)

  rise_fronts : (js : List ℕ) → Rise cs → Climb js → Rise (flat_map fronted js)
  rise_fronts [] r h = tt
  rise_fronts (j ∷ js) r h =
      rise_append (fronted j) (flat_map fronted js) (rise_fronted j cs r) (rise_fronts js r h.1) (front_below j cs js h.0)

  none_before : (js : List ℕ) → AllByRecursion (Below []) (flat_map fronted js)
  none_before [] = tt
  none_before (j ∷ js) = all_append (Below []) (fronted j) (flat_map fronted js) (all_of_front (Below []) j cs (λ d. refl)) (none_before js)

-- ---- the places of a list, and all index lists

places_above : {A : Type 0} (i k : ℕ) (xs : List A) → i < k → AllByRecursion (λ j. i < j) (places_from k xs)
places_above i k [] h = tt
places_above i k (x ∷ xs) h = (h, places_above i (suc k) xs (omega arith))

places_climb : {A : Type 0} (cs : List (List ℕ)) (k : ℕ) (xs : List A) → Climb cs (places_from k xs)
places_climb cs k [] = tt
places_climb cs k (x ∷ xs) = (places_above k (suc k) xs (omega arith), places_climb cs (suc k) xs)

lists_rise : {A : Type 0} (depth : ℕ) (xs : List A) → Rise (index_lists depth (places_from 0 xs))
lists_rise zero xs = (tt, tt)
lists_rise (suc depth) xs =
    let deeper = lists_rise depth xs in
    let cs = index_lists depth (places_from 0 xs) in
    (none_before cs (places_from 0 xs), rise_fronts cs (places_from 0 xs) deeper (places_climb cs 0 xs))

pub all_rise : (g : Graph) → AllPairs Below (all_index_lists g)
all_rise g = risen (all_index_lists g) (lists_rise (length g.rows) (longest g.rows))

pub chains_rise : (g : Graph) → AllPairs Below (chains g)
chains_rise g = AllPairs-filter Below (is_chain g) (all_index_lists g) (all_rise g)

pub visits_rise : (g : Graph) → AllPairs Below (visits g)
visits_rise g = AllPairs-filter Below (λ c. not (cut g c)) (firsts g) (AllPairs-filter Below (is_first g) (chains g) (chains_rise g))
