-- Looking a name up by halves, in a list that is in the order of its names.
use Rattle.std.proofs.Common.{◌≡◌, ℕ, zero, suc, ◌+◌, ◌<◌, List, [], ◌∷◌, ◌++◌, length, map, Bool, true, false, Some, None, option_map, MatchResult, Result, Ok, Err, get_or, codes, refl, sym, ap, subst, ◌∙◌, inl, inr, nat_lt, arith, rules}
use Rattle.std.specs.List.{find, AllByRecursion}
use Rattle.std.specs.List.Sorted.{IsStrictlySortedBy, IsSearchInRange, IsBinarySearchResult, IsNonDecreasingBy}
use Rattle.std.specs.Ordering.{is_lt, ordering_index, ordering_reverse}
use Rattle.std.specs.Str.{bytes_eq}
use Rattle.std.specs.declared.cmp.Ordering.{Ordering}
use Rattle.std.specs.declared.cmp.Ordering.TheVariants.{Less, Equal, Greater}
use Rattle.std.proofs.lemmas.Bool.{cases_Bool}
use Rattle.std.proofs.lemmas.Cmp.{nat_list_cmp_total, tied_itself}
use Rattle.std.proofs.lemmas.List.{append_cancel_right, get_or-map, length-map}
use Rattle.std.proofs.lemmas.List.Sorted.{searchable_from_sorted}
use Rattle.std.proofs.lemmas.Map.Keys.{Less-from_sorted, sorted_tail}
use Rattle.std.proofs.lemmas.Map.Lookups.{exact_bytes}
use Rattle.std.proofs.lemmas.Slice.Eq.{bytes_eq-Decides}
use Rattle.canonical_json.specs.Json.{Json, Members, no_members, member, names}
use Rattle.canonical_json.specs.Spelling.{IsProper, AreRising}
use Rattle.keys_roles.specs.Plain.{look_up}
use Rattle.document_parts.specs.Members.{IsObject, MembersAre}
use Rattle.document_parts.specs.Sorted.{compared, AreInOrder}

-- ---- the names of a proper object are in order

less_all : (a b : List ℕ) (ns : List (List ℕ)) → compared a b ≡ Less → AllByRecursion (λ n. compared b n ≡ Less) ns → AllByRecursion (λ n. compared a n ≡ Less) ns
less_all a b [] p h = tt
less_all a b (n ∷ ns) p h = (nat_list_cmp_total.trans a b n p h.0, less_all a b ns p h.1)

pub in_order : (ns : List (List ℕ)) → AreRising ns → AreInOrder ns
unfolding IsStrictlySortedBy
in_order [] h = tt
in_order (a ∷ []) h = (tt, tt)
in_order (a ∷ b ∷ ns) h = let later = in_order (b ∷ ns) h.1 in ((h.0, less_all a b ns h.0 later.0), later)

module _ {A : Type 0} (R : List ℕ → Json → A → Type 0) (key : A → List ℕ) (named : (n : List ℕ) (v : Json) (a : A) → R n v a → n ≡ key a) where
  names_are : (ms : Members) (xs : List A) → MembersAre R ms xs → names ms ≡ map key xs
  names_are no_members [] h = refl
  names_are no_members (x ∷ xs) h = absurd h
  names_are (member n v ms) [] h = absurd h
  names_are (member n v ms) (x ∷ xs) h =
      ap (λ k. k ∷ names ms) (named n v x h.0) ∙ ap (λ ks. key x ∷ ks) (names_are ms xs h.1)

  pub members_in_order : (v : Json) (xs : List A) → IsProper v → IsObject R v xs → AreInOrder (map key xs)
  members_in_order v xs p (ms, is, h) =
      let sound = subst IsProper is p in
      subst AreInOrder (names_are ms xs h) (in_order (names ms) sound.0.1)

-- ---- a search by halves finds what a search from the front finds

-- how a value stands to the name that is looked up
abbrev pub order : {A : Type 0} → (A → List ℕ) → List ℕ → A → Ordering
order key k a = compared (key a) k

module _ {A : Type 0} (key : A → List ℕ) (k : List ℕ) (test : A → Bool)
    (hit : (a : A) → compared (key a) k ≡ Equal → test a ≡ true)
    (miss : (a : A) → (compared (key a) k ≡ Equal → ⊥) → test a ≡ false) where
  rises : (xs : List A) → AreInOrder (map key xs) → IsNonDecreasingBy (λ a. ordering_index (order key k a)) xs
  rises xs s =
      searchable_from_sorted nat_list_cmp_total key xs k (λ i d low below.
      let more : i + 1 < length (map key xs) = rw length-map below in
      let less = Less-from_sorted compared (map key xs) i (i + 1) (key d) s (omega arith) more in
      let here = get_or-map key xs i d (key d) (omega (arith, below)) in
      let next = get_or-map key xs (i + 1) d (key d) below in
      let apart : compared (key (get_or xs i d)) (key (get_or xs (i + 1) d)) ≡ Less = rw (sym here, sym next) less in
      ap is_lt (nat_list_cmp_total.antisymm (key (get_or xs (i + 1) d)) (key (get_or xs i d)) ∙ ap ordering_reverse apart))

  -- the first of a list is before the others
  before : (x : A) (xs : List A) (i : ℕ) (d : A) → AreInOrder (map key (x ∷ xs)) → i < length xs → compared (key x) (key (get_or xs i d)) ≡ Less
  before x xs i d s below =
      let all : suc i < length (map key (x ∷ xs)) = rw length-map (omega (arith, below)) in
      let less = Less-from_sorted compared (map key (x ∷ xs)) 0 (suc i) (key d) s (omega arith) all in
      let there = get_or-map key xs i d (key d) below in
      ap (compared (key x)) (sym there) ∙ less

  found : (xs : List A) (i : ℕ) (d : A) → AreInOrder (map key xs) → i < length xs → order key k (get_or xs i d) ≡ Equal → find test xs ≡ Some (get_or xs i d)
  found [] i d s below is = absurd (omega (arith, below))
  found (x ∷ xs) zero d s below is = rw (hit x is) refl
  found (x ∷ xs) (suc i) d s below is =
      let inner : i < length xs = omega (arith, below) in
      let less = before x xs i d s inner in
      let same = exact_bytes (key (get_or xs i d)) k is in
      let other : test x ≡ false = miss x (λ e. let both : Less ≡ Equal = sym less ∙ ap (compared (key x)) same ∙ e in absurd (cc)) in
      rw other (found xs i d (sorted_tail compared (key x) (map key xs) s) inner is)

  absent : (xs : List A) → ((i : ℕ) (d : A) → i < length xs → order key k (get_or xs i d) ≡ Equal → ⊥) → find test xs ≡ None
  absent [] none = refl
  absent (x ∷ xs) none =
      let other : test x ≡ false = miss x (none 0 x (omega arith)) in
      rw other (absent xs (λ i d below. none (suc i) d (omega (arith, below))))

  pub searched : (xs : List A) → AreInOrder (map key xs) → (r : Result ℕ ℕ) → IsSearchInRange r (length xs) → IsBinarySearchResult (order key k) xs r
      → MatchResult r (λ i. (d : A) → find test xs ≡ Some (get_or xs i d)) (λ _. find test xs ≡ None)
  searched xs s (Ok i) below is = λ d. found xs i d s below (is d)
  searched xs s (Err i) below parted =
      let point = parted (rises xs s) in
      absent xs (λ j d inside is.
      elim (cases_Bool (nat_lt j i)) [
        | inl low ↦ let less = point.0 j d (omega arith) (search rules) in let both : Less ≡ Equal = sym less ∙ is in absurd (cc)
        | inr high ↦ let more = point.1 j d (search rules) inside in let both : Greater ≡ Equal = sym more ∙ is in absurd (cc)
      ])

-- ---- by the name itself, and by the name of the role's file

pub hit_name : (name q : List ℕ) → compared name q ≡ Equal → bytes_eq name q ≡ true
hit_name name q is = (bytes_eq-Decides name q).1 (exact_bytes name q is)

equal_itself : (n q : List ℕ) → n ≡ q → compared n q ≡ Equal
equal_itself n q same = ap (compared n) (sym same) ∙ tied_itself nat_list_cmp_total n

pub miss_name : (name q : List ℕ) → (compared name q ≡ Equal → ⊥) → bytes_eq name q ≡ false
miss_name name q none =
    elim (cases_Bool (bytes_eq name q)) [
      | inl same ↦ absurd (none (equal_itself name q ((bytes_eq-Decides name q).0 same)))
      | inr other ↦ other
    ]

pub hit_file : (name q : List ℕ) → compared (name ++ codes ".json") (q ++ codes ".json") ≡ Equal → bytes_eq name q ≡ true
hit_file name q is = (bytes_eq-Decides name q).1 (append_cancel_right name q (codes ".json") (exact_bytes _ _ is))

pub miss_file : (name q : List ℕ) → (compared (name ++ codes ".json") (q ++ codes ".json") ≡ Equal → ⊥) → bytes_eq name q ≡ false
miss_file name q none =
    elim (cases_Bool (bytes_eq name q)) [
      | inl same ↦ absurd (none (equal_itself _ _ (ap (λ n. n ++ codes ".json") ((bytes_eq-Decides name q).0 same))))
      | inr other ↦ other
    ]

-- ---- what stands in the code's list, and what it stands for

pub find_view : {A B : Type 0} (view : A → B) (test : B → Bool) (xs : List A)
    → find test (map view xs) ≡ option_map view (find (λ a. test (view a)) xs)
find_view view test [] = refl
find_view view test (x ∷ xs) =
    elim (cases_Bool (test (view x))) [
      | inl same ↦ rw same refl
      | inr other ↦ rw other (find_view view test xs)
    ]

pub look_up_view : {A B : Type 0} (name : A → List ℕ) (view : A → B) (q : List ℕ) (xs : List A)
    → look_up (map (λ a. (name a, view a)) xs) q ≡ option_map view (find (λ a. bytes_eq (name a) q) xs)
look_up_view name view q [] = refl
look_up_view name view q (x ∷ xs) =
    elim (cases_Bool (bytes_eq (name x) q)) [
      | inl same ↦ rw same refl
      | inr other ↦ rw other (look_up_view name view q xs)
    ]

map-view : {A B : Type 0} (view : A → B) (key : B → List ℕ) (xs : List A) → map key (map view xs) ≡ map (λ a. key (view a)) xs
map-view view key [] = refl
map-view view key (x ∷ xs) = ap (λ ks. key (view x) ∷ ks) (map-view view key xs)

-- the names in the code's list are those in what it stands for
pub seen_in_order : {A B : Type 0} (view : A → B) (key : B → List ℕ) (xs : List A) → AreInOrder (map key (map view xs)) → AreInOrder (map (λ a. key (view a)) xs)
seen_in_order view key xs h = subst AreInOrder (map-view view key xs) h
