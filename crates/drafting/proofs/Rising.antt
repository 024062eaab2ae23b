-- Names that rise, and rise still where rows are left out, and where one is put in its place.
use Rattle.std.proofs.Common.{◌≡◌, ◌≢◌, inl, inr, ℕ, zero, suc, ◌<◌, Bool, true, false, cond, List, [], ◌∷◌, length, get_or, filter, map, string_bytes, refl, sym, ap, ◌∙◌, subst, arith, Less, Equal, Greater, Ordering}
use Rattle.std.specs.List.{AllByRecursion, insert}
use Rattle.std.specs.Ordering.{nat_cmp, ordering_reverse}
use Rattle.std.specs.Cmp.Lexicographic.{slice_cmp}
use Rattle.std.proofs.lemmas.Cmp.{nat_list_cmp_total}
use Rattle.std.proofs.lemmas.Map.Lookups.{exact_bytes}
use Rattle.canonical_json.specs.Json.{Json, names}
use Rattle.canonical_json.specs.Spelling.{AreRising, IsBefore}
use Rattle.canonical_json.specs.View.{view, members_view}
use Rattle.drafting.specs.Members.{HasNone, Rows, without}
use Rattle.drafting.specs.steps.Rows.{rows_view}
use Rattle.drafting.proofs.Rows.{Row, shown}

abbrev Name : Type 0
Name = List ℕ

abbrev IsSorted : List Name → Type 0
IsSorted [] = Unit {0}
IsSorted (n ∷ ns) = AllByRecursion (IsBefore n) ns × IsSorted ns

abbrev names_of : List Row → List Name
names_of ms = names (members_view ms)

before_all : (a b : Name) (ns : List Name) → IsBefore a b → AllByRecursion (IsBefore b) ns → AllByRecursion (IsBefore a) ns
before_all a b [] h all = tt
before_all a b (n ∷ ns) h all = (nat_list_cmp_total.trans a b n h all.0, before_all a b ns h all.1)

sorted : (ns : List Name) → AreRising ns → IsSorted ns
sorted [] r = tt
sorted (a ∷ []) r = (tt, tt)
sorted (a ∷ b ∷ ns) r = let s = sorted (b ∷ ns) r.1 in ((r.0, before_all a b ns r.0 s.0), s)

rising : (ns : List Name) → IsSorted ns → AreRising ns
rising [] s = tt
rising (a ∷ []) s = tt
rising (a ∷ b ∷ ns) s = (s.0.0, rising (b ∷ ns) s.1)

-- ---- rows are left out

abbrev heads : Rows → List Name
heads rows = map (λ r. r.0) rows

keep_all : (P : Name → Type 0) (t : Bool) (r : Name × Json) (left : Rows) → P r.0 → AllByRecursion P (heads left) → AllByRecursion P (heads (cond t (r ∷ left) left))
keep_all P true r left h all = (h, all)
keep_all P false r left h all = all

kept_all : (P : Name → Type 0) (p : Name × Json → Bool) (rows : Rows) → AllByRecursion P (heads rows) → AllByRecursion P (heads (filter p rows))
kept_all P p [] all = tt
kept_all P p (r ∷ rows) all = keep_all P (p r) r (filter p rows) all.0 (kept_all P p rows all.1)

keep_sorted : (t : Bool) (r : Name × Json) (left : Rows) → AllByRecursion (IsBefore r.0) (heads left) → IsSorted (heads left) → IsSorted (heads (cond t (r ∷ left) left))
keep_sorted true r left h s = (h, s)
keep_sorted false r left h s = s

kept_sorted : (p : Name × Json → Bool) (rows : Rows) → IsSorted (heads rows) → IsSorted (heads (filter p rows))
kept_sorted p [] s = tt
kept_sorted p (r ∷ rows) s = keep_sorted (p r) r (filter p rows) (kept_all (IsBefore r.0) p rows s.0) (kept_sorted p rows s.1)

heads_are : (ms : List Row) → heads (rows_view ms) ≡ names_of ms
heads_are [] = refl
heads_are (m ∷ ms) = ap (λ (ns : List Name). string_bytes m.0 ∷ ns) (heads_are ms)

-- ---- a row is put in

inserted_all : (P : Name → Type 0) (ms : List Row) (i : ℕ) (m : Row) → P (string_bytes m.0) → AllByRecursion P (names_of ms) → AllByRecursion P (names_of (insert ms i m))
inserted_all P [] zero m h all = (h, tt)
inserted_all P [] (suc i) m h all = (h, tt)
inserted_all P (r ∷ ms) zero m h all = (h, all)
inserted_all P (r ∷ ms) (suc i) m h all = (all.0, inserted_all P ms i m h all.1)

-- of two names that are not the same, and of which the first is not the lesser one, the second is
lesser : (a b : Name) (o : Ordering) → slice_cmp nat_cmp a b ≡ o → (IsBefore a b → ⊥) → a ≢ b → IsBefore b a
lesser a b Less is not apart = absurd (not is)
lesser a b Equal is not apart = absurd (apart (exact_bytes a b is))
lesser a b Greater is not apart = nat_list_cmp_total.antisymm b a ∙ ap ordering_reverse is

inserted_sorted : (ms : List Row) (i : ℕ) (m : Row)
    → ((k : ℕ) → k < i → (d : Row) → IsBefore (string_bytes m.0) (string_bytes (get_or ms k d).0) → ⊥)
    → (i < length ms → (d : Row) → IsBefore (string_bytes m.0) (string_bytes (get_or ms i d).0))
    → HasNone (shown ms) (string_bytes m.0) → IsSorted (names_of ms) → IsSorted (names_of (insert ms i m))
inserted_sorted [] zero m front behind none s = (tt, tt)
inserted_sorted [] (suc i) m front behind none s = (tt, tt)
inserted_sorted (r ∷ ms) zero m front behind none s =
    let first = behind (omega arith) m in
    ((first, before_all (string_bytes m.0) (string_bytes r.0) (names_of ms) first s.0), s)
inserted_sorted (r ∷ ms) (suc i) m front behind none s =
    let less = lesser (string_bytes m.0) (string_bytes r.0) (slice_cmp nat_cmp (string_bytes m.0) (string_bytes r.0)) refl (front zero (omega arith) m) (λ e. none (view r.1) (inl (sym e, refl))) in (
      inserted_all (IsBefore (string_bytes r.0)) ms i m less s.0,
      inserted_sorted ms i m (λ k lt d. front (suc k) (omega (arith, lt)) d) (λ lt d. behind (omega (arith, lt)) d) (λ x h. none x (inr h)) s.1,
    )

abbrev IsPutRising : List Row → List Row → ℕ → Row → Name → Type 0
IsPutRising old ms i m name = rows_view ms ≡ without (name ∷ []) (rows_view old)
    → ((k : ℕ) → k < i → (d : Row) → IsBefore name (string_bytes (get_or ms k d).0) → ⊥)
    → (i < length ms → (d : Row) → IsBefore name (string_bytes (get_or ms i d).0))
    → HasNone (shown ms) name → AreRising (names (members_view old)) → AreRising (names (members_view (insert ms i m)))

own_rising : (old ms : List Row) (i : ℕ) (m : Row) → IsPutRising old ms i m (string_bytes m.0)
own_rising old ms i m rest front behind none r =
    let all : IsSorted (heads (rows_view old)) = subst IsSorted (sym (heads_are old)) (sorted (names_of old) r) in
    let left : IsSorted (heads (rows_view ms)) = subst (λ (rows : Rows). IsSorted (heads rows)) (sym rest) (kept_sorted _ (rows_view old) all) in
    rising (names_of (insert ms i m)) (inserted_sorted ms i m front behind none (subst IsSorted (heads_are ms) left))

pub put_rising : (old ms seen : List Row) (i : ℕ) (name : List ℕ) (m : Row) → string_bytes m.0 ≡ name → rows_view ms ≡ without (name ∷ []) (rows_view old)
    → seen ≡ ms → ((k : ℕ) → k < i → (d : Row) → IsBefore name (string_bytes (get_or seen k d).0) → ⊥)
    → (i < length seen → (d : Row) → IsBefore name (string_bytes (get_or seen i d).0))
    → HasNone (shown ms) name → AreRising (names (members_view old)) → AreRising (names (members_view (insert ms i m)))
put_rising old ms seen i name m is rest same front behind =
    subst (IsPutRising old ms i m) is (own_rising old ms i m) rest
    (subst (λ (l : List Row). (k : ℕ) → k < i → (d : Row) → IsBefore name (string_bytes (get_or l k d).0) → ⊥) same front)
    (subst (λ (l : List Row). i < length l → (d : Row) → IsBefore name (string_bytes (get_or l i d).0)) same behind)
