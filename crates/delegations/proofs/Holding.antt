-- What a table with a row for each document holds, and how many verdicts it has.
use Rattle.std.proofs.Common.{◌≡◌, ◌≢◌, ℕ, ◌+◌, ◌≤◌, ◌<◌, Bool, true, false, cond, ◌&&◌, List, [], ◌∷◌, ◌++◌, map, length, Option, Some, None, option_map, option_and_then, unwrap_or, refl, sym, ap, subst, ◌∙◌, ◌⊎◌, inl, inr, arith, IsTrue, IsSome, Contains, nat_eq}
use Rattle.std.specs.List.{AllByRecursion}
use Rattle.std.proofs.lemmas.Bool.{eq-eqb}
use Rattle.std.proofs.lemmas.List.{length-map}
use Rattle.std.proofs.lemmas.Slice.Eq.{bytes_eq-Decides}
use Rattle.keys_roles.specs.Plain.{look_up}
use Rattle.keys_roles.specs.Rules.{AreDistinct}
use Rattle.keys_roles.specs.Verdicts.{Pair, Verdict, AreVerdicts, is_known, pairs}
use Rattle.keys_roles.specs.steps.Counting.{IsIn}
use Rattle.keys_roles.proofs.Elements.{in_contains, of_each, for_each, each_more, fewer, in_either}
use Rattle.keys_roles.proofs.Knowing.{known_in}
use Rattle.document_parts.specs.Documents.{Targets, MetaFile}
use Rattle.metadata.specs.File.{Name, Names, File}
use Rattle.delegations.specs.Rows.{Place, named_row, row_at, same_place, value_at}
use Rattle.delegations.specs.Search.{Shelf, doc}
use Rattle.delegations.specs.Verdicts.{Table, known_at, AreTrue, AreListed, AreOfRows, IsWanted, AreFew, IsComplete, most_verdicts, verdict_count}
use Rattle.delegations.specs.steps.Gathering.{IsRow, AreGathered}
use Rattle.delegations.proofs.Gathered.{count_more, or_none, roles_distinct}
use Rattle.delegations.proofs.KeyOrder.{place_one}

-- ---- each verdict is true, of a row of the shelf

is_some_of : (o : Option (File Targets)) (file : File Targets) → o ≡ Some file → IsSome o
is_some_of (Some f) file is = refl
is_some_of None file is = absurd (cc)

module _ (V : Shelf) where
  pub all_of_rows : (T : Table) → AllByRecursion (IsRow V) T → AreOfRows V.rows T
  all_of_rows [] h = tt
  all_of_rows (row ∷ T) h = (is_some_of (row_at V.rows row.0.0 row.0.1) h.0.file h.0.stands, all_of_rows T h.1)

  pub all_listed : (T : Table) → AllByRecursion (IsRow V) T → AreListed V.listing T
  all_listed [] h = tt
  all_listed (row ∷ T) h = (h.0.listed, all_listed T h.1)

  pub all_true : (T : Table) → AllByRecursion (IsRow V) T → AreTrue V.rows T
  all_true [] h = tt
  all_true (row ∷ T) h = (λ file there. tells row h.0 file there, all_true T h.1)
    where
      tells : (row : Place × List Verdict) → IsRow V row → (file : File Targets) → row_at V.rows row.0.0 row.0.1 ≡ Some file → AreVerdicts file.signed file.entries row.1
      tells row is file there =
          let k : Some is.file ≡ Some file = sym is.stands ∙ there in
          let one : is.file ≡ file = cc in
          subst (λ (f : File Targets). AreVerdicts f.signed f.entries row.1) one is.gathered.are

  -- ---- what is known of the document of a role is what its row has

  same_self : (p : Place) → same_place p p ≡ true
  same_self p = ap (λ (b : Bool). b && nat_eq p.1 p.1) ((bytes_eq-Decides p.0 p.0).1 refl) ∙ eq-eqb p.1 p.1 refl

  version_is : (m : MetaFile) (version : ℕ) → Some m.version ≡ Some version → m.version ≡ version
  version_is m version h = cc

  -- each wanted pair of the role is among the verdicts
  abbrev HasAll : Name → List Verdict → Type 0
  HasAll role vs = (p : Pair) → IsWanted V role p → IsTrue (is_known vs p)

  has_all : (row : Place × List Verdict) → IsRow V row → HasAll row.0.0 row.1
  has_all row is p w =
      let k : Some w.file ≡ Some is.file = sym w.there ∙ is.there in
      let one : w.file ≡ is.file = cc in
      or_none (IsTrue (is_known row.1 p)) (is.gathered.all w.edge p w.is_edge w.into (subst (λ (f : File Targets). Contains (pairs w.edge.rule w.edge.table f.entries) p) one w.of))

  at_place : (T : Table) (role : Name) (version : ℕ) → AllByRecursion (IsRow V) T → option_map (λ m. m.version) (look_up V.listing role) ≡ Some version
      → IsIn (map (λ row. row.0.0) T) role → HasAll role (known_at T (role, version))
  at_place [] role version h listed there = absurd there
  at_place (row ∷ T) role version h listed there = split (same_place row.0 (role, version)) refl there (at_place T role version h.1 listed)
    where
      named : row.0.0 ≡ role → same_place row.0 (role, version) ≡ true
      named same =
          let k : Some row.0.1 ≡ Some version = sym h.0.listed ∙ ap (λ (r : Name). option_map (λ m. m.version) (look_up V.listing r)) same ∙ listed in
          let v : row.0.1 ≡ version = cc in
          subst (λ (p : Place). same_place row.0 p ≡ true) (λ i. (same i, v i)) (same_self row.0)

      split : (b : Bool) → same_place row.0 (role, version) ≡ b → IsIn (map (λ row. row.0.0) (row ∷ T)) role → (IsIn (map (λ row. row.0.0) T) role → HasAll role (known_at T (role, version)))
          → HasAll role (unwrap_or (cond b (Some row.1) (value_at same_place T (role, version))) [])
      split true same k later =
          subst (λ (r : Name). HasAll r row.1) (ap (λ (p : Place). p.0) (place_one row.0 (role, version) same)) (has_all row h.0)
      split false same (inl k) later = absurd (let yes = named k in let no = sym same ∙ yes in cc)
      split false same (inr k) later = later k

  known_is : (T : Table) (o : Option MetaFile) (role : Name) → ((version : ℕ) → option_map (λ m. m.version) o ≡ Some version → HasAll role (known_at T (role, version)))
      → (file : File Targets) → (o ≡ None → ⊥) → HasAll role (unwrap_or (option_map (λ entry. known_at T (role, entry.version)) o) [])
  known_is T None role h file some = absurd (some refl)
  known_is T (Some m) role h file some = h m.version refl

  listed_some : (role : Name) (file : File Targets) → doc V role ≡ Some file → look_up V.listing role ≡ None → ⊥
  listed_some role file there none = let no = sym there ∙ ap (option_and_then (named_row V.rows role)) none in absurd (cc)

  pub complete : (T : Table) → AreGathered V [] T → IsComplete V T
  complete T a = λ few role pair w.
      known_is T (look_up V.listing role) role (λ version listed. at_place T role version a.rows listed (or_none (IsIn (map (λ row. row.0.0) T) role) (a.all role w.file w.there)))
      w.file (listed_some role w.file w.there) pair w

  -- ---- how many verdicts there are

  abbrev beside : Name → Verdict → Name × Pair
  beside role v = (role, v.pair)

  abbrev flat : Table → List (Name × Pair)
  flat [] = []
  flat (row ∷ T) = map (beside row.0.0) row.1 ++ flat T

  both_lengths : {X : Type 0} (xs ys : List X) → length (xs ++ ys) ≡ length xs + length ys
  both_lengths [] ys = omega arith
  both_lengths (x ∷ xs) ys = let more = both_lengths xs ys in omega (arith, more)

  flat_length : (T : Table) → length (flat T) ≡ verdict_count T
  flat_length [] = refl
  flat_length (row ∷ T) =
      let both = both_lengths (map (beside row.0.0) row.1) (flat T) in
      let one : length (map (beside row.0.0) row.1) ≡ length row.1 = length-map row.1 (beside row.0.0) in
      let rest = flat_length T in
      omega (arith, both, one, rest)

  of_row : (role : Name) (vs : List Verdict) (x : Name × Pair) → IsIn (map (beside role) vs) x → (role ≡ x.0) × IsIn (map (λ v. v.pair) vs) x.1
  of_row role [] x h = absurd h
  of_row role (v ∷ vs) x (inl h) = (ap (λ (y : Name × Pair). y.0) h, inl (ap (λ (y : Name × Pair). y.1) h))
  of_row role (v ∷ vs) x (inr h) = let t = of_row role vs x h in (t.0, inr t.1)

  of_rows : (T : Table) (x : Name × Pair) → IsIn (flat T) x → IsIn (map (λ row. row.0.0) T) x.0
  of_rows [] x h = absurd h
  of_rows (row ∷ T) x h = split (in_either (map (beside row.0.0) row.1) (flat T) x h) (of_rows T x)
    where
      split : IsIn (map (beside row.0.0) row.1) x ⊎ IsIn (flat T) x → (IsIn (flat T) x → IsIn (map (λ row. row.0.0) T) x.0) → IsIn (map (λ row. row.0.0) (row ∷ T)) x.0
      split (inl k) later = inl (of_row row.0.0 row.1 x k).0
      split (inr k) later = inr (later k)

  all_wanted : (T : Table) (x : Name × Pair) → AllByRecursion (IsRow V) T → IsIn (flat T) x → IsWanted V x.0 x.1
  all_wanted [] x a h = absurd h
  all_wanted (row ∷ T) x a h = split (in_either (map (beside row.0.0) row.1) (flat T) x h) (all_wanted T x a.1)
    where
      split : IsIn (map (beside row.0.0) row.1) x ⊎ IsIn (flat T) x → (IsIn (flat T) x → IsWanted V x.0 x.1) → IsWanted V x.0 x.1
      split (inl k) later =
          let t = of_row row.0.0 row.1 x k in
          subst (λ (r : Name). IsWanted V r x.1) t.0 (a.0.gathered.wanted x.1 (known_in row.1 x.1 t.1))
      split (inr k) later = later k

  distinct_both : {X : Type 0} (xs ys : List X) → AreDistinct xs → AreDistinct ys → ((x : X) → IsIn xs x → IsIn ys x → ⊥) → AreDistinct (xs ++ ys)
  distinct_both [] ys h k apart = k
  distinct_both {X} (x ∷ xs) ys h k apart = (
    for_each (λ y. x ≢ y) (xs ++ ys) (λ y there. split y (in_either xs ys y there)),
    distinct_both xs ys h.1 k (λ y here there. apart y (inr here) there),
  )
    where
      split : (y : X) → IsIn xs y ⊎ IsIn ys y → x ≢ y
      split y (inl here) = of_each (λ y. x ≢ y) xs y h.0 here
      split y (inr there) = λ same. apart y (inl same) there

  distinct_row : (role : Name) (vs : List Verdict) → AreDistinct (map (λ v. v.pair) vs) → AreDistinct (map (beside role) vs)
  distinct_row role [] h = tt
  distinct_row role (v ∷ vs) h = (
    for_each (λ y. beside role v ≢ y) (map (beside role) vs) (λ y there same. of_each (λ q. v.pair ≢ q) (map (λ v. v.pair) vs) y.1 h.0 (of_row role vs y there).1 (ap (λ (z : Name × Pair). z.1) same)),
    distinct_row role vs h.1,
  )

  flat_distinct : (T : Table) → AllByRecursion (IsRow V) T → AreDistinct (map (λ row. row.0.0) T) → AreDistinct (flat T)
  flat_distinct [] a h = tt
  flat_distinct (row ∷ T) a h =
      distinct_both (map (beside row.0.0) row.1) (flat T) (distinct_row row.0.0 row.1 a.0.gathered.distinct) (flat_distinct T a.1 h.1)
      (λ x here there. of_each (λ n. row.0.0 ≢ n) (map (λ row. row.0.0) T) x.0 h.0 (of_rows T x there) (of_row row.0.0 row.1 x here).0)

  -- distinct wanted pairs are no more than the wanted pairs are
  few_rows : (T : Table) → AllByRecursion (IsRow V) T → AreDistinct (map (λ row. row.0.0) T) → AreFew V → verdict_count T ≤ most_verdicts
  few_rows T a h few =
      let inside = fewer (flat T) few.0 (flat_distinct T a h) (λ x there. in_contains few.0 x (few.2 x.0 x.1 (all_wanted T x a there))) in
      let count = flat_length T in
      let most = few.1 in
      omega (arith, inside, count, most)

  -- where one more row has no room, there are more wanted pairs than a table holds
  pub too_many : (role : Name) (left : Names) (T U : Table) (row : Place × List Verdict) → IsRow V row → row.0.0 ≡ role → AreGathered V (role ∷ left) T
      → most_verdicts < verdict_count T + length row.1 → IsComplete V U
  too_many role left T U row is named a full = λ few. absurd (
      let most = few_rows (T ++ row ∷ []) (each_more (IsRow V) T row a.rows is) (roles_distinct V role left T row named a) few in
      let more = count_more T row in
      omega (arith, most, more, full)
      )
