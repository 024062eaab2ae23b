-- What is left in the queue at a rule is what reaches it.
use Rattle.std.proofs.Common.{◌≡◌, ℕ, zero, suc, ◌<◌, ◌≤◌, List, [], ◌∷◌, length, map, get_or, Some, Ok, option_map, slice_get, true, false, nat_lt, bytes_eq, inl, inr, refl, sym, ap, subst, ◌∙◌, arith, rules}
use Rattle.std.specs.List.{AllZip}
use Rattle.std.specs.declared.cmp.Ordering.TheVariants.{Equal}
use Rattle.std.proofs.lemmas.Bool.{cases_Bool}
use Rattle.std.proofs.lemmas.Cmp.{nat_list_cmp_total, tied_itself}
use Rattle.std.proofs.lemmas.Option.{get_or_from_slice_get, slice_get_within}
use Rattle.std.proofs.lemmas.Slice.Eq.{bytes_eq-Decides}
use Rattle.metadata.specs.File.{look_up}
use Rattle.document_parts.specs.Links.{Artifacts, Link, Lists, side_of}
use Rattle.document_parts.specs.Rules.{Side, ArtifactRule}
use Rattle.document_parts.specs.Sorted.{AreInOrder, compared}
use Rattle.document_parts.proofs.Halving.{hit_name, look_up_view, miss_name, searched}
use Rattle.artifact_rules.specs.Rules.{Reaches, Takes}
use Rattle.artifact_rules.specs.steps.Queue.{IsQueue, IsTaken, Queue}
use Rattle.artifact_rules.proofs.Places.{some_once}

module _ {A B : Type 0} (R : A → B → Type 0) where
  pub row_of : (xs : List A) (ys : List B) (i : ℕ) (y : B) → AllZip R xs ys → slice_get ys i ≡ Some y → (x : A) × (slice_get xs i ≡ Some x) × R x y
  row_of [] [] i y h is = absurd (cc)
  row_of [] (b ∷ ys) i y h is = absurd h
  row_of (a ∷ xs) [] i y h is = absurd h
  row_of (a ∷ xs) (b ∷ ys) zero y h is = (a, refl, subst (λ (z : B). R a z) (some_once b y is) h.0)
  row_of (a ∷ xs) (b ∷ ys) (suc i) y h is = row_of xs ys i y h.1 is

  pub entry_of : (xs : List A) (ys : List B) (i : ℕ) (x : A) → AllZip R xs ys → slice_get xs i ≡ Some x → (y : B) × (slice_get ys i ≡ Some y) × R x y
  entry_of [] [] i x h is = absurd (cc)
  entry_of [] (b ∷ ys) i x h is = absurd h
  entry_of (a ∷ xs) [] i x h is = absurd h
  entry_of (a ∷ xs) (b ∷ ys) zero x h is = (b, refl, subst (λ (z : A). R z b) (some_once a x is) h.0)
  entry_of (a ∷ xs) (b ∷ ys) (suc i) x h is = entry_of xs ys i x h.1 is

-- ---- rows and what is listed

abbrev Row : Type 0
Row = List ℕ × List ℕ

same_rows : (rows : Artifacts) → map (λ (r : Row). (r.0, r.1)) rows ≡ rows
same_rows [] = refl
same_rows (r ∷ rows) = ap (λ (z : Artifacts). r ∷ z) (same_rows rows)

pub row_lists : (rows : Artifacts) (i : ℕ) (r : Row) → AreInOrder (map (λ e. e.0) rows) → slice_get rows i ≡ Some r → look_up rows r.0 ≡ Some r.1
row_lists rows i r s is =
    let within = slice_get_within rows i r is in
    let tied : (d : Row) → compared (get_or rows i d).0 r.0 ≡ Equal =
    λ d. ap (λ (e : Row). compared e.0 r.0) (get_or_from_slice_get rows i r d is) ∙ tied_itself nat_list_cmp_total r.0 in
    let found = searched (λ (e : Row). e.0) r.0 (λ e. bytes_eq e.0 r.0) (λ e. hit_name e.0 r.0) (λ e. miss_name e.0 r.0) rows s (Ok i) within tied in
    let seen = look_up_view (λ (e : Row). e.0) (λ (e : Row). e.1) r.0 rows in
    ap (λ (z : Artifacts). look_up z r.0) (sym (same_rows rows)) ∙ seen ∙ ap (option_map (λ (e : Row). e.1)) (found r ∙ ap (λ e. Some e) (get_or_from_slice_get rows i r r is))

pub lists_row : (rows : Artifacts) (path digest : List ℕ) → look_up rows path ≡ Some digest → (i : ℕ) × (slice_get rows i ≡ Some (path, digest))
lists_row [] path digest is = absurd (cc)
lists_row (r ∷ rows) path digest is =
    elim (cases_Bool (bytes_eq r.0 path)) [
      | inl same ↦
          let here : look_up (r ∷ rows) path ≡ Some r.1 = rw same refl in
          let name = (bytes_eq-Decides r.0 path).0 same in
          let value = some_once r.1 digest (sym here ∙ is) in
          (0, ap (λ (p : List ℕ). Some (p, r.1)) name ∙ ap (λ (d : List ℕ). Some (path, d)) value)
      | inr other ↦
          let later : look_up (r ∷ rows) path ≡ look_up rows path = rw other refl in
          let rest = lists_row rows path digest (sym later ∙ is) in
          (suc rest.0, rest.1)
    ]

-- ---- what reaches a rule

less_from : (a b : ℕ) → nat_lt a b ≡ true → a < b
less_from a b e = search rules

least_from : (a b : ℕ) → nat_lt a b ≡ false → b ≤ a
least_from a b e = search rules

pub item : {A : Type 0} (xs : List A) (n : ℕ) → n < length xs → (x : A) × (slice_get xs n ≡ Some x)
item [] n below = absurd (omega (arith, below))
item (x ∷ xs) zero below = (x, refl)
item (x ∷ xs) (suc n) below = item xs n (omega (arith, below))

module _ (side : Side) (link : Link) (links : List Link) (rules : List ArtifactRule) (queue : Queue) where
  -- the rows are the side's, in order, and the queue is theirs
  pub reaches_from : (rows : Artifacts) → rows ≡ side_of side link → AreInOrder (map (λ e. e.0) rows) → IsQueue side link links rules rows queue
      → (i j : ℕ) (q : List ℕ × ℕ) → slice_get queue i ≡ Some q → j ≤ q.1 → Reaches side link links rules j q.0
  reaches_from rows is s h i j q at left =
      let row = row_of (λ r e. (e.0 ≡ r.0) × IsTaken side link links rules r.0 e.1) rows queue i q h at in
      let listed : Lists rows q.0 = (row.0.1, ap (look_up rows) row.2.0 ∙ row_lists rows i row.0 s row.1) in (
        subst (λ (a : Artifacts). Lists a q.0) is listed,
        λ k r low rule takes. row.2.1.before k r (omega (arith, low, left)) rule (subst (λ (p : List ℕ). Takes side link links r p) row.2.0 takes),
      )

  pub reaches_to : (rows : Artifacts) → rows ≡ side_of side link → IsQueue side link links rules rows queue
      → (j : ℕ) (path : List ℕ) → j ≤ length rules → Reaches side link links rules j path
      → (i : ℕ) × (n : ℕ) × (slice_get queue i ≡ Some (path, n)) × (j ≤ n)
  reaches_to rows is h j path few reaches =
      let listed = subst (λ (a : Artifacts). Lists a path) (sym is) reaches.0 in
      let place = lists_row rows path listed.0 listed.1 in
      let entry = entry_of (λ r e. (e.0 ≡ r.0) × IsTaken side link links rules r.0 e.1) rows queue place.0 (path, listed.0) h place.1 in
      let here : slice_get queue place.0 ≡ Some (path, entry.0.1) = entry.1 ∙ ap (λ (p : List ℕ). Some (p, entry.0.1)) entry.2.0 in
      (place.0, entry.0.1, here, left entry.0.1 entry.2.1)
    where
      left : (n : ℕ) → IsTaken side link links rules path n → j ≤ n
      left n t =
          elim (cases_Bool (nat_lt n j)) [
            | inl low ↦
                let below : n < length rules = omega (arith, few, less_from n j low) in
                let rule = item rules n below in
                absurd (reaches.1 n rule.0 (less_from n j low) rule.1 (t.by rule.0 rule.1))
            | inr high ↦ least_from n j high
          ]
