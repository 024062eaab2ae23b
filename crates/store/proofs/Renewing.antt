-- What an opening writes: the tables of the empty state, or schema 2 in the place of an earlier one.
use Rattle.std.proofs.Common.{◌≡◌, inl, inr, ℕ, true, Bool, List, [], ◌∷◌, map, refl, ap, arith, subst, sym}
use Rattle.std.specs.Prelude.{IsTrue}
use Rattle.std.specs.List.{AllByRecursion}
use Rattle.sqlite.specs.State as database
use Rattle.sqlite.specs.State.{HasCleanDisk, Survives}
use Rattle.sqlite.proofs.StateLemmas.{survives_then, survives_weaker}
use Rattle.sqlite_trees.specs.Tree.{Trees}
use Rattle.repository_rows.specs.Contents.{Contents, no_rows}
use Rattle.metadata.specs.File.{Bytes}
use Rattle.trust_rules.specs.State.{State, IsState, nothing}
use Rattle.repository_tables.specs.Migration.{IsEarlier}
use Rattle.repository_tables.specs.Opening.{StandsEmpty}
use Rattle.sql_tables.specs.Rows.{AreRows}
use Rattle.table_rows.specs.Rows.{root2_cells}
use Rattle.table_rows.specs.Tables.{HoldsWhole, Stands, root_row}
use Rattle.sqlite.specs.Order.{Row}
use Rattle.store.specs.Standing.{IsStateOf}
use Rattle.trust_rules.specs.Held.{Held}
use Rattle.store.specs.StateRows.{Begins, rows_of}

-- the tables that stood without a row hold the rows of the empty state
abbrev pub Prepared : database.State → Trees → Type 0
Prepared s trees = IsTrue s.is_open × StandsEmpty s × HoldsWhole trees no_rows

-- the earlier tables of a state hold its rows
abbrev pub Renewed : Held → database.State → Bool → Trees → Type 0
Renewed kept s is_earlier trees = (is_earlier ≡ true) × ((U : State) → IsStateOf kept U → IsEarlier s (rows_of U) → HoldsWhole trees (rows_of U))

module _ (valid : IsState nothing) where
  begins_empty : (s : database.State) (trees : Trees) → Prepared s trees → Begins s trees
  begins_empty s trees (there, empty, whole) = (there, (nothing, valid, (empty.0, inr (inr (empty.1, refl))), whole))

  pub prepares : (old new : database.State) → Survives old new (Prepared old) → Survives old new (Begins old)
  prepares old new one = survives_weaker old new (Prepared old) (Begins old) (λ _ trees made. begins_empty old trees made) one

  pub renews : (kept : Held) (is_earlier : Bool) (old mid new : database.State) (U : State) → IsStateOf kept U
      → (HasCleanDisk mid → IsTrue old.is_open × Stands old.now (rows_of U) × (is_earlier ≡ true → IsEarlier mid (rows_of U)))
      → Survives old mid (Prepared old) → Survives mid new (Renewed kept mid is_earlier) → Survives old new (Begins old)
  renews kept is_earlier old mid new U is found one two =
      survives_then old mid new (Prepared old) (Renewed kept mid is_earlier) (Begins old)
      (λ _ trees made. begins_empty old trees made)
      (λ clean trees made.
      let there = found (omega (arith, clean, two.clean)) in
      (there.0, (U, is.valid, there.1, made.1 U is (there.2 made.0)))) one two

-- ---- the roots of earlier tables

abbrev AreFirst : List (ℕ × (ℕ × Bytes)) → Type 0
AreFirst = AllByRecursion (λ r. r.1.0 ≡ 1)

no_roots : (rs : List (ℕ × (ℕ × Bytes))) → AreRows root2_cells [] (map root_row rs) → AreFirst rs
no_roots [] h = tt
no_roots (r ∷ rs) h = absurd ((h.complete (root_row r) (inl refl)).1)

-- they have profile 1, or there is none
pub early_first : (s : database.State) (t : Contents) → IsEarlier s t → AreFirst t.roots
early_first s t early = elim early.holds [
  | inl first ↦ first.profiles
  | inr tables ↦ no_roots t.roots (subst (λ (rows : List Row). AreRows root2_cells rows (map root_row t.roots)) early.lacks tables.root2)
]

-- so version and bytes of each say all of its row
pub with_ones : {A : Type 0} (f : A → ℕ × Bytes) (xs : List A) (rows : List (ℕ × (ℕ × Bytes))) → AreFirst rows → map f xs ≡ map (λ r. (r.0, r.1.1)) rows
    → rows ≡ map (λ x. ((f x).0, (1, (f x).1))) xs
with_ones f [] [] ones e = refl
with_ones f [] (r ∷ rows) ones e = cc
with_ones f (x ∷ xs) [] ones e = cc
with_ones f (x ∷ xs) ((n, (p, b)) ∷ rows) ones e =
    let head : f x ≡ (n, b) = cc in
    let tail : map f xs ≡ map (λ r. (r.0, r.1.1)) rows = cc in
    let version : n ≡ (f x).0 = sym (ap (λ z. z.0) head) in
    let bytes : b ≡ (f x).1 = sym (ap (λ z. z.1) head) in
    let profile : p ≡ 1 = ones.0 in
    let others : rows ≡ map (λ x. ((f x).0, (1, (f x).1))) xs = with_ones f xs rows ones.1 tail in
    cc
