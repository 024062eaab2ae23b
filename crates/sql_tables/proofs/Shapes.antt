-- When a schema is the beginning of a list, or has all of it.
use Rattle.std.proofs.Common.{◌≡◌, ◌<◌, ◌≤◌, ◌+◌, ◌-◌, ◌++◌, ℕ, zero, suc, List, [], ◌∷◌, map, length, take, drop, refl, sym, ap, ◌∙◌, arith, slice_index_or, Option, None, Some, MatchOption}
use Rattle.std.proofs.lemmas.List.{append-nil, length-append, length-map, length-take}
use Rattle.std.proofs.Math.Seq.{take-length}
use Rattle.sql_tables.specs.declared.described.Described.{Described}
use Rattle.sql_tables.specs.declared.described.Key.TheVariants.{Rowid}
use Rattle.std.specs.List.{AllByRecursion}
use Rattle.sqlite_trees.specs.Tree.{Trees}
use Rattle.sql_tables.specs.Described.{at_place, described_view, tree_from, Description, indexes_at, indexes_from, tables_from, past_all, past_table, schema_of, beginning, followed, HasAll}
use Rattle.sqlite.specs.Table.{Table}
use Rattle.sqlite.specs.Schema.{Schema}

pub tables_count : (tree : ℕ) (ds : List Description) → length (tables_from tree ds) ≡ length ds
tables_count tree [] = refl
tables_count tree (d ∷ ds) = ap suc (tables_count (past_table d tree) ds)

-- as many tables as were taken
pub taken_few : {X : Type 0} (n : ℕ) (xs : List X) → length (take n xs) ≤ length xs
taken_few n xs = omega (arith, length-take n xs)

pub taken_again : {X : Type 0} (n : ℕ) (xs : List X) → take (length (take n xs)) xs ≡ take n xs
taken_again zero xs = refl
taken_again (suc n) [] = refl
taken_again (suc n) (x ∷ xs) = ap (λ ys. x ∷ ys) (taken_again n xs)

pub mapped_take : {X Y : Type 0} (f : X → Y) (n : ℕ) (xs : List X) → map f (take n xs) ≡ take n (map f xs)
mapped_take f zero xs = refl
mapped_take f (suc n) [] = refl
mapped_take f (suc n) (x ∷ xs) = ap (λ ys. f x ∷ ys) (mapped_take f n xs)

-- the tables say how many of them there are
pub beginning_count : (ds : List Description) (n : ℕ) (schema : Schema) → schema ≡ beginning ds n → length schema.tables ≡ length (take n ds)
beginning_count ds n schema is = ap (λ (s : Schema). length s.tables) is ∙ tables_count 0 (take n ds)

-- where not all are there, the tables say how many
pub counted_by : (ds : List Description) (n : ℕ) (schema : Schema) → n < length ds → schema ≡ beginning ds n → length schema.tables ≡ n
counted_by ds n schema few is = omega (arith, few, beginning_count ds n schema is, length-take n ds)

-- all are at least as many
pub all_count : (ds : List Description) (schema : Schema) → HasAll ds schema → length ds ≤ length schema.tables
all_count ds schema has = omega (arith, ap (λ (s : Schema). length s.tables) has.1, length-append (tables_from 0 ds) has.0.tables, tables_count 0 ds)

-- nothing stands behind them
abbrev pub none_behind : Schema
none_behind = record { tables = []; indexes = []; views = [] }

pub followed_by_none : (ds : List Description) → followed ds none_behind ≡ schema_of ds
followed_by_none ds = rw (append-nil (tables_from 0 ds), append-nil (indexes_from 0 ds)) refl

pub has_all_alone : (ds : List Description) → HasAll ds (schema_of ds)
has_all_alone ds = (none_behind, sym (followed_by_none ds), tt)

-- all tables are a beginning
pub whole_beginning : (ds : List Description) (n : ℕ) → n ≡ length ds → beginning ds n ≡ schema_of ds
whole_beginning ds n all = ap (beginning ds) all ∙ ap schema_of (take-length ds)

-- what is said of each of a list, of its first and of the rest
pub all_split : {X : Type 0} (P : X → Type 0) (xs : List X) (d : X) → 1 ≤ length xs → AllByRecursion P xs ≡ (P (slice_index_or xs 0 d) × AllByRecursion P (take (length xs - 1) (drop 1 xs)))
all_split P [] d some = absurd (omega (arith, some))
all_split P (x ∷ xs) d some =
    let less : length (x ∷ xs) - 1 ≡ length xs = omega arith in
    ap (λ rest. P x × AllByRecursion P rest) (sym (ap (λ n. take n xs) less ∙ take-length xs))

pub matched : {A : Type 0} {P P' : Type 0} {Q Q' : A → Type 0} (r : Option A) → MatchOption r P Q → (P → P') → ((a : A) → Q a → Q' a) → MatchOption r P' Q'
matched None p none some = none p
matched (Some a) q none some = some a q

-- ---- trees

pub past_up : (tree : ℕ) (ds : List Description) → tree ≤ past_all tree ds
past_up tree [] = omega arith
past_up tree (d ∷ ds) = omega (arith, past_up (past_table d tree) ds)

-- the first tables have no more trees than all
pub past_taken : (tree : ℕ) (n : ℕ) (ds : List Description) → past_all tree (take n ds) ≤ past_all tree ds
past_taken tree zero ds = past_up tree ds
past_taken tree (suc n) [] = omega arith
past_taken tree (suc n) (d ∷ ds) = past_taken (past_table d tree) n ds

-- where the first of the code's list has its trees
pub first_fits : (tree : ℕ) (ds : List Described) (d : Described) → 1 ≤ length ds → past_table (described_view (slice_index_or ds 0 d)) tree ≤ past_all tree (map described_view ds)
first_fits tree [] d some = absurd (omega (arith, some))
first_fits tree (x ∷ ds) d some = past_up (past_table (described_view x) tree) (map described_view ds)

-- as many UNIQUE in the code's list
pub first_count : (ds : List Described) (d : Described) → length (described_view (slice_index_or ds 0 d)).uniques ≡ length (slice_index_or ds 0 d).uniques.now
first_count ds d = length-map (slice_index_or ds 0 d).uniques.now (λ u. (u.0.now, u.1.now))

-- the indexes of the first table, and then those of the others
pub indexes_split : (tree : ℕ) (ds : List Described) (d : Described) → 1 ≤ length ds
    → indexes_from tree (map described_view ds) ≡ indexes_at tree (described_view (slice_index_or ds 0 d)).uniques (tree + 1) ++ indexes_from (past_table (described_view (slice_index_or ds 0 d)) tree) (map described_view (take (length ds - 1) (drop 1 ds)))
indexes_split tree [] d some = absurd (omega (arith, some))
indexes_split tree (x ∷ ds) d some =
    let less : length (x ∷ ds) - 1 ≡ length ds = omega arith in
    ap (λ rest. indexes_at tree (described_view x).uniques (tree + 1) ++ indexes_from (past_table (described_view x) tree) (map described_view rest)) (sym (ap (λ n. take n ds) less ∙ take-length ds))

-- a place of the code's list
pub at_view : (ds : List Described) (n : ℕ) (d : Described) → n < length ds → at_place (map described_view ds) n ≡ described_view (slice_index_or ds n d)
at_view [] n d below = absurd (omega (arith, below))
at_view (x ∷ ds) zero d below = refl
at_view (x ∷ ds) (suc n) d below = at_view ds n d (omega (arith, below))

abbrev pub blank : Described
blank = record {
  name = record { ref_ptr = (0, 0); now = [] };
  columns = record { ref_ptr = (0, 0); now = [] };
  key = Rowid;
  uniques = record { ref_ptr = (0, 0); now = [] };
  make = record { ref_ptr = (0, 0); now = [] };
  look = record { ref_ptr = (0, 0); now = [] };
}

-- ---- rows by tree

pub empty_by_place : (trees : Trees) (tree : ℕ) (ds : List Description) → ((n : ℕ) → n < length ds → trees (tree_from tree ds n) ≡ []) → AllByRecursion (λ (t : Table). trees t.tree ≡ []) (tables_from tree ds)
empty_by_place trees tree [] each = tt
empty_by_place trees tree (d ∷ ds) each =
    (each zero (omega arith), empty_by_place trees (past_table d tree) ds (λ n below. each (suc n) (omega (arith, below))))

-- what is said of the tree of each table
pub at_each : (P : ℕ → Type 0) (tree : ℕ) (ds : List Description) → AllByRecursion (λ (t : Table). P t.tree) (tables_from tree ds) → (n : ℕ) → n < length ds → P (tree_from tree ds n)
at_each P tree [] all n few = absurd (omega (arith, few))
at_each P tree (d ∷ ds) all zero few = all.0
at_each P tree (d ∷ ds) all (suc n) few = at_each P (past_table d tree) ds all.1 n (omega (arith, few))
