-- The table `root2` where it is absent: it is read as one without a row.
use Rattle.std.proofs.Common.{◌≡◌, ◌≢◌, inl, inr, ℕ, List, [], ◌∷◌, map, ◌++◌, Vec, Global, Some, refl, sym, subst, arith}
use Rattle.std.specs.List.Sorted.{IsStrictlySortedBy}
use Rattle.std.specs.Ordering.{nat_cmp}
use Rattle.std.proofs.lemmas.List.Sorted.{IsPermutation-refl}
use Rattle.sqlite.specs.Order.{Row}
use Rattle.sqlite.specs.Schema.{Schema}
use Rattle.sqlite_trees.specs.Tree.{Trees}
use Rattle.sql_tables.specs.Loading.{AreGathered, AreLoaded, ComeOnce, rises}
use Rattle.table_rows.specs.Rows.{root2_cells}
use Rattle.table_rows.specs.Schema.{HasSix, held}
use Rattle.table_rows.specs.steps.Loading.{FitsRoot, IsGathered, IsRootRow, root_shows}
use Rattle.table_rows.specs.Schema.{HasSome}
use Rattle.table_rows.proofs.Beginnings.{root2_absent}

pub none_come : ComeOnce 0 []
none_come = ([], IsPermutation-refl [], refl)

none_gathered : AreGathered nat_cmp IsRootRow FitsRoot [] []
unfolding IsStrictlySortedBy
none_gathered = record {
  read = record { from = λ x none. absurd none; each = λ r none. absurd none; fit = λ x none. absurd none };
  rising = tt;
  last = λ init y e. absurd (not_none init y e);
}
  where
    not_none : {A : Type 0} (init : List A) (y : A) → [] ≡ init ++ y ∷ [] → ⊥
    not_none [] y e = let f = e in cc
    not_none (x ∷ init) y e = let f = e in cc

pub absent_gathered : (v : Vec (ℕ × ℕ × Vec ℕ Global) Global) → v.items ≡ [] → IsGathered nat_cmp IsRootRow FitsRoot root_shows [] (Some v)
absent_gathered v none = subst (λ items. AreGathered nat_cmp IsRootRow FitsRoot [] (map root_shows items)) (sym none) none_gathered

none_loaded : AreLoaded root2_cells (rises ∷ []) [] []
none_loaded = record {
  from = λ x none. absurd none;
  each = λ r none. absurd none;
  sorted = λ before a b rest e. absurd (no_pair before a b rest e);
  once = IsPermutation-refl [];
}
  where
    no_pair : (before : List Row) (a b : Row) (rest : List Row) → [] ≡ before ++ a ∷ b ∷ rest → ⊥
    no_pair [] a b rest e = let f = e in cc
    no_pair (x ∷ before) a b rest e = let f = e in cc

pub absent_loaded : (count : ℕ) (schema : Schema) (trees : Trees) → count ≡ 5 → HasSome count schema → AreLoaded root2_cells (rises ∷ []) (held schema trees 8) []
absent_loaded count schema trees is (inl first) = subst (λ r. AreLoaded root2_cells (rises ∷ []) r []) (sym (root2_absent schema trees first.1)) none_loaded
absent_loaded count schema trees is (inr all) = absurd (omega (arith, is, all.0))

pub all_six : (count : ℕ) (schema : Schema) → count ≢ 5 → HasSome count schema → HasSix schema
all_six count schema other (inl first) = absurd (other first.0)
all_six count schema other (inr all) = all.1
