-- A database whose tables are the first of a list.
use Rattle.std.proofs.Common.{◌≡◌, ◌≤◌, ◌<◌, ◌||◌, ◌==◌, inl, inr, ℕ, zero, suc, List, [], ◌∷◌, Bool, true, false, if◌then◌else◌, length, take, refl, sym, ap, ◌∙◌, arith}
use Rattle.std.specs.List.{AllByRecursion}
use Rattle.std.proofs.lemmas.Bool.{eq-eqb}
use Rattle.std.proofs.lemmas.Bool.Decides.{eqb_tells}
use Rattle.std.proofs.lemmas.List.{length-take-le}
use Rattle.sqlite_trees.specs.Tree.{Trees}
use Rattle.sqlite_rules.specs.Lists.{Has}
use Rattle.sqlite_rules.proofs.ListLemmas.{all_from}
use Rattle.sqlite.specs.Schema.{Schema}
use Rattle.sqlite.specs.State.{State}
use Rattle.sqlite.specs.Table.{Table}
use Rattle.sql_tables.specs.Schema.{counted, is_there}
use Rattle.sql_tables.specs.Making.{IsMade}
use Rattle.sql_tables.specs.Described.{AreEmpty, Description, LacksRest, beginning, past_table, table_of, tables_from, tree_from}
use Rattle.sql_tables.proofs.MakingLemmas.{all_then}
use Rattle.sql_tables.proofs.Shapes.{tables_count}

pub past_above : (d : Description) (tree : ℕ) → tree < past_table d tree
past_above d tree = omega arith

pub tree_above : (tree : ℕ) (ds : List Description) (n : ℕ) → tree ≤ tree_from tree ds n
tree_above tree [] n = omega arith
tree_above tree (d ∷ ds) zero = omega arith
tree_above tree (d ∷ ds) (suc n) = omega (arith, past_above d tree, tree_above (past_table d tree) ds n)

apart : (a b : ℕ) → a < b → (a == b) ≡ false
apart a b lower = elim (eqb_tells a b) [ inl is ↦ absurd (omega (arith, lower, is.1)) | inr other ↦ other.0 ]

-- the tables that are taken have none of the trees behind them
absent : (tree : ℕ) (ds : List Description) (count n : ℕ) → count ≤ n → n < length ds → is_there (tables_from tree (take count ds)) (tree_from tree ds n) ≡ false
absent tree ds zero n up few = refl
absent tree [] (suc count) n up few = refl
absent tree (d ∷ ds) (suc count) zero up few = absurd (omega (arith, up))
absent tree (d ∷ ds) (suc count) (suc n) up few =
    let there = tree_from (past_table d tree) ds n in
    let lower : (table_of d tree).tree < there = omega (arith, past_above d tree, tree_above (past_table d tree) ds n) in
    ap (λ b. b || is_there (tables_from (past_table d tree) (take count ds)) there) (apart (table_of d tree).tree there lower) ∙ absent (past_table d tree) ds count n (omega (arith, up)) (omega (arith, few))

-- what is absent is empty, and what is there is as it is
pub lacks : (ds : List Description) (count : ℕ) (trees : Trees) → LacksRest ds count (counted (beginning ds count) trees)
lacks ds count trees n up few = ap (λ b. if b then trees (tree_from 0 ds n) else []) (absent 0 ds count n up few)

there_is : (ts : List Table) (t : Table) → Has ts t → is_there ts t.tree ≡ true
there_is [] t h = absurd h
there_is (u ∷ ts) t (inl is) = ap (λ b. b || is_there ts t.tree) (eq-eqb u.tree t.tree (ap (λ (v : Table). v.tree) (sym is)))
there_is (u ∷ ts) t (inr later) = ap (λ b. (u.tree == t.tree) || b) (there_is ts t later) ∙ or_true (u.tree == t.tree)
  where
    or_true : (b : Bool) → (b || true) ≡ true
    or_true true = refl
    or_true false = refl

pub as_counted : (schema : Schema) (trees : Trees) → AllByRecursion (λ (t : Table). trees t.tree ≡ counted schema trees t.tree) schema.tables
as_counted schema trees = all_from (λ (t : Table). trees t.tree ≡ counted schema trees t.tree) schema.tables (λ t h. sym (ap (λ b. if b then trees t.tree else []) (there_is schema.tables t h)))

pub bare_made : (rows : Trees) (schema : Schema) (s : State) → IsMade rows schema s → AreEmpty schema s.now.trees → AreEmpty schema rows
bare_made rows schema s is bare = all_then (λ (t : Table). s.now.trees t.tree ≡ rows t.tree) (λ (t : Table). s.now.trees t.tree ≡ []) (λ (t : Table). rows t.tree ≡ []) schema.tables is.holds bare (λ t same none. sym same ∙ none)

pub same_count : (ds : List Description) (m n : ℕ) → m ≤ length ds → n ≤ length ds → beginning ds m ≡ beginning ds n → m ≡ n
same_count ds m n few few' same =
    sym (length-take-le m ds few) ∙ sym (tables_count 0 (take m ds)) ∙ ap (λ (s : Schema). length s.tables) same ∙ tables_count 0 (take n ds) ∙ length-take-le n ds few'
