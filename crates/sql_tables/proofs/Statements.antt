-- Cells as a statement writes, tests and keeps them.
use Rattle.std.proofs.Common.{◌≡◌, ℕ, ℤ, List, [], ◌∷◌, ◌++◌, Bool, true, false, cond, ◌&&◌, not, Some, filter, refl, sym, ap, subst, ◌∙◌, bytes_eq, inl, inr}
use Rattle.sqlite_sql.specs.Ops.{unary, binary, is_true, from_truth}
use Rattle.sqlite_sql.specs.Query.{IsAnswer}
use Rattle.sqlite_sql.specs.Program.{overlay}
use Rattle.sqlite_sql.specs.declared.ops.BinaryOp.TheVariants.{Compare}
use Rattle.sqlite_sql.specs.declared.ops.CompareOp.TheVariants.{Eq}
use Rattle.sqlite_value.specs.declared.keys.Collation.TheVariants.{Binary}
use Rattle.sqlite_value.proofs.OrderLemmas.{value_cmp-Text}
use Rattle.std.proofs.lemmas.Map.Text.{is_eq-slice_cmp}
use Rattle.std.specs.Ordering.{is_eq}
use Rattle.sqlite_sql.specs.Term.{Term, col}
use Rattle.sqlite.specs.declared.types.Value.{Value}
use Rattle.sqlite.specs.declared.types.Value.TheVariants.{Null, Int, Text}
use Rattle.sqlite.specs.Order.{Row, value_cmp}
use Rattle.sqlite.specs.Kind.TheVariants.{Integer}
use Rattle.sqlite_rules.specs.Cast.{cast}
use Rattle.sqlite_rules.specs.Edit.{put_all, without_all, are_fresh}
use Rattle.sqlite_rules.specs.Calls.{ids_of}
use Rattle.sqlite_trees.specs.Tree.{Trees, rowid}
use Rattle.sql_tables.specs.Rows.{AreRows}
use Rattle.sql_tables.proofs.AnswerLemmas.{plain_query, passes, answer_from, answer_has}
use Rattle.sql_tables.proofs.RowLemmas.{Picks, rows_with, rows_without}
use Rattle.sqlite_rules.specs.Lists.{Has}
use Rattle.sqlite_rules.proofs.ListLemmas.{has_left, has_right, has_either}

pub either : (b : Bool) (x : Value) → cond b x x ≡ x
either true x = refl
either false x = refl

pub cast_null : cast Integer Null ≡ Null
unfolding unary
cast_null = either _ Null

pub cast_int : (n : ℤ) → cast Integer (Int n) ≡ Int n
unfolding unary
cast_int n = either _ (Int n)

-- one row more
pub added : {shown : Row → Row} {rows next cells news : List Row} (row : Row) (n : ℤ) → AreRows shown rows cells → rowid row ≡ Int n → news ≡ row ∷ [] → are_fresh rows news ≡ true → next ≡ put_all rows news
    → AreRows shown next (cells ++ shown row ∷ [])
added {shown} {rows} {cells = cells} row n are id news fresh is =
    subst (λ r. AreRows shown r (cells ++ shown row ∷ [])) (sym (is ∙ ap (put_all rows) news))
    (rows_with shown rows cells are row n id (subst (λ n. are_fresh rows n ≡ true) news fresh))

-- the rows that an answer picks go
pub removed : (shown : Row → Row) (db : Trees) (tree : ℕ) (terms : List Term) (params : Row) (cells : List Row) → AreRows shown (db tree) cells
    → (picked : Row → Bool) → ((r : Row) → passes terms params r ≡ picked (shown r)) → (answers : List Row)
    → IsAnswer (plain_query tree terms (col 1 0 ∷ []) []) (overlay db []) params answers
    → AreRows shown (put_all (without_all (db tree) (ids_of answers)) []) (filter (λ c. not (picked c)) cells)
removed shown db tree terms params cells are picked same answers answer =
    let picks : Picks (db tree) answers (λ r. picked (shown r)) = record {
      from = λ x h. let r = answer_from tree terms (col 1 0 ∷ []) [] db params answers answer x h in (r.0, r.1, sym (same r.0) ∙ r.2, r.3);
      each = λ r h p. answer_has tree terms (col 1 0 ∷ []) [] db params answers answer r h (same r ∙ p);
    } in
    rows_without shown (db tree) cells are answers picked picks

pub and-true : (b : Bool) → (b && true) ≡ b
and-true true = refl
and-true false = refl

pub true_if : (b : Bool) → is_true (from_truth (Some b)) ≡ b
true_if true = refl
true_if false = refl

-- SQL's test of two texts is the test of their bytes
pub text_test : (a b : List ℕ) → is_true (binary (Compare Eq Binary) (Text a) (Text b)) ≡ bytes_eq a b
unfolding binary
text_test a b = true_if (is_eq (value_cmp (Text a) (Text b))) ∙ ap is_eq (value_cmp-Text a b) ∙ is_eq-slice_cmp a b

pub none_left : {A : Type 0} (xs : List A) → filter (λ _. false) xs ≡ []
none_left [] = refl
none_left (x ∷ xs) = none_left xs

-- the cells of a table are a set
pub rows_same : {shown : Row → Row} {rows c d : List Row} → AreRows shown rows c → ((x : Row) → Has c x → Has d x) → ((x : Row) → Has d x → Has c x) → AreRows shown rows d
rows_same {shown} are there back = record {
  keyed = are.keyed;
  numbered = are.numbered;
  sound = λ x h. there (shown x) (are.sound x h);
  complete = λ c h. are.complete c (back c h);
}

pub turned : {X : Type 0} (xs : List X) (y x : X) → Has (xs ++ y ∷ []) x → Has (y ∷ xs) x
turned xs y x h = elim (has_either xs (y ∷ []) x h) [ inl was ↦ inr was | inr (inl is) ↦ inl is | inr (inr none) ↦ absurd none ]

pub turned_back : {X : Type 0} (xs : List X) (y x : X) → Has (y ∷ xs) x → Has (xs ++ y ∷ []) x
turned_back xs y x (inl is) = has_right xs (y ∷ []) x (inl is)
turned_back xs y x (inr was) = has_left xs (y ∷ []) x was
