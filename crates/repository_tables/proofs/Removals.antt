-- What a DELETE by a key makes of the cells of the tables.
use Rattle.std.proofs.Common.{◌≡◌, ℕ, ℤ, pos, List, [], ◌∷◌, Bool, not, filter, map, ◌&&◌, ◌==◌, Ok, refl, ap, subst, ◌∙◌, arith, bytes_eq}
use Rattle.std.specs.Ordering.{is_eq, nat_cmp}
use Rattle.hex.specs.Hex.{encode_lower}
use Rattle.sqlite_sql.specs.Ops.{binary, is_true, unary}
use Rattle.sqlite_sql.specs.declared.ops.UnaryOp.TheVariants.{ToNumeric}
use Rattle.sqlite_sql.specs.declared.ops.BinaryOp.TheVariants.{Compare}
use Rattle.sqlite_sql.specs.declared.ops.CompareOp.TheVariants.{Eq}
use Rattle.sqlite_value.specs.declared.keys.Collation.TheVariants.{Binary}
use Rattle.sqlite_value.proofs.OrderLemmas.{value_cmp-Int}
use Rattle.sqlite.specs.declared.types.Value.{Value}
use Rattle.sqlite.specs.declared.types.Value.TheVariants.{Int, Text}
use Rattle.sqlite.specs.Order.{Row, column, value_cmp}
use Rattle.sqlite.specs.State.{State, ExecutesInside}
use Rattle.sqlite_trees.proofs.ListLemmas.{filter-map}
use Rattle.repository_rows.specs.Contents.{Contents}
use Rattle.table_rows.specs.Schema.{five}
use Rattle.table_rows.specs.Rows.{shelf_cells}
use Rattle.table_rows.specs.Tables.{blob_row, shelf_row}
use Rattle.repository_tables.specs.Changes.{is_blob_of, is_row_of, without_blob, without_row}
use Rattle.repository_tables.specs.steps.Writing.{Cells, IsInside, cells_of, listed}
use Rattle.sql_tables.specs.Writing.{has_text, without_text}
use Rattle.sql_tables.proofs.AnswerLemmas.{passes}
use Rattle.sql_tables.proofs.Editing.{drops}
use Rattle.sql_tables.proofs.ItemLemmas.{int_nat}
use Rattle.sql_tables.proofs.Statements.{and-true, text_test, true_if}
use Rattle.repository_tables.proofs.Beside.{delete_stays}
use Rattle.repository_tables.proofs.Statements.{sound_after}
use Rattle.table_rows.proofs.One.{by_text, text_is}
use Rattle.repository_tables.proofs.Texts.{by_text_and_number, delete_blob, delete_blob_is, delete_row, delete_row_is}

nat_test : (m n : ℕ) → is_eq (nat_cmp m n) ≡ (m == n)
nat_test m n = grind arith

-- SQL's test of two numbers
abbrev pub has_number : ℕ → Value → Bool
has_number n v = is_true (binary (Compare Eq Binary) v (Int (pos n)))

number_test : (m n : ℕ) → has_number n (Int (pos m)) ≡ (m == n)
unfolding binary
number_test m n = true_if (is_eq (value_cmp (Int (pos m)) (Int (pos n)))) ∙ ap is_eq (value_cmp-Int (pos m) (pos n) ∙ int_nat m n) ∙ nat_test m n

as_number : (n : ℤ) → unary ToNumeric (Int n) ≡ Int n
unfolding unary
as_number n = refl

abbrev pub has_both : List ℕ → ℕ → Row → Bool
has_both text n c = has_text text c && has_number n (column c 1)

both_are : (text : List ℕ) (n : ℕ) (r : Row) → passes by_text_and_number (Text text ∷ Int (pos n) ∷ []) r ≡ has_both text n (shelf_cells r)
both_are text n r = ap (λ b. has_text text (shelf_cells r) && b) (and-true _ ∙ ap (λ v. is_true (binary (Compare Eq Binary) (column r 2) v)) (as_number (pos n)))

pub drops_row : (old new : State) (role : List ℕ) (version : ℕ) (count : ℕ) (c : Cells) → IsInside old c → ExecutesInside 0 delete_row (Text role ∷ Int (pos version) ∷ []) old new (Ok count)
    → IsInside new (record c { shelf = filter (λ x. not (has_both role version x)) c.shelf })
drops_row old new role version count c is h = record {
  tables = drops five 2 (omega arith) delete_row by_text_and_number delete_row_is old new (Text role ∷ Int (pos version) ∷ []) (has_both role version) count (listed c) is.tables (omega arith) (both_are role version) h;
  six = (delete_stays 2 (omega arith) delete_row by_text_and_number delete_row_is old new _ count c.root2 h (is.six, is.root2)).0;
  root2 = (delete_stays 2 (omega arith) delete_row by_text_and_number delete_row_is old new _ count c.root2 h (is.six, is.root2)).1;
  sound = sound_after delete_row _ delete_row_is old new _ count is.tables.schema (λ text w. w.sound) h;
}

pub drops_blob : (old new : State) (digits : List ℕ) (count : ℕ) (c : Cells) → IsInside old c → ExecutesInside 0 delete_blob (Text digits ∷ []) old new (Ok count) → IsInside new (record c { blob = without_text digits c.blob })
drops_blob old new digits count c is h = record {
  tables = drops five 3 (omega arith) delete_blob by_text delete_blob_is old new (Text digits ∷ []) (has_text digits) count (listed c) is.tables (omega arith) (text_is digits) h;
  six = (delete_stays 3 (omega arith) delete_blob by_text delete_blob_is old new _ count c.root2 h (is.six, is.root2)).0;
  root2 = (delete_stays 3 (omega arith) delete_blob by_text delete_blob_is old new _ count c.root2 h (is.six, is.root2)).1;
  sound = sound_after delete_blob _ delete_blob_is old new _ count is.tables.schema (λ text w. w.sound) h;
}

-- ---- the rows that are left

left : {X : Type 0} (row_of : X → Row) (picked : Row → Bool) (gone : X → Bool) → ((x : X) → picked (row_of x) ≡ gone x) → (xs : List X) → filter (λ c. not (picked c)) (map row_of xs) ≡ map row_of (filter (λ x. not (gone x)) xs)
left row_of picked gone same xs = filter-map (λ c. not (picked c)) row_of xs ∙ (λ i. map row_of (filter (λ x. not (same x i)) xs))

row_gone : (role : List ℕ) (version : ℕ) (r : (List ℕ × ℕ) × List ℕ) → has_both role version (shelf_row r) ≡ is_row_of role version r
row_gone role version r = ap (λ b. b && has_number version (Int (pos r.0.1))) (text_test r.0.0 role) ∙ ap (λ b. bytes_eq r.0.0 role && b) (number_test r.0.1 version)

pub shrunk_shelf : (s : State) (t : Contents) (role : List ℕ) (version : ℕ) → IsInside s (record (cells_of t) { shelf = filter (λ x. not (has_both role version x)) (map shelf_row t.shelf) }) → IsInside s (cells_of (without_row role version t))
shrunk_shelf s t role version is = subst (λ rows. IsInside s (record (cells_of t) { shelf = rows })) (left shelf_row (has_both role version) (is_row_of role version) (row_gone role version) t.shelf) is

pub shrunk_blob : (s : State) (t : Contents) (digest : List ℕ) → IsInside s (record (cells_of t) { blob = without_text (encode_lower digest) (map blob_row t.blobs) }) → IsInside s (cells_of (without_blob digest t))
shrunk_blob s t digest is =
    subst (λ rows. IsInside s (record (cells_of t) { blob = rows })) (left blob_row (has_text (encode_lower digest)) (is_blob_of digest) (λ r. text_test (encode_lower r.0) (encode_lower digest)) t.blobs) is
