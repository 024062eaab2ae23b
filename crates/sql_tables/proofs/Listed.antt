-- The trees of a database tell its tables.
use Rattle.std.proofs.Common.{◌≡◌, ◌+◌, inl, inr, pos, List, [], ◌∷◌, filter, length, refl, sym, ap, subst, ◌∙◌, arith}
use Rattle.std.specs.List.{AllZip}
use Rattle.sqlite_value.specs.declared.value.Value.TheVariants.{Int, Text}
use Rattle.sqlite_value.specs.Order.{Row}
use Rattle.sqlite.specs.Table.{Table}
use Rattle.sqlite.specs.Effect.{Database, IsDatabase}
use Rattle.sqlite_trees.specs.Tree.{Trees}
use Rattle.sqlite_trees.specs.Objects.{catalog_tree}
use Rattle.sqlite_catalog.specs.Listing.{IsTableRow, is_table_row}
use Rattle.sql_tables.specs.Described.{Description, HasAll, IsBeginning}
use Rattle.sql_tables.proofs.Shapes.{all_count, counted_by}

one_table : (row : Row) (s t : Table) → IsTableRow row s → IsTableRow row t → s ≡ t
one_table row s t a b =
    let at : Int (pos (s.tree + 1)) ≡ Int (pos (t.tree + 1)) = sym a.described.id ∙ b.described.id in
    let places : s.tree + 1 ≡ t.tree + 1 = cc at in
    let tree : s.tree ≡ t.tree = omega (arith, places) in
    let texts : Text a.sql ≡ Text b.sql = sym a.sql_is ∙ b.sql_is in
    let sql : a.sql ≡ b.sql = cc texts in
    let made : a.defined.0 ≡ b.defined.0 = cc (a.defined.1, b.defined.1, sql) in
    a.defined.2 ∙ rw (made, tree) refl ∙ sym b.defined.2

one_list : (rows : List Row) (ss ts : List Table) → AllZip IsTableRow rows ss → AllZip IsTableRow rows ts → ss ≡ ts
one_list [] [] [] one two = refl
one_list [] [] (t ∷ ts) one two = absurd two
one_list [] (s ∷ ss) ts one two = absurd one
one_list (r ∷ rows) [] ts one two = absurd one
one_list (r ∷ rows) (s ∷ ss) [] one two = absurd two
one_list (r ∷ rows) (s ∷ ss) (t ∷ ts) one two = cc (one_table r s t one.0 two.0, one_list rows ss ts one.1 two.1)

pub same_tables : (d e : Database) → IsDatabase d → IsDatabase e → d.trees ≡ e.trees → d.schema.tables ≡ e.schema.tables
same_tables d e one two same =
    one_list (filter is_table_row (e.trees catalog_tree)) d.schema.tables e.schema.tables
    (subst (λ (trees : Trees). AllZip IsTableRow (filter is_table_row (trees catalog_tree)) d.schema.tables) same one.lists.listed.tables) two.lists.listed.tables

pub still_all : (ds : List Description) (d e : Database) → IsDatabase d → IsDatabase e → d.trees ≡ e.trees → HasAll ds d.schema → IsBeginning ds e.schema → HasAll ds e.schema
still_all ds d e one two same all begins = elim begins.1 [
  | inl few ↦ absurd (omega (arith, few.0, counted_by ds begins.0 e.schema few.0 few.1, all_count ds d.schema all, ap (λ (ts : List Table). length ts) (same_tables d e one two same)))
  | inr whole ↦ whole.1
]
