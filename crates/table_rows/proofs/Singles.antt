-- No digest stands twice in the table `blob`: its UNIQUE rules it out.
use Rattle.std.proofs.Common.{◌≡◌, ℕ, ℤ, List, [], ◌∷◌, Bool, true, false, ◌&&◌, refl, sym, ap, subst, subst₂, ◌∙◌, true≢false}
use Rattle.std.specs.Ordering.{is_eq, is_ne}
use Rattle.std.specs.declared.cmp.Ordering.{Ordering}
use Rattle.std.specs.declared.cmp.Ordering.TheVariants.{Less, Equal, Greater}
use Rattle.std.proofs.lemmas.Bool.{and_parts, and_from, not-true}
use Rattle.std.proofs.lemmas.Cmp.{tied_itself}
use Rattle.std.proofs.lemmas.Map.Lookups.{exact_signed}
use Rattle.sqlite_sql.specs.Ops.{binary}
use Rattle.sqlite_value.proofs.OrderLemmas.{value_cmp_total, value_cmp-Int}
use Rattle.sqlite.specs.declared.types.Value.TheVariants.{Int, Text}
use Rattle.sqlite.specs.Order.{Row, column, value_cmp}
use Rattle.sqlite.specs.Effect.{Database, IsDatabase}
use Rattle.sqlite_schema.specs.Rules.{Keeps, agree, clashes, differ, equal, passes}
use Rattle.sqlite_schema.specs.declared.schema.Constraint.TheVariants.{Unique}
use Rattle.sqlite_value.specs.Keys.{first_key, plain}
use Rattle.sqlite_value.specs.declared.keys.Key.{Key}
use Rattle.sqlite_value.specs.declared.keys.Collation.TheVariants.{Binary}
use Rattle.sqlite_trees.specs.Tree.{Trees, rowid}
use Rattle.sqlite_rules.specs.Lists.{Has}
use Rattle.sqlite_rules.proofs.ListLemmas.{all_has, some_from}
use Rattle.sql_tables.specs.Described.{followed, table_of}
use Rattle.sql_tables.specs.Loading.{AreLoaded, with_rowid}
use Rattle.sql_tables.proofs.NumberLemmas.{IsNumbered}
use Rattle.sql_tables.proofs.Statements.{true_if}
use Rattle.sqlite.specs.Schema.{Schema}
use Rattle.table_rows.specs.Schema.{HasFive, blob_table, five}
use Rattle.table_rows.specs.Rows.{blob_cells}
use Rattle.table_rows.specs.steps.Loading.{AreSingle}

same_order : (o : Ordering) → is_ne o ≡ false → o ≡ Equal
same_order Less h = absurd (cc)
same_order Equal h = refl
same_order Greater h = absurd (cc)

same_numbers : (m n : ℤ) → differ (Int m) (Int n) ≡ false → m ≡ n
unfolding binary
same_numbers m n h = exact_signed m n (sym (value_cmp-Int m n) ∙ same_order (value_cmp (Int m) (Int n)) (sym (true_if (is_ne (value_cmp (Int m) (Int n)))) ∙ h))

same_texts : (d : List ℕ) → equal Binary (Text d) (Text d) ≡ true
unfolding binary
same_texts d = true_if (is_eq (value_cmp (Text d) (Text d))) ∙ ap is_eq (tied_itself value_cmp_total (Text d))

module _ (rows : List Row) (ids : IsNumbered rows) where
  apart : (x y : Row) → Has rows x → Has rows y → clashes plain (1 ∷ []) rows y ≡ false → agree plain (1 ∷ []) x (1 ∷ []) y ≡ true → (b : Bool) → differ (rowid x) (rowid y) ≡ b → x ≡ y
  apart x y in_x in_y free same true is = absurd (true≢false (sym (some_from (λ other. agree plain (1 ∷ []) other (1 ∷ []) y && differ (rowid other) (rowid y)) rows x in_x (and_from _ _ same is)) ∙ free))
  apart x y in_x in_y free same false is =
      let n = ids.numbered x in_x in
      let m = ids.numbered y in_y in
      let one : n.0 ≡ m.0 = same_numbers n.0 m.0 (subst₂ (λ v w. differ v w ≡ false) n.1 m.1 is) in
      ids.keyed x y in_x in_y (n.1 ∙ ap Int one ∙ sym m.1)

unclashed : (further : Schema) (db : Trees) (y : Row) → passes Unique (followed five further) db (table_of blob_table 5) y ≡ true → clashes plain (1 ∷ []) (db 5) y ≡ false
unclashed further db y h = not-true _ (and_parts _ _ h).0

pub stored_single : (db : Database) → IsDatabase db → HasFive db.schema → IsNumbered (db.trees 5) → (x y : Row) (d : List ℕ) → Has (db.trees 5) x → Has (db.trees 5) y → column x 1 ≡ Text d → column y 1 ≡ Text d → x ≡ y
unfolding first_key
stored_single db is schema ids x y d in_x in_y one two =
    let keeps : Keeps Unique (followed five schema.0) db.trees = subst (λ s. Keeps Unique s db.trees) schema.1 (is.obeys.rules Unique) in
    let row = all_has (λ row. passes Unique (followed five schema.0) db.trees (table_of blob_table 5) row ≡ true) (db.trees 5) y keeps.1.1.1.0 in_y in
    let same : equal Binary (column x 1) (column y 1) ≡ true = subst₂ (λ v w. equal Binary v w ≡ true) (sym one) (sym two) (same_texts d) in
    apart (db.trees 5) ids x y in_x in_y (unclashed schema.0 db.trees y row) (and_from _ _ same refl) (differ (rowid x) (rowid y)) refl

pub read_single : (db : Database) (keys : List Key) (rows : List Row) → IsDatabase db → HasFive db.schema → IsNumbered (db.trees 5) → AreLoaded (with_rowid blob_cells) keys (db.trees 5) rows → AreSingle rows
read_single db keys rows is schema ids loaded x y d in_x in_y one two =
    let s = loaded.from x in_x in
    let t = loaded.from y in_y in
    let same = stored_single db is schema ids s.0 t.0 d s.1 t.1 (ap (λ r. column r 0) (sym s.2) ∙ one) (ap (λ r. column r 0) (sym t.2) ∙ two) in
    s.2 ∙ ap (with_rowid blob_cells) same ∙ sym t.2
