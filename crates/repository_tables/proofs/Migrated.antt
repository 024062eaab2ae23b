-- What the migration makes of the cells of the tables.
use Rattle.std.proofs.Common.{◌≡◌, ◌⊎◌, ◌<◌, ◌+◌, length, take, slice_index_or, inl, inr, ℕ, pos, List, [], ◌∷◌, ◌++◌, true, Ok, IsTrue, map, refl, sym, ap, subst, ◌∙◌, arith}
use Rattle.std.proofs.lemmas.List.{append_assoc, append-nil, map-append, take_more}
use Rattle.sqlite_sql.specs.Ops.{unary}
use Rattle.sqlite.specs.declared.types.Value.TheVariants.{Null, Int, Blob}
use Rattle.sqlite.specs.Order.{Row, value_cmp}
use Rattle.sqlite_rules.specs.Edit.{edit_of}
use Rattle.sqlite_rules.specs.declared.error.Rowids.TheVariants.{Chosen}
use Rattle.sqlite_rules.specs.Lists.{Has}
use Rattle.sqlite_trees.specs.Tree.{Trees}
use Rattle.sqlite.specs.Effect.{Database, IsDatabase}
use Rattle.sqlite.specs.Schema.{Schema}
use Rattle.sqlite.specs.State.{State, ExecutesInside, IsRolledBack, KeepsCommit}
use Rattle.repository_rows.specs.Contents.{Contents}
use Rattle.sql_tables.specs.Described.{table_of}
use Rattle.sql_tables.specs.Inside as of_list
use Rattle.sql_tables.specs.Rows.{AreRows}
use Rattle.sql_tables.proofs.Editing.{adds, drops}
use Rattle.sql_tables.proofs.ItemLemmas.{no_member}
use Rattle.sql_tables.proofs.RowLemmas.{has_map}
use Rattle.sql_tables.proofs.Statements.{cast_int, none_left}
use Rattle.table_rows.specs.Rows.{root2_cells}
use Rattle.table_rows.specs.Schema.{HasFirst, HasSix, IsFree, five, held, root2_table}
use Rattle.table_rows.specs.Tables.{HoldsFirst, HoldsTables, root_row, version_row}
use Rattle.repository_tables.specs.Migration.{IsEarlier}
use Rattle.repository_tables.specs.steps.Writing.{Cells, IsInside, cells_of, listed}
use Rattle.table_rows.specs.Schema.{HasSome}
use Rattle.repository_tables.specs.steps.Migrating.{IsEarly, brought, first_cells}
use Rattle.table_rows.proofs.Beginnings.{not_most}
use Rattle.repository_tables.proofs.Beside.{adds_second as in_root2, delete_stays, insert_stays}
use Rattle.repository_tables.proofs.CellLemmas.{cells_first, cells_second}
use Rattle.repository_tables.proofs.Statements.{sound_after}
use Rattle.table_rows.proofs.Resolved.{first_values, insert_first, insert_first_is}
use Rattle.repository_tables.proofs.SecondTexts.{second_values, delete_root, delete_root_is, delete_version, delete_version_is, insert_second, insert_second_is, second_news}

-- ---- the statements

pub empties_root : (old new : State) (count : ℕ) (c : Cells) → IsInside old c → ExecutesInside 0 delete_root [] old new (Ok count) → IsInside new (record c { root = [] })
empties_root old new count c is h =
    let emptied = drops five 0 (omega arith) delete_root [] delete_root_is old new [] (λ _. true) count (listed c) is.tables (omega arith) (λ _. refl) h in
    record {
      tables = subst (λ rows. of_list.IsInside five new (listed (record c { root = rows }))) (none_left c.root) emptied;
      six = (delete_stays 0 (omega arith) delete_root [] delete_root_is old new _ count c.root2 h (is.six, is.root2)).0;
      root2 = (delete_stays 0 (omega arith) delete_root [] delete_root_is old new _ count c.root2 h (is.six, is.root2)).1;
      sound = sound_after delete_root _ delete_root_is old new _ count is.tables.schema (λ text w. w.sound) h;
    }

pub empties_version : (old new : State) (count : ℕ) (c : Cells) → IsInside old c → ExecutesInside 0 delete_version [] old new (Ok count) → IsInside new (record c { version = [] })
empties_version old new count c is h =
    let emptied = drops five 4 (omega arith) delete_version [] delete_version_is old new [] (λ _. true) count (listed c) is.tables (omega arith) (λ _. refl) h in
    record {
      tables = subst (λ rows. of_list.IsInside five new (listed (record c { version = rows }))) (none_left c.version) emptied;
      six = (delete_stays 4 (omega arith) delete_version [] delete_version_is old new _ count c.root2 h (is.six, is.root2)).0;
      root2 = (delete_stays 4 (omega arith) delete_version [] delete_version_is old new _ count c.root2 h (is.six, is.root2)).1;
      sound = sound_after delete_version _ delete_version_is old new _ count is.tables.schema (λ text w. w.sound) h;
    }

first_news : (db : Trees) (tree version : ℕ) (bytes : List ℕ)
    → (edit_of db (table_of root2_table tree) [] Chosen 0 ((Int (pos version) ∷ Null ∷ Int (pos 1) ∷ Blob bytes ∷ []) ∷ [])).news ≡ (Int (pos version) ∷ Null ∷ Int (pos 1) ∷ Blob bytes ∷ []) ∷ []
unfolding value_cmp unary lib.Ieee.is_nan lib.Ieee.lt
first_news db tree version bytes = rw (cast_int (pos version)) refl

pub adds_first : (old new : State) (version : ℕ) (bytes : List ℕ) (count : ℕ) (c : Cells) → IsInside old c
    → ExecutesInside 0 insert_first (Int (pos version) ∷ Blob bytes ∷ []) old new (Ok count) → IsInside new (record c { root2 = c.root2 ++ root_row (version, (1, bytes)) ∷ [] })
adds_first old new version bytes count c is h =
    in_root2 insert_first first_values 4 insert_first_is old new (Int (pos version) ∷ Blob bytes ∷ []) (Int (pos version) ∷ Null ∷ Int (pos 1) ∷ Blob bytes ∷ []) (pos version) count c is
    (λ tree. first_news old.now.trees tree version bytes) refl h

pub adds_second : (old new : State) (count : ℕ) (c : Cells) → IsInside old c → ExecutesInside 0 insert_second [] old new (Ok count) → IsInside new (record c { version = c.version ++ version_row 2 ∷ [] })
adds_second old new count c is h = record {
  tables = adds five 4 (omega arith) insert_second second_values 2 insert_second_is old new [] (Int (pos 2) ∷ Null ∷ []) (pos 2) count (listed c) is.tables (omega arith) (second_news old.now.trees) refl h;
  six = (insert_stays 4 (omega arith) insert_second second_values 2 insert_second_is old new _ count c.root2 h (is.six, is.root2)).0;
  root2 = (insert_stays 4 (omega arith) insert_second second_values 2 insert_second_is old new _ count c.root2 h (is.six, is.root2)).1;
  sound = sound_after insert_second _ insert_second_is old new _ count is.tables.schema (λ text w. w.sound) h;
}

-- ---- the roots, one after the other

-- the cells with these roots after those of `root2`
abbrev pub with_roots : Cells → List (ℕ × (ℕ × List ℕ)) → Cells
with_roots c roots = record c { root2 = c.root2 ++ map root_row roots }

pub no_more : (c : Cells) → with_roots c [] ≡ c
no_more c = ap (λ (rows : List Row). record c { root2 = rows }) (append-nil c.root2)

pub one_more : (c : Cells) (roots : List (ℕ × (ℕ × List ℕ))) (r : ℕ × (ℕ × List ℕ))
    → with_roots c (roots ++ r ∷ []) ≡ record c { root2 = (c.root2 ++ map root_row roots) ++ root_row r ∷ [] }
one_more c roots r =
    ap (λ (rows : List Row). record c { root2 = c.root2 ++ rows }) (map-append root_row roots (r ∷ []))
    ∙ ap (λ (rows : List Row). record c { root2 = rows }) (sym (append_assoc c.root2 (map root_row roots) (root_row r ∷ [])))

pub more_taken : {A B : Type 0} (xs : List A) (f : A → B) (at : ℕ) (d : A) → at < length xs → map f (take (at + 1) xs) ≡ map f (take at xs) ++ f (slice_index_or xs at d) ∷ []
more_taken xs f at d below = ap (map f) (take_more xs at d below) ∙ map-append f (take at xs) (slice_index_or xs at d ∷ [])

-- ---- the beginning

-- so many of the six are there
pub some_of : (count : ℕ) (schema : Schema) → HasFirst count schema → IsFree schema ⊎ HasSix schema → HasSome count schema
some_of count schema (inr some) either = some
some_of count schema (inl few) (inl free) = absurd (not_most count 5 schema few.0 few.1 (inl (refl, free)))
some_of count schema (inl few) (inr has) = absurd (not_most count 6 schema few.0 few.1 (inr (refl, has)))

no_roots : (stored : List Row) (roots : List (ℕ × (ℕ × List ℕ))) → AreRows root2_cells stored (map root_row roots) → stored ≡ [] → roots ≡ []
no_roots stored roots are none = no_member roots (λ r h. let it = are.complete (root_row r) (has_map root_row roots r h) in subst (λ xs. Has xs it.0) none it.1)

-- what an earlier store holds becomes what schema 2 holds of the same roots
abbrev pub Ready : ℕ → State → Contents → List (ℕ × (ℕ × List ℕ)) → Type 0
Ready count s t roots = (c : Cells) × IsEarly count s c × (brought c roots ≡ cells_of t)

pub ready : (count : ℕ) (s : State) (t : Contents) (roots : List (ℕ × (ℕ × List ℕ))) → HasFirst count s.now.schema → IsTrue s.is_open → IsFree s.now.schema ⊎ HasSix s.now.schema
    → HoldsFirst (held s.now.schema s.now.trees) t ⊎ HoldsTables (held s.now.schema s.now.trees) t → held s.now.schema s.now.trees 8 ≡ [] → IsTrue s.in_transaction → IsDatabase s.now
    → t.roots ≡ roots → Ready count s t roots
ready count s t roots first there schema (inl holds) none within sound same = (
  first_cells t,
  record { is_open = there; inside = within; sound = sound; some = some_of count s.now.schema first schema; holds = cells_first _ t holds },
  ap (λ (rs : List (ℕ × (ℕ × List ℕ))). record (cells_of t) { root2 = map root_row rs }) (sym same),
)
ready count s t roots first there schema (inr holds) none within sound same = (
  cells_of t,
  record { is_open = there; inside = within; sound = sound; some = some_of count s.now.schema first schema; holds = cells_second _ t holds },
  ap (λ (rs : List (ℕ × (ℕ × List ℕ))). record (cells_of t) { root2 = map root_row t.roots ++ map root_row rs }) (sym same ∙ no_roots _ t.roots holds.root2 none)
      ∙ ap (λ (rows : List Row). record (cells_of t) { root2 = rows }) (append-nil (map root_row t.roots)),
)

-- what was there is there, where the transaction is undone
pub first_back : (old tx end : State) (t : Contents) → IsTrue end.is_open → KeepsCommit old tx → IsRolledBack tx end → IsEarlier old t → IsEarlier end t
first_back old tx end t stays kept back is =
    let both = back.undone stays in
    let now : end.now ≡ old.now = both.0 ∙ kept.committed (back.was_open stays) ∙ sym is.settled in
    record {
      is_open = stays;
      schema = subst (λ (d : Database). IsFree d.schema ⊎ HasSix d.schema) (sym now) is.schema;
      settled = both.0 ∙ sym both.1;
      holds = subst (λ (d : Database). HoldsFirst (held d.schema d.trees) t ⊎ HoldsTables (held d.schema d.trees) t) (sym now) is.holds;
      lacks = subst (λ (d : Database). held d.schema d.trees 8 ≡ []) (sym now) is.lacks;
    }
