-- What the making of the tables leaves.
use Rattle.std.proofs.Common.{◌≡◌, ◌<◌, ◌+◌, ◌++◌, ◌==◌, ◌&&◌, ◌||◌, inl, inr, ℕ, zero, suc, pos, arith, Bool, true, false, not, bytes_eq, is_some, eq-eqb, length, List, [], ◌∷◌, slice_get, Option, None, Some, codes, Ok, IsTrue, refl, sym, ap, subst, ◌∙◌}
use Rattle.std.specs.List.{AllByRecursion, list_any, position_from}
use Rattle.std.proofs.lemmas.Bool.{cases_Bool}
use Rattle.std.proofs.lemmas.Bool.Decides.{eqb_tells}
use Rattle.sqlite_tied.specs.Compute.{everything}
use Rattle.sqlite.specs.Does.{lacks_sequence}
use Rattle.sqlite.specs.Effect.{IsDatabase}
use Rattle.sqlite.specs.Listing.{understood}
use Rattle.sqlite.specs.Schema.{Schema}
use Rattle.sqlite.specs.State.{State, ExecutesInside}
use Rattle.sqlite.specs.Table.{Table}
use Rattle.sqlite.specs.Term.{col}
use Rattle.sqlite.specs.declared.types.Value.TheVariants.{Null, Int}
use Rattle.sqlite_catalog.specs.Change.{created, next_tree}
use Rattle.sqlite_rules.proofs.ListLemmas.{all_has, has_right, test_push}
use Rattle.sqlite_schema.specs.Names.{same_name, table_named}
use Rattle.sqlite_trees.specs.Tree.{Trees}
use Rattle.sql_tables.specs.Described.{AllMake, AllLook, IsFurther, at_place, table_of, tables_from, tree_from}
use Rattle.sql_tables.specs.Inside as of_list
use Rattle.sql_tables.specs.Inside.{cells_at, shown_of}
use Rattle.sql_tables.specs.Making.{IsMade, Makes, MakesBy}
use Rattle.sql_tables.specs.Rows.{AreRows}
use Rattle.sql_tables.specs.Schema.{counted, is_there}
use Rattle.sql_tables.proofs.Beginnings.{as_counted}
use Rattle.sql_tables.proofs.Editing.{adds}
use Rattle.sql_tables.proofs.MakingLemmas.{all_more, all_then, makes, makes_sound}
use Rattle.sql_tables.proofs.References.{all_front, tree_below}
use Rattle.sql_tables.proofs.Shapes.{at_each}
use Rattle.table_rows.specs.Rows.{root2_cells}
use Rattle.table_rows.specs.Schema.{HasFive, HasSecond, HasSix, IsFree, are_alone, blob_table, current_table, five, held, is_apart, lacks_counters, root_table, root2_table, shelf_table, six, the_schema, version_table}
use Rattle.table_rows.specs.Tables.{AreBare}
use Rattle.table_rows.specs.Schema.{HasSome}
use Rattle.repository_tables.specs.steps.Migrating.{HoldsCells, IsEarly, bare_cells}
use Rattle.repository_tables.specs.steps.Writing.{Cells, IsInside, listed, no_cells}
use Rattle.table_rows.proofs.Beginnings.{alone_six, root2_absent, rows_second}
use Rattle.repository_tables.proofs.Beside.{insert_stays}
use Rattle.repository_tables.proofs.CellLemmas.{cells_bare, five_of_cells, rows_of_cells}
use Rattle.table_rows.proofs.Resolved.{create_is, make_root2}
use Rattle.repository_tables.proofs.SecondTexts.{insert_second, insert_second_is, second_news, second_values}
use Rattle.repository_tables.proofs.Statements.{sound_after}

-- what the text of each means
pub all_make : AllMake six
unfolding understood everything
all_make zero few = ((refl, refl, refl, table_of root_table 0, refl, refl, refl), refl)
all_make (suc zero) few = ((refl, refl, refl, table_of current_table 0, refl, refl, refl), refl)
all_make (suc (suc zero)) few = ((refl, refl, refl, table_of shelf_table 0, refl, refl, refl), refl)
all_make (suc (suc (suc zero))) few = ((refl, refl, refl, table_of blob_table 0, refl, refl, refl), refl)
all_make (suc (suc (suc (suc zero)))) few = ((refl, refl, refl, table_of version_table 0, refl, refl, refl), refl)
all_make (suc (suc (suc (suc (suc zero))))) few = ((refl, refl, refl, table_of root2_table 0, refl, refl, refl), refl)
all_make (suc (suc (suc (suc (suc (suc n)))))) few = absurd (omega (arith, few))

pub all_look : AllLook six
unfolding understood everything
all_look zero few = ((col 1 0 ∷ [], codes "version" ∷ [], refl, refl, refl), refl)
all_look (suc zero) few = ((col 1 2 ∷ [], codes "version" ∷ [], refl, refl, refl), refl)
all_look (suc (suc zero)) few = ((col 1 2 ∷ [], codes "version" ∷ [], refl, refl, refl), refl)
all_look (suc (suc (suc zero))) few = ((col 1 1 ∷ [], codes "digest" ∷ [], refl, refl, refl), refl)
all_look (suc (suc (suc (suc zero)))) few = ((col 1 0 ∷ [], codes "version" ∷ [], refl, refl, refl), refl)
all_look (suc (suc (suc (suc (suc zero))))) few = ((col 1 0 ∷ [], codes "version" ∷ [], refl, refl, refl), refl)
all_look (suc (suc (suc (suc (suc (suc n)))))) few = absurd (omega (arith, few))

-- ---- the row of `schema`

pub begins : (old new : State) (count : ℕ) → IsTrue old.is_open → IsTrue old.in_transaction → HasSix old.now.schema → AreBare (held old.now.schema old.now.trees) → ExecutesInside 0 insert_second [] old new (Ok count) → IsInside new no_cells
begins old new count is_open within schema bare h =
    let holds = cells_bare (held old.now.schema old.now.trees) bare in
    let tables : of_list.IsInside five old (listed bare_cells) = record { is_open = is_open; inside = within; schema = schema.0; holds = five_of_cells old.now.schema old.now.trees bare_cells schema.0 holds } in
    let beside = insert_stays 4 (omega arith) insert_second second_values 2 insert_second_is old new [] count [] h (schema, holds.root2) in
    record {
      tables = adds five 4 (omega arith) insert_second second_values 2 insert_second_is old new [] (Int (pos 2) ∷ Null ∷ []) (pos 2) count (listed bare_cells) tables (omega arith) (second_news old.now.trees) refl h;
      six = beside.0;
      root2 = beside.1;
      sound = sound_after insert_second _ insert_second_is old new _ count schema.0 (λ text w. w.sound) h;
    }

-- tables that were just made are there, and empty as what they were made of
pub made_six : (rows : Trees) (s : State) → IsMade rows the_schema s → HasSix s.now.schema
made_six rows s is = subst HasSix (sym is.schema_is) alone_six

held_alone : (trees : Trees) → AreBare trees → AreBare (held the_schema trees)
unfolding same_name
held_alone trees bare = bare

pub made_bare : (rows : Trees) (s : State) → IsMade rows the_schema s → AreBare rows → AreBare (held s.now.schema s.now.trees)
made_bare rows s is bare =
    subst (λ (x : Schema). AreBare (held x s.now.trees)) (sym is.schema_is)
    (held_alone s.now.trees (all_then (λ (t : Table). s.now.trees t.tree ≡ rows t.tree) (λ (t : Table). rows t.tree ≡ []) (λ (t : Table). s.now.trees t.tree ≡ []) the_schema.tables is.holds bare (λ t same none. same ∙ none)))

-- ---- `root2` is made after all that is there

abbrev with_root2 : Schema → Schema
with_root2 s = created s (table_of root2_table 0)

-- a list with one more after it

position_push : {X : Type 0} (p : X → Bool) (at n : ℕ) (xs : List X) (x : X) → n ≡ at + length xs → position_from p at xs ≡ None → p x ≡ true → position_from p at (xs ++ x ∷ []) ≡ Some n
position_push p at n [] x is none hit = rw hit (ap Some (omega (arith, is)))
position_push p at n (y ∷ ys) x is none hit = elim (cases_Bool (p y)) [
  | inl here ↦ absurd (let e = rw here at none in cc)
  | inr miss ↦ rw miss (position_push p (at + 1) n ys x (omega (arith, is)) (rw miss at none) hit)
]

position_kept : {X : Type 0} (p : X → Bool) (at n : ℕ) (xs ys : List X) → position_from p at xs ≡ Some n → position_from p at (xs ++ ys) ≡ Some n
position_kept p at n [] ys e = absurd (let f = e in cc)
position_kept p at n (x ∷ xs) ys e = elim (cases_Bool (p x)) [ inl here ↦ rw here (rw here at e) | inr miss ↦ rw miss (position_kept p (at + 1) n xs ys (rw miss at e)) ]

position_got : {X : Type 0} (p : X → Bool) (at n : ℕ) (xs : List X) → position_from p at xs ≡ Some n → (place : ℕ) × (x : X) × (n ≡ at + place) × (slice_get xs place ≡ Some x)
position_got p at n [] e = absurd (let f = e in cc)
position_got p at n (x ∷ xs) e = elim (cases_Bool (p x)) [
  | inl here ↦ (0, x, (let same : at ≡ n = let f = rw here at e in cc in omega (arith, same)), refl)
  | inr miss ↦ let it = position_got p (at + 1) n xs (rw miss at e) in (suc it.0, it.1, omega (arith, it.2), it.3)
]

get_push : {X : Type 0} (xs : List X) (x : X) → slice_get (xs ++ x ∷ []) (length xs) ≡ Some x
get_push [] x = refl
get_push (y ∷ ys) x = get_push ys x

get_kept : {X : Type 0} (xs ys : List X) (n : ℕ) (x : X) → slice_get xs n ≡ Some x → slice_get (xs ++ ys) n ≡ Some x
get_kept [] ys n x e = absurd (let f = e in cc)
get_kept (y ∷ xs) ys zero x e = e
get_kept (y ∷ xs) ys (suc n) x e = get_kept xs ys n x e

any_push : {X : Type 0} (p : X → Bool) (xs : List X) (x : X) → list_any p xs ≡ false → p x ≡ false → list_any p (xs ++ x ∷ []) ≡ false
any_push p [] x none miss = rw miss refl
any_push p (y ∷ ys) x none miss = elim (cases_Bool (p y)) [
  | inl here ↦ absurd (let e = rw here at none in cc)
  | inr other ↦ rw other (any_push p ys x (rw other at none) miss)
]

-- a schema whose counters are there has them still
counters_kept : (s : Schema) → lacks_counters s ≡ false → lacks_sequence (with_root2 s) ≡ false
counters_kept s kept = elim (cases_Bool (list_any (λ (t : Table). t.is_counted) s.tables)) [
  | inl some ↦ there (table_named s (codes "sqlite_sequence")) refl (rw some at kept)
  | inr none ↦ rw (any_push (λ (t : Table). t.is_counted) s.tables (table_of root2_table (next_tree s)) none refl) refl
]
  where
    is_named : Table → Bool
    is_named t = same_name t.name (codes "sqlite_sequence")

    any : Bool
    any = list_any (λ (t : Table). t.is_counted) (with_root2 s).tables

    shut : (b : Bool) → (b && false) ≡ false
    shut true = refl
    shut false = refl

    there : (o : Option ℕ) → table_named s (codes "sqlite_sequence") ≡ o → not (is_some o) ≡ false → lacks_sequence (with_root2 s) ≡ false
    there None is lacks = absurd (let e = lacks in cc)
    there (Some n) is lacks =
        let it = position_got is_named 0 n s.tables is in
        let same : it.0 ≡ n = omega (arith, it.2) in
        let here : slice_get s.tables n ≡ Some it.1 = subst (λ k. slice_get s.tables k ≡ Some it.1) same it.3 in
        rw (position_kept is_named 0 n s.tables (table_of root2_table (next_tree s) ∷ []) is, get_kept s.tables (table_of root2_table (next_tree s) ∷ []) n it.1 here) (shut any)

free_makes : (s : Schema) → IsFree s → Makes s make_root2 (with_root2 s)
free_makes s free =
    let it = create_is s free.no_table free.no_view free.no_index in
    subst (MakesBy s make_root2 (with_root2 s)) (sym it.2) (refl, refl, refl, table_of root2_table 0, it.1, refl, counters_kept s free.counters)

not_there : (ts : List Table) (at tree : ℕ) → position_from (λ (t : Table). t.tree == tree) at ts ≡ None → is_there ts tree ≡ false
not_there [] at tree none = refl
not_there (t ∷ ts) at tree none = elim (cases_Bool (t.tree == tree)) [
  | inl here ↦ absurd (let e = rw here at none in cc)
  | inr miss ↦ rw miss (not_there ts (at + 1) tree (rw miss at none))
]

free_rows : (s : Schema) (trees : Trees) → IsFree s → counted s trees (next_tree s) ≡ []
free_rows s trees free = rw (not_there s.tables 0 (next_tree s) free.fresh) refl

alone_before : (ts : List Table) (at tree : ℕ) → position_from (λ (t : Table). t.tree == tree) at ts ≡ None → are_alone ts tree ≡ true
alone_before [] at tree none = refl
alone_before (t ∷ ts) at tree none = elim (cases_Bool (t.tree == tree)) [
  | inl here ↦ absurd (let e = rw here at none in cc)
  | inr miss ↦ rw miss (alone_before ts (at + 1) tree (rw miss at none))
]

second_behind : (s : Schema) → IsFree s → HasSecond (with_root2 s) (length s.tables) (next_tree s)
unfolding same_name
second_behind s free =
    let T = table_of root2_table (next_tree s) in
    record {
      named = position_push (λ (t : Table). same_name t.name (codes "root2")) 0 (length s.tables) s.tables T (omega arith) free.no_table refl;
      found = get_push s.tables T;
      first = position_push (λ (t : Table). t.tree == next_tree s) 0 (length s.tables) s.tables T (omega arith) free.fresh (eq-eqb (next_tree s) (next_tree s) refl);
      alone = test_push (λ (t : Table). not (t.tree == next_tree s) || bytes_eq t.name (codes "root2")) s.tables T (alone_before s.tables 0 (next_tree s) free.fresh) (rw (eq-eqb (next_tree s) (next_tree s) refl) refl);
      apart = test_push (λ (t : Table). is_apart t.references) s.tables T free.apart refl;
      behind = free.behind;
      low = free.low;
    }

six_made : (s : Schema) → IsFree s → HasSix (with_root2 s)
six_made s free =
    let further = free.five.0 in
    let T = table_of root2_table (next_tree s) in (
      (
        record { tables = further.tables ++ T ∷ []; indexes = further.indexes ++ []; views = further.views },
        ap (λ (x : Schema). record x { tables = x.tables ++ T ∷ []; indexes = x.indexes ++ [] }) free.five.1,
        all_more (IsFurther five) further.tables T free.five.2 (record { behind = free.behind; apart = tt }),
      ),
      length s.tables,
      next_tree s,
      second_behind s free,
    )

held_low : (s : Schema) (trees : Trees) (tree : ℕ) → tree < 8 → held s trees tree ≡ counted s trees tree
held_low s trees tree low = elim (eqb_tells tree 8) [ inl same ↦ absurd (omega (arith, low, same.1)) | inr other ↦ rw other.0 refl ]

only_free : (s : Schema) → HasSome 5 s → IsFree s
only_free s (inl free) = free.1
only_free s (inr all) = absurd (omega (arith, all.0))

pub second_made : (old new : State) (c : Cells) (count : ℕ) → IsEarly 5 old c → ExecutesInside 0 make_root2 [] old new (Ok count) → IsInside new c
second_made old new c count early h =
    let s = old.now.schema in
    let T = table_of root2_table (next_tree s) in
    let free = only_free s early.some in
    let rows = counted s old.now.trees in
    let P = λ (t : Table). new.now.trees t.tree ≡ rows t.tree in
    let was : IsMade rows s old = record { is_open = early.is_open; inside = early.inside; schema_is = refl; holds = as_counted s old.now.trees } in
    let it = makes s (with_root2 s) make_root2 rows old new count (free_makes s free) (free_rows s old.now.trees free) was h in
    let olds : AllByRecursion P s.tables = all_front P s.tables (T ∷ []) it.holds in
    let fives : AllByRecursion P (tables_from 0 five) = all_front P (tables_from 0 five) free.five.0.tables (subst (λ (x : Schema). AllByRecursion P x.tables) free.five.1 olds) in
    let last : new.now.trees (next_tree s) ≡ [] = all_has P (s.tables ++ T ∷ []) T it.holds (has_right s.tables (T ∷ []) T (inl refl)) ∙ free_rows s old.now.trees free in
    let now : HasSecond new.now.schema (length s.tables) (next_tree s) = subst (λ (x : Schema). HasSecond x (length s.tables) (next_tree s)) (sym it.schema_is) (second_behind s free) in
    record {
      tables = record {
        is_open = it.is_open;
        inside = it.inside;
        schema = subst HasFive (sym it.schema_is) (six_made s free).0;
        holds = λ n few.
            let same = at_each (λ k. new.now.trees k ≡ rows k) 0 five fives n few in
            subst (λ r. AreRows (shown_of (at_place five n)) r (cells_at (listed c) n)) (held_low s old.now.trees (tree_from 0 five n) (tree_below 0 five n few) ∙ sym same) (rows_of_cells (held s old.now.trees) c early.holds n few);
      };
      six = subst HasSix (sym it.schema_is) (six_made s free);
      root2 = subst (λ r. AreRows root2_cells r c.root2) (root2_absent s old.now.trees free ∙ sym last ∙ sym (rows_second new.now.schema new.now.trees (length s.tables) (next_tree s) now)) early.holds.root2;
      sound = makes_sound s (with_root2 s) make_root2 rows old new count (free_makes s free) was h;
    }

-- all six are there
pub there_already : (count : ℕ) (s : State) (c : Cells) → (count ≡ 5 → ⊥) → IsEarly count s c → IsInside s c
there_already count s c other early = record {
  tables = record { is_open = early.is_open; inside = early.inside; schema = (all early.some).0; holds = five_of_cells s.now.schema s.now.trees c (all early.some).0 early.holds };
  six = all early.some;
  root2 = early.holds.root2;
  sound = early.sound;
}
  where
    all : HasSome count s.now.schema → HasSix s.now.schema
    all (inl some) = absurd (other some.0)
    all (inr six) = six.1

pub early : (count : ℕ) (s : State) (c : Cells) → IsTrue s.is_open → IsTrue s.in_transaction → IsDatabase s.now → HasSome count s.now.schema → HoldsCells (held s.now.schema s.now.trees) c → IsEarly count s c
early count s c is_open within sound some holds = record { is_open = is_open; inside = within; sound = sound; some = some; holds = holds }
