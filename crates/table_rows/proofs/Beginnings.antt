-- A database that has the first of the six tables, or all.
use Rattle.std.proofs.Common.{◌≡◌, ◌<◌, ◌≤◌, inl, inr, ℕ, zero, suc, List, [], ◌∷◌, Some, None, codes, refl, ap, subst, sym, ◌∙◌, arith}
use Rattle.std.proofs.lemmas.Bool.Decides.{eqb_tells}
use Rattle.sqlite.specs.Effect.{Database}
use Rattle.sqlite.specs.Order.{Row}
use Rattle.sqlite.specs.Schema.{Schema}
use Rattle.sqlite_rules.specs.Lists.{Has}
use Rattle.sqlite_schema.specs.Names.{same_name, table_named}
use Rattle.sqlite_trees.specs.Tree.{Trees}
use Rattle.repository_rows.specs.Contents.{Contents}
use Rattle.sql_tables.specs.Described as listed
use Rattle.sql_tables.specs.Described.{table_of}
use Rattle.sql_tables.specs.Rows.{AreRows}
use Rattle.sql_tables.specs.Schema.{counted}
use Rattle.sql_tables.proofs.Beginnings.{lacks}
use Rattle.sql_tables.proofs.ItemLemmas.{no_member}
use Rattle.sql_tables.proofs.Shapes.{all_count, counted_by}
use Rattle.table_rows.specs.Schema.{HasFirst, HasFive, HasSecond, HasSix, IsBeginning, IsFree, beginning, five, held, root2_rows, root2_table, six, the_schema}
use Rattle.table_rows.specs.Tables.{AreBare, StandsFor, version_row}
use Rattle.table_rows.specs.Schema.{HasSome}

-- ---- where all six are there, so are the five

pub six_five : (schema : Schema) → HasSix schema → HasFive schema
six_five schema has = has.0

pub some_five : (count : ℕ) (schema : Schema) → HasSome count schema → HasFive schema
some_five count schema (inl free) = free.1.five
some_five count schema (inr all) = all.1.0

-- the six alone
pub alone_six : HasSix the_schema
unfolding same_name
alone_six = (
  (record { tables = table_of root2_table 8 ∷ []; indexes = []; views = [] }, refl, (record { behind = omega arith; apart = tt }, tt)),
  5,
  8,
  record { named = refl; found = refl; first = refl; alone = refl; apart = refl; behind = omega arith; low = omega arith },
)

-- ---- the rows by tree, where a table that is absent counts as empty

pub root_held : (schema : Schema) (trees : Trees) → HasFive schema → held schema trees 0 ≡ trees 0
root_held schema trees has = ap (λ s. counted s trees 0) has.1

pub current_held : (schema : Schema) (trees : Trees) → HasFive schema → held schema trees 1 ≡ trees 1
current_held schema trees has = ap (λ s. counted s trees 1) has.1

pub shelf_held : (schema : Schema) (trees : Trees) → HasFive schema → held schema trees 3 ≡ trees 3
shelf_held schema trees has = ap (λ s. counted s trees 3) has.1

pub blob_held : (schema : Schema) (trees : Trees) → HasFive schema → held schema trees 5 ≡ trees 5
blob_held schema trees has = ap (λ s. counted s trees 5) has.1

pub version_held : (schema : Schema) (trees : Trees) → HasFive schema → held schema trees 7 ≡ trees 7
version_held schema trees has = ap (λ s. counted s trees 7) has.1

pub rows_second : (schema : Schema) (trees : Trees) (place tree : ℕ) → HasSecond schema place tree → root2_rows schema trees ≡ trees tree
rows_second schema trees place tree has = rw (has.named, has.found) refl

pub root2_absent : (schema : Schema) (trees : Trees) → IsFree schema → root2_rows schema trees ≡ []
root2_absent schema trees free = rw free.no_table refl

-- where not all of the five are there, and nothing else, `root2` counts as empty in any case
pub held_few : (count : ℕ) (trees : Trees) → count < 5 → held (beginning count) trees ≡ counted (beginning count) trees
unfolding same_name
held_few count trees few = λ i tree. at tree i
  where
    none : (n : ℕ) → n < 5 → root2_rows (beginning n) trees ≡ counted (beginning n) trees 8
    none zero low = refl
    none (suc zero) low = refl
    none (suc (suc zero)) low = refl
    none (suc (suc (suc zero))) low = refl
    none (suc (suc (suc (suc zero)))) low = refl
    none (suc (suc (suc (suc (suc n))))) low = absurd (omega (arith, low))

    at : (tree : ℕ) → held (beginning count) trees tree ≡ counted (beginning count) trees tree
    at tree = elim (eqb_tells tree 8) [ inl same ↦ rw (same.0, same.1) (none count few) | inr other ↦ rw other.0 refl ]

-- a table that holds no cells has no row
pub none_held : {shown : Row → Row} (stored : List Row) → AreRows shown stored [] → stored ≡ []
none_held stored are = no_member stored (λ s h. are.sound s h)

-- ---- what it stands for

-- without the table `schema` there is no row
no_version : (count : ℕ) (trees : Trees) (row : Row) → count < 5 → Has (counted (beginning count) trees 7) row → ⊥
no_version count trees row few has = subst (λ (rows : List Row). Has rows row) (lacks six count trees 4 (omega (arith, few)) (omega arith)) has

pub stands_bare : (count : ℕ) (trees : Trees) (t : Contents) → count < 5 → StandsFor (held (beginning count) trees) t → AreBare (held (beginning count) trees)
stands_bare count trees t few (inl h) = let row = h.version.complete (version_row 2) (inl refl) in absurd (no_version count trees row.0 few row.1)
stands_bare count trees t few (inr (inl h)) = let row = h.version.complete (version_row 1) (inl refl) in absurd (no_version count trees row.0 few row.1)
stands_bare count trees t few (inr (inr bare)) = bare.0

-- ---- how many of the six there are

pub are_most : (count : ℕ) (schema : Schema) → HasFirst count schema → 5 ≤ count → HasSome count schema
are_most count schema (inl few) most = absurd (omega (arith, few.0, most))
are_most count schema (inr some) most = some

pub are_some : (count : ℕ) (schema : Schema) → HasFirst count schema → count < 5 → schema ≡ beginning count
are_some count schema (inl some) few = some.1
are_some count schema (inr (inl free)) few = absurd (omega (arith, free.0, few))
are_some count schema (inr (inr all)) few = absurd (omega (arith, all.0, few))

pub begins_some : (count : ℕ) (schema : Schema) → HasSome count schema → IsBeginning schema
begins_some count schema some = (count, inr some)

pub begins_few : (count : ℕ) (schema : Schema) → count < 5 → schema ≡ beginning count → IsBeginning schema
begins_few count schema few is = (count, inl (few, is))

not_few : (count : ℕ) (schema : Schema) → HasFive schema → count < 5 → schema ≡ beginning count → ⊥
not_few count schema has low is = omega (arith, low, all_count five schema has, counted_by six count schema (omega (arith, low)) is)

-- fewer are not as many
pub not_most : (few count : ℕ) (schema : Schema) → few < 5 → schema ≡ beginning few → HasSome count schema → ⊥
not_most few count schema low is some = not_few few schema (some_five count schema some) low is

-- ---- what the code finds

-- a part of the five is the same part of the six
first_few : (count : ℕ) → count < 5 → listed.beginning five count ≡ beginning count
first_few zero few = refl
first_few (suc zero) few = refl
first_few (suc (suc zero)) few = refl
first_few (suc (suc (suc zero))) few = refl
first_few (suc (suc (suc (suc zero)))) few = refl
first_few (suc (suc (suc (suc (suc n))))) few = absurd (omega (arith, few))

pub found_few : (count : ℕ) (schema : Schema) → listed.HasFirst five count schema → count < 5 → HasFirst count schema
found_few count schema (inl some) few = inl (few, some.1 ∙ first_few count few)
found_few count schema (inr all) few = absurd (omega (arith, all.0, few))

pub found_five : (count : ℕ) (schema : Schema) → listed.HasFirst five count schema → 5 ≤ count → HasFive schema
found_five count schema (inl some) most = absurd (omega (arith, some.0, most))
found_five count schema (inr all) most = all.1

pub not_five : (schema : Schema) → (listed.IsBeginning five schema → ⊥) → IsBeginning schema → ⊥
not_five schema none (count, inl few) = none (count, inl (few.0, few.1 ∙ sym (first_few count few.0)))
not_five schema none (count, inr some) = none (5, inr (refl, some_five count schema some))

pub not_free : (schema : Schema) → HasFive schema → table_named schema (codes "root2") ≡ None → (IsFree schema → ⊥) → IsBeginning schema → ⊥
not_free schema has none other (count, inl few) = not_few count schema has few.0 few.1
not_free schema has none other (count, inr (inl free)) = other free.1
not_free schema has none other (count, inr (inr all)) = let e = sym none ∙ all.1.3.named in cc

pub not_second : (schema : Schema) (place : ℕ) → HasFive schema → table_named schema (codes "root2") ≡ Some place → ((tree : ℕ) → HasSecond schema place tree → ⊥) → IsBeginning schema → ⊥
not_second schema place has there other (count, inl few) = not_few count schema has few.0 few.1
not_second schema place has there other (count, inr (inl free)) = let e = sym free.1.no_table ∙ there in cc
not_second schema place has there other (count, inr (inr all)) =
    let same : all.1.1 ≡ place = let e = sym all.1.3.named ∙ there in cc in
    other all.1.2 (subst (λ n. HasSecond schema n all.1.2) same all.1.3)

-- what is there does not go with the rows
pub six_after : {a b : Database} → a ≡ b → HasSix b.schema → HasSix a.schema
six_after same has = subst (λ (d : Database). HasSix d.schema) (sym same) has

pub five_after : {a b : Database} → a ≡ b → HasFive b.schema → HasFive a.schema
five_after same has = subst (λ (d : Database). HasFive d.schema) (sym same) has

pub some_after : (count : ℕ) {a b : Database} → a ≡ b → HasSome count b.schema → HasSome count a.schema
some_after count same has = subst (λ (d : Database). HasSome count d.schema) (sym same) has
