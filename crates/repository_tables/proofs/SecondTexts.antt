-- What the texts of the migration mean, whatever stands after the five tables.
use Rattle.std.proofs.Common.{◌≡◌, List, ℕ, pos, [], ◌∷◌, codes, refl}
use Rattle.sqlite_tied.specs.Compute.{everything}
use Rattle.sqlite.specs.Listing.{understood}
use Rattle.sqlite.specs.Order.{value_cmp}
use Rattle.sqlite.specs.Term.{Term, lit, col}
use Rattle.sqlite.specs.Source.TheVariants.{Values}
use Rattle.sqlite.specs.Command.TheVariants.{Insert, Delete}
use Rattle.sqlite.specs.declared.types.Value.TheVariants.{Int, Null}
use Rattle.sqlite_rules.specs.Edit.{edit_of}
use Rattle.sqlite_rules.specs.declared.error.Rowids.TheVariants.{Chosen}
use Rattle.sqlite_sql.specs.Ops.{unary}
use Rattle.sqlite_trees.specs.Tree.{Trees}
use Rattle.sql_tables.specs.Described.{table_of}
use Rattle.sql_tables.proofs.AnswerLemmas.{plain_query}
use Rattle.sql_tables.proofs.Editing.{Means}
use Rattle.table_rows.specs.Schema.{five, version_table}

abbrev pub delete_root : List ℕ
delete_root = codes "DELETE FROM root"

pub delete_root_is : Means five delete_root (Delete 0 (record { lets = []; body = plain_query 0 [] (col 1 0 ∷ []) [] }))
unfolding understood everything
delete_root_is further = (refl, (refl, refl))

abbrev pub delete_version : List ℕ
delete_version = codes "DELETE FROM schema"

pub delete_version_is : Means five delete_version (Delete 4 (record { lets = []; body = plain_query 7 [] (col 1 0 ∷ []) [] }))
unfolding understood everything
delete_version_is further = (refl, (refl, refl))

abbrev pub second_values : List Term
second_values = lit (Int (pos 2)) ∷ lit Null ∷ []

abbrev pub insert_second : List ℕ
insert_second = codes "INSERT INTO schema (version) VALUES (2)"

pub insert_second_is : Means five insert_second (Insert 4 (Values second_values 2))
unfolding understood everything
insert_second_is further = (refl, (refl, refl))

pub second_news : (db : Trees) → (edit_of db (table_of version_table 7) [] Chosen 0 ((Int (pos 2) ∷ Null ∷ []) ∷ [])).news ≡ (Int (pos 2) ∷ Null ∷ []) ∷ []
unfolding unary value_cmp lib.Ieee.is_nan lib.Ieee.lt
second_news db = refl
