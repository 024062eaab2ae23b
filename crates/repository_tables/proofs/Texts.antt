-- What the texts mean, whatever stands after the five tables.
use Rattle.std.proofs.Common.{List, ℕ, [], ◌∷◌, codes, refl}
use Rattle.sqlite_tied.specs.Compute.{everything}
use Rattle.sql_tables.proofs.Editing.{Means}
use Rattle.table_rows.specs.Schema.{five}
use Rattle.table_rows.proofs.One.{by_text}
use Rattle.sqlite.specs.Term.{Term, lit, col, op1, op2}
use Rattle.sqlite_sql.specs.declared.ops.UnaryOp.TheVariants.{ToNumeric}
use Rattle.sqlite_sql.specs.declared.ops.BinaryOp.TheVariants.{Compare}
use Rattle.sqlite_sql.specs.declared.ops.CompareOp.TheVariants.{Eq}
use Rattle.sqlite_value.specs.declared.keys.Collation.TheVariants.{Binary}
use Rattle.sqlite.specs.Source.TheVariants.{Values}
use Rattle.sqlite.specs.Command.TheVariants.{Insert, Delete}
use Rattle.sqlite.specs.declared.types.Value.TheVariants.{Null}
use Rattle.sqlite.specs.Listing.{understood}
use Rattle.sql_tables.proofs.AnswerLemmas.{plain_query}

-- ---- INSERT

abbrev pub two_values : List Term
two_values = lit Null ∷ col 0 0 ∷ col 0 1 ∷ []

abbrev pub three_values : List Term
three_values = lit Null ∷ col 0 0 ∷ col 0 1 ∷ col 0 2 ∷ []

abbrev pub insert_slot : List ℕ
insert_slot = codes "INSERT INTO current (slot, version, bytes) VALUES (?1, ?2, ?3)"

pub insert_slot_is : Means five insert_slot (Insert 1 (Values three_values 4))
unfolding understood everything
insert_slot_is further = (refl, (refl, refl))

abbrev pub insert_row : List ℕ
insert_row = codes "INSERT INTO shelf (role, version, bytes) VALUES (?1, ?2, ?3)"

pub insert_row_is : Means five insert_row (Insert 2 (Values three_values 4))
unfolding understood everything
insert_row_is further = (refl, (refl, refl))

abbrev pub insert_blob : List ℕ
insert_blob = codes "INSERT INTO blob (digest, bytes) VALUES (?1, ?2)"

pub insert_blob_is : Means five insert_blob (Insert 3 (Values two_values 3))
unfolding understood everything
insert_blob_is further = (refl, (refl, refl))

-- ---- DELETE

abbrev pub delete_slot : List ℕ
delete_slot = codes "DELETE FROM current WHERE slot = ?1"

pub delete_slot_is : Means five delete_slot (Delete 1 (record { lets = []; body = plain_query 1 by_text (col 1 0 ∷ []) [] }))
unfolding understood everything
delete_slot_is further = (refl, (refl, refl))

-- the first two columns are the parameters, the second of which is read as a number where it is a text
abbrev pub by_text_and_number : List Term
by_text_and_number = op2 (Compare Eq Binary) (col 1 1) (col 0 0) ∷ op2 (Compare Eq Binary) (col 1 2) (op1 ToNumeric (col 0 1)) ∷ []

abbrev pub delete_row : List ℕ
delete_row = codes "DELETE FROM shelf WHERE role = ?1 AND version = ?2"

pub delete_row_is : Means five delete_row (Delete 2 (record { lets = []; body = plain_query 3 by_text_and_number (col 1 0 ∷ []) [] }))
unfolding understood everything
delete_row_is further = (refl, (refl, refl))

abbrev pub delete_blob : List ℕ
delete_blob = codes "DELETE FROM blob WHERE digest = ?1"

pub delete_blob_is : Means five delete_blob (Delete 3 (record { lets = []; body = plain_query 5 by_text (col 1 0 ∷ []) [] }))
unfolding understood everything
delete_blob_is further = (refl, (refl, refl))

abbrev pub delete_current : List ℕ
delete_current = codes "DELETE FROM current"

pub delete_current_is : Means five delete_current (Delete 1 (record { lets = []; body = plain_query 1 [] (col 1 0 ∷ []) [] }))
unfolding understood everything
delete_current_is further = (refl, (refl, refl))

abbrev pub delete_shelf : List ℕ
delete_shelf = codes "DELETE FROM shelf"

pub delete_shelf_is : Means five delete_shelf (Delete 2 (record { lets = []; body = plain_query 3 [] (col 1 0 ∷ []) [] }))
unfolding understood everything
delete_shelf_is further = (refl, (refl, refl))
