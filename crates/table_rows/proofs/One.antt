-- What the query of one target file answers.
use Rattle.std.proofs.Common.{◌≡◌, ◌⊎◌, inl, inr, ℕ, List, [], ◌∷◌, None, true, false, codes, map, refl, sym, subst, ap, ◌∙◌}
use Rattle.hex.specs.Hex.{encode_lower}
use Rattle.sqlite.specs.Clock.{timed}
use Rattle.sqlite.specs.Listing.{understood, reads_listing}
use Rattle.sqlite.specs.Schema.{Schema}
use Rattle.sqlite_tied.specs.Compute.{everything}
use Rattle.sqlite_resolve.specs.Compile.{first}
use Rattle.sqlite.specs.declared.error.Error.{Error}
use Rattle.sqlite.proofs.Callers.{IsPlain}
use Rattle.std.proofs.lemmas.Slice.Eq.{bytes_eq-Decides}
use Rattle.sql_tables.proofs.RowLemmas.{has_map, map_has}
use Rattle.sql_tables.proofs.Statements.{and-true, text_test}
use Rattle.repository_rows.specs.Contents.{Contents}
use Rattle.table_rows.specs.Tables.{IsStore, blob_row}
use Rattle.table_rows.specs.steps.Loading.{HasBytes}
use Rattle.sqlite.specs.declared.types.Value.TheVariants.{Null, Text, Blob}
use Rattle.sqlite.specs.Order.{Row, column}
use Rattle.sqlite.specs.State.{State, Shown, ShowsRows, Survives, CommitsShowing, IsUnchanged, IsRolledBack, FailsToQuery, FailsToShow, IsNotRun}
use Rattle.sqlite.proofs.Callers.{reads_as}
use Rattle.sqlite.specs.Command.TheVariants.{Select}
use Rattle.sqlite_rules.specs.Lists.{Has}
use Rattle.sqlite.specs.Term.{Term, col, op2}
use Rattle.sqlite_sql.specs.declared.ops.BinaryOp.TheVariants.{Compare}
use Rattle.sqlite_sql.specs.declared.ops.CompareOp.TheVariants.{Eq}
use Rattle.sqlite_value.specs.declared.keys.Collation.TheVariants.{Binary}
use Rattle.sqlite_sql.specs.Query.{IsAnswer}
use Rattle.sqlite_sql.specs.Program.{overlay}
use Rattle.sql_tables.specs.Writing.{has_text}
use Rattle.sql_tables.proofs.AnswerLemmas.{passes, plain_query, answer_from, answer_has}
use Rattle.sql_tables.proofs.Editing.{Means}
use Rattle.sql_tables.specs.Asking.{IsQuiet}
use Rattle.sql_tables.proofs.Queries.{commits_nothing}
use Rattle.sql_tables.specs.Described.{followed}
use Rattle.sql_tables.specs.Rows.{AreRows}
use Rattle.table_rows.specs.Schema.{HasFive, five}
use Rattle.table_rows.specs.Rows.{blob_cells}
use Rattle.table_rows.proofs.Beginnings.{blob_held}

-- ---- the text

-- the first column of a row is the parameter
abbrev pub by_text : List Term
by_text = op2 (Compare Eq Binary) (col 1 1) (col 0 0) ∷ []

abbrev pub select_one : List ℕ
select_one = codes "SELECT bytes FROM blob WHERE digest = ?1"

pub select_one_is : Means five select_one (Select (record { lets = []; body = plain_query 5 by_text (col 1 2 ∷ []) [] }) (codes "bytes" ∷ []))
unfolding understood everything
select_one_is further = (refl, (refl, refl))

pub select_one_unlisted : (further : Schema) → reads_listing (followed five further) select_one ≡ false
unfolding understood everything
select_one_unlisted further = refl

pub select_one_quiet : IsQuiet (first select_one)
unfolding understood everything
select_one_quiet = λ _ _. refl

-- it tests the digits of the digest
pub text_is : (text : List ℕ) (r : Row) → passes by_text (Text text ∷ []) r ≡ has_text text (blob_cells r)
text_is text r = and-true _

-- ---- the rows that it answers

module _ (digits : List ℕ) (old new : State) (rows : List Row) (has : HasFive old.now.schema) (h : Shown select_one (Text digits ∷ []) old new rows) where
  answer : IsAnswer (plain_query 5 by_text (col 1 2 ∷ []) []) (overlay old.now.trees []) (Text digits ∷ []) rows
  answer = (reads_as select_one (Text digits ∷ []) old new (followed five has.0) has.1 (Select (record { lets = []; body = plain_query 5 by_text (col 1 2 ∷ []) [] }) _) (select_one_is has.0).0 (select_one_is has.0).1 (select_one_unlisted has.0) rows h).answer Null

  pub one_from : (x : Row) → Has rows x → (r : Row) × Has (old.now.trees 5) r × (has_text digits (blob_cells r) ≡ true) × (x ≡ column r 2 ∷ [])
  one_from x there = let r = answer_from 5 by_text (col 1 2 ∷ []) [] old.now.trees (Text digits ∷ []) rows answer x there in (r.0, r.1, sym (text_is digits r.0) ∙ r.2, r.3)

  pub one_has : (r : Row) → Has (old.now.trees 5) r → has_text digits (blob_cells r) ≡ true → Has rows (column r 2 ∷ [])
  one_has r there is = answer_has 5 by_text (col 1 2 ∷ []) [] old.now.trees (Text digits ∷ []) rows answer r there (text_is digits r ∙ is)

pub one_quietly : (digits : List ℕ) (old new : State) → Survives old new (CommitsShowing select_one (Text digits ∷ []) old) → Survives old new (λ _. ⊥)
one_quietly digits old new = commits_nothing select_one (Text digits ∷ []) old new select_one_quiet

-- ---- what asking leaves

pub one_same : (params : Row) (old new : State) (rows : List Row) → HasFive old.now.schema → Shown select_one params old new rows → IsUnchanged old new
unfolding Shown
one_same params old new rows has h =
    let known = sym h.1.is ∙ ap (λ s. understood s select_one) has.1 in
    let none : h.0.returning ≡ None = (subst IsPlain (sym known) (select_one_is has.0).1).0 in
    (subst (ShowsRows old new select_one h.0 (timed params h.0.formats h.1.now) rows) none h.2).3

pub one_failed : (params : Row) (old new : State) (e : Error) → HasFive old.now.schema → FailsToQuery select_one params old new e → IsUnchanged old new ⊎ IsRolledBack old new
unfolding FailsToQuery IsNotRun
one_failed params old new e has (inl (inl none)) = inl none.1
one_failed params old new e has (inl (inr fails)) = inr fails.3
one_failed params old new e has (inr shows) =
    let known = sym shows.1.is ∙ ap (λ s. understood s select_one) has.1 in
    let none : shows.0.returning ≡ None = (subst IsPlain (sym known) (select_one_is has.0).1).0 in
    inl (subst (FailsToShow old new select_one shows.0 (timed params shows.0.formats shows.1.now) e) none shows.2).3

-- ---- the rows that are answered, as rows of a store

bytes_is : (r : Row) (x : List ℕ × List ℕ) → blob_cells r ≡ blob_row x → (column r 1 ≡ Text (encode_lower x.0)) × (column r 2 ≡ Blob x.1)
bytes_is r x e = (cc, cc)

pub blobs_of : (s : State) (t : Contents) → IsStore s t → AreRows blob_cells (s.now.trees 5) (map blob_row t.blobs)
blobs_of s t is = subst (λ r. AreRows blob_cells r (map blob_row t.blobs)) (blob_held s.now.schema s.now.trees is.schema.0) is.holds.blob

-- bytes that are answered are those of a row of these digits
pub one_of : (digest : List ℕ) (old new : State) (rows : List Row) (t : Contents) → IsStore old t → Shown select_one (Text (encode_lower digest) ∷ []) old new rows
    → (bytes : List ℕ) → HasBytes rows bytes → (x : List ℕ × List ℕ) × Has t.blobs x × (encode_lower x.0 ≡ encode_lower digest) × (x.1 ≡ bytes)
one_of digest old new rows t is h bytes (row, there, cell) =
    let (r, in_tree, digits, same) = one_from (encode_lower digest) old new rows is.schema.0 h row there in
    let held = (blobs_of old t is).sound r in_tree in
    let (x, has, e) = map_has blob_row t.blobs (blob_cells r) held in
    let two = bytes_is r x e in
    let text : has_text (encode_lower digest) (blob_row x) ≡ true = subst (λ c. has_text (encode_lower digest) c ≡ true) e digits in
    let name : encode_lower x.0 ≡ encode_lower digest = (bytes_eq-Decides (encode_lower x.0) (encode_lower digest)).0 (sym (text_test (encode_lower x.0) (encode_lower digest)) ∙ text) in
    let own : Blob x.1 ≡ Blob bytes = sym two.1 ∙ (sym (ap (λ c. column c 0) same) ∙ cell) in
    (x, has, name, blob_same own)
  where
    blob_same : {a b : List ℕ} → Blob a ≡ Blob b → a ≡ b
    blob_same e = cc

-- and the bytes of each row of these digits are answered
pub one_there : (digest : List ℕ) (old new : State) (rows : List Row) (t : Contents) → IsStore old t → Shown select_one (Text (encode_lower digest) ∷ []) old new rows
    → (x : List ℕ × List ℕ) → Has t.blobs x → encode_lower x.0 ≡ encode_lower digest → HasBytes rows x.1
one_there digest old new rows t is h x has name =
    let (r, there, cells) = (blobs_of old t is).complete (blob_row x) (has_map blob_row t.blobs x has) in
    let two = bytes_is r x cells in
    let text : has_text (encode_lower digest) (blob_cells r) ≡ true = subst (λ c. has_text (encode_lower digest) c ≡ true) (sym cells)
    (text_test (encode_lower x.0) (encode_lower digest) ∙ (bytes_eq-Decides (encode_lower x.0) (encode_lower digest)).1 name) in
    (column r 2 ∷ [], one_has (encode_lower digest) old new rows is.schema.0 h r there text, two.1)
