-- What an INSERT of values and a DELETE do to a table that nothing refers to.
use Rattle.std.proofs.Common.{◌≡◌, ◌⊎◌, inl, inr, ℕ, ◌/◌, List, [], ◌++◌, length, slice_get, Option, Some, None, Ok, Err, Result, sym, ap, subst, subst₂, ◌∙◌, false}
use Rattle.sqlite.specs.Order.{Row}
use Rattle.sqlite.specs.Term.{Term}
use Rattle.sqlite.specs.Table.{Table}
use Rattle.sqlite.specs.Schema.{Schema}
use Rattle.sqlite_schema.specs.declared.schema.Keys.TheVariants.{Enforced}
use Rattle.sqlite_schema.specs.declared.schema.Column.{Column}
use Rattle.sqlite_schema.specs.declared.program.Program.{Program}
use Rattle.sqlite.specs.Source.TheVariants.{Values}
use Rattle.sqlite.specs.Command.TheVariants.{Insert, Delete}
use Rattle.sqlite_rules.specs.Edit.{edit_of, taken_by, Applies}
use Rattle.sqlite_rules.specs.Action.{works}
use Rattle.sqlite_rules.specs.Calls.{ids_of}
use Rattle.sqlite_rules.specs.declared.error.Rowids.TheVariants.{Chosen, Given}
use Rattle.sqlite.specs.Does.{Tally, Does}
use Rattle.sqlite.specs.Rows.{Written}
use Rattle.sqlite.specs.Effect.{Database, Answers, value_rows}
use Rattle.sqlite.specs.State.{State, mode_of, Writes}
use Rattle.sqlite.proofs.Callers.{one_step}
use Rattle.sqlite.specs.declared.run.Mode.{Mode}
use Rattle.sql_tables.specs.Schema.{table}

-- a part that gave a value did not stop on the way
pub went : {B E R : Type 0} {b : B} {Stops : E → Type 0} → ((stop : E) × Stops stop × (Ok b ≡ Err stop)) ⊎ R → R
went (inl stopped) = absurd (let e = stopped.2 in cc)
went (inr on) = on

pub same_value : {B E : Type 0} {a b : B} → ◌≡◌ {A = Result B E} (Ok a) (Ok b) → a ≡ b
same_value e = cc

abbrev pub enforced : Mode
enforced = record { keys = Enforced; in_doubt = false; may_wait = false }

module _ (s : Schema) (at : ℕ) (name : List ℕ) (columns : List Column) (key : Option ℕ) (primary : List ℕ) (uniques : List (List ℕ)) (tree : ℕ)
    (found : slice_get s.tables at ≡ Some (table name columns key primary uniques tree))
    (unreferenced : (olds news : List Row) → works s Enforced 0 tree olds news ≡ []) where
  abbrev the_table : Table
  the_table = table name columns key primary uniques tree

  -- an INSERT of values, whether it was made or a crash made it
  pub inserts_by : (limit : Option ℕ) (before after : Database) (params : Row) (terms : List Term) (width : ℕ) (t : List ℕ) (tally : Tally) → before.schema ≡ s
      → Does limit enforced params before t None (Insert at (Values terms width)) (Ok (tally, after))
      → Applies s Enforced before.trees (edit_of before.trees the_table [] Chosen 0 (value_rows (params ++ []) width (length terms / width) terms)) after.trees
      × (after.schema ≡ s)
  inserts_by limit before after params terms width t tally has does =
      let db = before.trees in
      let done = went (rw found at (subst (λ s. Does limit enforced params (record before { schema = s }) t None (Insert at (Values terms width)) (Ok (tally, after))) has does)) in
      let now = ap (λ (p : Tally × Database). p.1) (same_value (went (went done.2).2).2) in
      let given = went done.1 in
      let written = went (went given.2).2 in
      let counted = went written.2 in
      let trees : done.0.trees ≡ written.0 = ap (λ (it : Written). it.trees) (same_value counted.2) ∙ same_value counted.1 in
      let edit = edit_of db the_table [] Chosen 0 given.0 in
      let step = one_step s Enforced db written.0 edit (unreferenced (taken_by db edit) edit.news) written.1 in
      let same : written.0 ≡ after.trees = sym trees ∙ sym (ap (λ (d : Database). d.trees) now) in
      (subst₂ (λ rows next. Applies s Enforced db (edit_of db the_table [] Chosen 0 rows) next) given.1.1 same step, ap (λ (d : Database). d.schema) now)

  pub inserts : (old new : State) (params : Row) (terms : List Term) (width count : ℕ) (t : List ℕ) → old.now.schema ≡ s
      → Writes old new None (Insert at (Values terms width)) t params count
      → Applies s Enforced old.now.trees (edit_of old.now.trees the_table [] Chosen 0 (value_rows (params ++ []) width (length terms / width) terms)) new.now.trees
      × (new.now.schema ≡ s)
  inserts old new params terms width count t has w = inserts_by old.step_limit old.now new.now params terms width t w.tally has w.changed

  pub deletes : (old new : State) (params : Row) (q : Program) (count : ℕ) (t : List ℕ) → old.now.schema ≡ s
      → Writes old new None (Delete at q) t params count
      → (rows : List Row) × Answers (record { schema = s; trees = old.now.trees }) q params rows
      × Applies s Enforced old.now.trees (edit_of old.now.trees the_table (ids_of rows) Given 0 []) new.now.trees × (new.now.schema ≡ s)
  deletes old new params q count t has w =
      let db = old.now.trees in
      let done = went (rw found at (subst (λ s. Does old.step_limit (mode_of old) params (record old.now { schema = s }) t None (Delete at q) (Ok (w.tally, new.now))) has w.changed)) in
      let now = ap (λ (p : Tally × Database). p.1) (same_value (went (went done.2).2).2) in
      let given = went done.1 in
      let written = went given.2 in
      let trees : done.0.trees ≡ written.0 = ap (λ (it : Written). it.trees) (same_value written.2) in
      let edit = edit_of db the_table (ids_of given.0) Given 0 [] in
      let step = one_step s Enforced db written.0 edit (unreferenced (taken_by db edit) edit.news) written.1 in
      let same : written.0 ≡ new.now.trees = sym trees ∙ sym (ap (λ (d : Database). d.trees) now) in
      (given.0, given.1, subst (λ next. Applies s Enforced db (edit_of db the_table (ids_of given.0) Given 0 []) next) same step, ap (λ (d : Database). d.schema) now)
