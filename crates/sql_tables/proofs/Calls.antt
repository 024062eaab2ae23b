-- What a look at a table answers, and what one call after another leaves.
use Rattle.std.proofs.Common.{◌≡◌, ◌≢◌, ◌⊎◌, IfOk, inl, inr, ℕ, List, [], None, Some, Option, Ok, Err, Result, IsTrue, refl, sym, ap, subst, ◌∙◌, OnOk}
use Rattle.std.specs.List.{AllByRecursion}
use Rattle.sqlite_trees.specs.Tree.{Trees}
use Rattle.sqlite_rules.specs.Lists.{Has}
use Rattle.sqlite_resolve.specs.declared.compiled.Compiled.{Compiled}
use Rattle.sqlite_resolve.specs.declared.error.CompileError.{CompileError}
use Rattle.sqlite_schema.specs.declared.command.Returning.{Returning}
use Rattle.sqlite.specs.Clock.{timed}
use Rattle.sqlite.specs.Command.TheVariants.{Select}
use Rattle.sqlite.specs.Effect.{Database}
use Rattle.sqlite.specs.Listing.{understood}
use Rattle.sqlite.specs.Order.{Row}
use Rattle.sqlite.specs.State.{State, Shown, ShowsRows, IsUnchanged, IsRolledBack, KeepsCommit, FailsToQuery, FailsToShow, IsNotRun}
use Rattle.sqlite.specs.Schema.{Schema}
use Rattle.sqlite.specs.Table.{Table}
use Rattle.sqlite.specs.Term.{Term}
use Rattle.sqlite.proofs.Callers.{IsPlain, command_of}
use Rattle.sql_tables.specs.Making.{Queries, QueriesBy, IsMade, every_row}
use Rattle.sql_tables.proofs.AnswerLemmas.{cells_of}
use Rattle.sql_tables.proofs.Queries.{Reads, loads, loads_same}
use Rattle.sqlite_value.specs.declared.keys.Key.{Key}
use Rattle.sql_tables.proofs.ItemLemmas.{no_member}
use Rattle.sqlite.specs.declared.error.Error.{Error}

record Parts (tree : ℕ) (r : Result Compiled CompileError) : Type 0 where
  pub terms : List Term
  pub names : List (List ℕ)
  pub reads : command_of r ≡ Select (record { lets = []; body = every_row tree terms }) names
  pub plain : IsPlain r

parts : (tree : ℕ) (r : Result Compiled CompileError) → QueriesBy tree r → Parts tree r
parts tree (Ok c) a = record { terms = a.0; names = a.1; reads = a.2; plain = (a.3, a.4) }
parts tree (Err e) a = absurd a

module _ (schema : Schema) (sql : List ℕ) (tree : ℕ) (asks : Queries schema sql tree) (old new : State) (rows : List Row) (has : old.now.schema ≡ schema) (shown : Shown sql [] old new rows) where
  pub asked_none : rows ≡ [] → old.now.trees tree ≡ []
  asked_none none =
      let it = parts tree (understood schema sql) asks.0 in
      let l = loads schema sql tree it.terms [] it.names (cells_of it.terms []) [] it.reads it.plain asks.1 (λ r. refl) (λ r s. refl) old new rows has shown in
      no_member (old.now.trees tree) (λ s h. subst (λ (xs : List Row). Has xs (cells_of it.terms [] s)) none (l.each s h))

  pub asked_some : rows ≢ [] → old.now.trees tree ≢ []
  asked_some some none =
      let it = parts tree (understood schema sql) asks.0 in
      let l = loads schema sql tree it.terms [] it.names (cells_of it.terms []) [] it.reads it.plain asks.1 (λ r. refl) (λ r s. refl) old new rows has shown in
      some (no_member rows (λ x h. let s = l.from x h in subst (λ (xs : List Row). Has xs s.0) none s.1))

  pub asked_same : IsUnchanged old new
  asked_same =
      let it = parts tree (understood schema sql) asks.0 in
      loads_same schema sql tree it.terms [] it.names (cells_of it.terms []) [] it.reads it.plain asks.1 (λ r. refl) (λ r s. refl) old new rows has shown

pub shown_was_open : (sql : List ℕ) (params : Row) (old new : State) (rows : List Row) → Shown sql params old new rows → IsTrue old.is_open
unfolding Shown
shown_was_open sql params old new rows h = go h.0.returning h.2
  where
    go : (r : Option Returning) → ShowsRows old new sql h.0 (timed params h.0.formats h.1.now) rows r → IsTrue old.is_open
    go None it = it.3.0.was_open
    go (Some what) it = it.1.shown.was_open

pub made_same : (rows : Trees) (schema : Schema) (old new : State) → IsUnchanged old new → IsMade rows schema old → IsMade rows schema new
made_same rows schema old new same is = record {
  is_open = same.0.is_open;
  inside = same.0.mode ∙ is.inside;
  schema_is = ap (λ (d : Database). d.schema) same.0.now_is ∙ is.schema_is;
  holds = subst (λ (d : Database). AllByRecursion (λ (t : Table). d.trees t.tree ≡ rows t.tree) schema.tables) (sym same.0.now_is) is.holds;
}

pub IfOk_then : {A E : Type 0} {P Q : A → Type 0} (r : Result A E) → IfOk r P → ((a : A) → P a → Q a) → IfOk r Q
IfOk_then (Ok a) p f = f a p
IfOk_then (Err e) p f = tt

pub OnOk_then : {A E P Q : Type 0} (r : Result A E) → OnOk r P → (P → Q) → OnOk r Q
OnOk_then (Ok a) p f = f p
OnOk_then (Err e) p f = tt

pub keeps_then : (a b c : State) → KeepsCommit a b → KeepsCommit b c → KeepsCommit a c
keeps_then a b c one two = record { was_open = λ stays. one.was_open (two.was_open stays); committed = λ stays. two.committed stays ∙ one.committed (two.was_open stays) }

pub unchanged_keeps : (old new : State) → IsUnchanged old new → KeepsCommit old new
unchanged_keeps old new same = record { was_open = λ _. same.0.was_open; committed = λ _. same.0.committed_is }

-- ---- a look at whether the connection is open

pub shown_open : (sql : List ℕ) (params : Row) (old new : State) (rows : List Row) → Shown sql params old new rows → IsTrue old.is_open × IsTrue new.is_open
unfolding Shown
shown_open sql params old new rows shown = go shown.0.returning shown.2
  where
    go : (r : Option Returning) → ShowsRows old new sql shown.0 (timed params shown.0.formats shown.1.now) rows r → IsTrue old.is_open × IsTrue new.is_open
    go None it = (it.3.0.was_open, it.3.0.is_open)
    go (Some what) it = (it.1.shown.was_open, it.1.shown.is_open)

pub failed_open : (sql : List ℕ) (params : Row) (old new : State) (e : Error) → IsTrue new.is_open → FailsToQuery sql params old new e → IsTrue old.is_open
unfolding FailsToQuery IsNotRun
failed_open sql params old new e stays (inl (inl none)) = none.1.0.was_open
failed_open sql params old new e stays (inl (inr fails)) = fails.3.was_open stays
failed_open sql params old new e stays (inr shows) = go shows.0.returning shows.2
  where
    go : (r : Option Returning) → FailsToShow old new sql shows.0 (timed params shows.0.formats shows.1.now) e r → IsTrue old.is_open
    go None it = it.3.0.was_open
    go (Some what) (inl misplaced) = misplaced.1.0.was_open
    go (Some what) (inr fails) = fails.3.was_open stays

-- a query that fails has changed nothing, or rolled back
pub failed_quietly : {schema : Schema} {sql : List ℕ} {tree : ℕ} {shown : Row → Row} {keys : List Key} → Reads schema sql tree shown keys
    → (old new : State) (e : Error) → old.now.schema ≡ schema → FailsToQuery sql [] old new e → IsUnchanged old new ⊎ IsRolledBack old new
unfolding FailsToQuery IsNotRun
failed_quietly reads old new e has (inl (inl none)) = inl none.1
failed_quietly reads old new e has (inl (inr fails)) = inr fails.3
failed_quietly {sql} reads old new e has (inr shows) =
    let known = sym shows.1.is ∙ ap (λ s. understood s sql) has in
    let none : shows.0.returning ≡ None = (subst IsPlain (sym known) reads.plain).0 in
    inl (subst (FailsToShow old new sql shows.0 (timed [] shows.0.formats shows.1.now) e) none shows.2).3

-- Nothing has changed, whether the connection is open or not.
pub record Same (old new : State) : Type 0 where
  pub open_is : new.is_open ≡ old.is_open
  pub now_is : new.now ≡ old.now
  pub committed_is : new.committed ≡ old.committed
  pub mode : new.in_transaction ≡ old.in_transaction
  pub changes : new.changes ≡ old.changes
  pub last_rowid : new.last_rowid ≡ old.last_rowid
  pub marks : new.marks ≡ old.marks

pub same_then : (a b c : State) → Same a b → IsUnchanged b c → Same a c
same_then a b c one two = record {
  open_is = two.0.is_open ∙ sym two.0.was_open ∙ one.open_is;
  now_is = two.0.now_is ∙ one.now_is;
  committed_is = two.0.committed_is ∙ one.committed_is;
  mode = two.0.mode ∙ one.mode;
  changes = two.1.changes ∙ one.changes;
  last_rowid = two.1.last_rowid ∙ one.last_rowid;
  marks = two.2 ∙ one.marks;
}

pub same_unchanged : (old new : State) → IsTrue old.is_open → Same old new → IsUnchanged old new
same_unchanged old new is_open same = (
  record { was_open = is_open; is_open = same.open_is ∙ is_open; now_is = same.now_is; committed_is = same.committed_is; mode = same.mode },
  record { changes = same.changes; last_rowid = same.last_rowid },
  same.marks,
)
