-- What the making of a table leaves.
use Rattle.std.proofs.Common.{◌≡◌, ℕ, List, [], ◌∷◌, ◌++◌, false, Ok, Err, Result, sym, ap, subst, ◌∙◌}
use Rattle.std.specs.List.{AllByRecursion}
use Rattle.sqlite.specs.Schema.{Schema}
use Rattle.sqlite.specs.Table.{Table}
use Rattle.sqlite.specs.Order.{Row}
use Rattle.sqlite_trees.specs.Tree.{Trees}
use Rattle.sqlite_catalog.specs.Change.{created, next_tree, KeepsRows}
use Rattle.sqlite_resolve.specs.Compile.{table_defined_by}
use Rattle.sqlite_resolve.specs.declared.compiled.Compiled.{Compiled}
use Rattle.sqlite_resolve.specs.declared.error.CompileError.{CompileError}
use Rattle.sqlite.specs.Command.TheVariants.{CreateTable}
use Rattle.sqlite.specs.Listing.{understood}
use Rattle.sqlite.specs.Does.{lacks_sequence, Tally}
use Rattle.sqlite.specs.Effect.{Database, IsDatabase}
use Rattle.sqlite.specs.State.{State, ExecutesInside}
use Rattle.sqlite.proofs.Callers.{IsPlain, command_of, statement_of, runs_as}
use Rattle.sql_tables.specs.Making.{IsMade, MakesBy, Makes}
use Rattle.sql_tables.specs.Rows.{AreRows}
use Rattle.sql_tables.proofs.Insert.{went, same_value}

abbrev pub HoldsRows : Trees → Schema → Trees → Type 0
HoldsRows rows schema trees = AllByRecursion (λ (t : Table). trees t.tree ≡ rows t.tree) schema.tables

record Parts (before : Schema) (sql : List ℕ) (after : Schema) (r : Result Compiled CompileError) : Type 0 where
  pub command : command_of r ≡ CreateTable
  pub plain : IsPlain r
  pub made : Table
  pub defined : table_defined_by (statement_of sql r) ≡ Ok made
  pub is : created before made ≡ after
  pub uncounted : lacks_sequence after ≡ false

parts : (before : Schema) (sql : List ℕ) (after : Schema) (r : Result Compiled CompileError) → MakesBy before sql after r → Parts before sql after r
parts before sql after (Ok c) m = record { command = m.0; plain = (m.1, m.2); made = m.3; defined = m.4; is = m.5; uncounted = m.6 }
parts before sql after (Err e) m = absurd m

pub all_then : {X : Type 0} (P Q R : X → Type 0) (xs : List X) → AllByRecursion P xs → AllByRecursion Q xs → ((x : X) → P x → Q x → R x) → AllByRecursion R xs
all_then P Q R [] p q f = tt
all_then P Q R (x ∷ xs) p q f = (f x p.0 q.0, all_then P Q R xs p.1 q.1 f)

pub all_more : {X : Type 0} (P : X → Type 0) (xs : List X) (x : X) → AllByRecursion P xs → P x → AllByRecursion P (xs ++ x ∷ [])
all_more P [] x all here = (here, tt)
all_more P (y ∷ xs) x all here = (all.0, all_more P xs x all.1 here)

pub makes : (before after : Schema) (sql : List ℕ) (rows : Trees) (old new : State) (count : ℕ) → Makes before sql after → rows (next_tree before) ≡ [] → IsMade rows before old
    → ExecutesInside 0 sql [] old new (Ok count) → IsMade rows after new
makes before after sql rows old new count m lacks is h =
    let it = parts before sql after (understood before sql) m in
    let w = runs_as sql [] old new before is.schema_is CreateTable it.command it.plain count h.0 in
    let all = went w.changed in
    let first = went all.1 in
    let made = first.1 in
    let both : Ok made.table ≡ Ok it.made = sym made.defined ∙ it.defined in
    let same : made.table ≡ it.made = same_value both in
    let schema : first.0.schema ≡ after = made.is ∙ ap (λ s. created s made.table) is.schema_is ∙ ap (created before) same ∙ it.is in
    let plain : lacks_sequence first.0.schema ≡ false = ap lacks_sequence schema ∙ it.uncounted in
    let now : new.now ≡ first.0 = ap (λ (p : Tally × Database). p.1) (same_value all.2) ∙ same_value (rw plain at first.2) in
    let none : first.0.trees (next_tree before) ≡ [] = subst (λ s. first.0.trees (next_tree s) ≡ []) is.schema_is made.empty in
    let kept : KeepsRows before.tables old.now.trees first.0.trees = subst (λ (s : Schema). KeepsRows s.tables old.now.trees first.0.trees) is.schema_is made.others in
    let olds : AllByRecursion (λ (t : Table). first.0.trees t.tree ≡ rows t.tree) before.tables = all_then (λ (t : Table). first.0.trees t.tree ≡ old.now.trees t.tree) (λ (t : Table). old.now.trees t.tree ≡ rows t.tree) (λ (t : Table). first.0.trees t.tree ≡ rows t.tree) before.tables kept is.holds (λ t k e. k ∙ e) in
    let holds : HoldsRows rows (created before it.made) first.0.trees = all_more (λ (t : Table). first.0.trees t.tree ≡ rows t.tree) before.tables (record it.made { tree = next_tree before }) olds (none ∙ sym lacks) in
    record {
      is_open = h.1.is_open;
      inside = h.1.mode;
      schema_is = ap (λ (d : Database). d.schema) now ∙ schema;
      holds = subst (λ (d : Database). HoldsRows rows after d.trees) (sym now) (subst (λ s. HoldsRows rows s first.0.trees) it.is holds);
    }

pub makes_sound : (before after : Schema) (sql : List ℕ) (rows : Trees) (old new : State) (count : ℕ) → Makes before sql after → IsMade rows before old → ExecutesInside 0 sql [] old new (Ok count) → IsDatabase new.now
makes_sound before after sql rows old new count m is h =
    let it = parts before sql after (understood before sql) m in
    (runs_as sql [] old new before is.schema_is CreateTable it.command it.plain count h.0).sound

pub no_rows : (shown : Row → Row) → AreRows shown [] []
no_rows shown = record { keyed = λ x y none. absurd none; numbered = λ x none. absurd none; sound = λ x none. absurd none; complete = λ c none. absurd none }
