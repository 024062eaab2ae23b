-- What a call does to what a store keeps.
use Rattle.std.specs.Prelude.{◌≡◌, ◌⊎◌, ℕ, Result, Err, IfOk, IsTrue, OnErr, OnOk}
use Rattle.sqlite.specs.State as database
use Rattle.sqlite.specs.State.{HasCleanDisk}
use Rattle.sqlite_trees.specs.Tree.{Trees}
use Rattle.trust_rules.specs.State.{State}
use Rattle.trust_rules.specs.Runs.{Command}
use Rattle.sql_tables.specs.Outliving.{Outlives}
use Rattle.table_rows.specs.Tables.{HoldsWhole}
use Rattle.store.specs.Applies.{HoldsStep, Replies}
use Rattle.store.specs.Standing.{StandsAt, seen}
use Rattle.trust_rules.specs.Held.{Held}
use Rattle.store.specs.StateRows.{rows_of}
use Rattle.store.specs.Views.{reply_view}
use Rattle.table_rows.specs.declared.faults.StoreFault.{StoreFault}
use Rattle.table_rows.specs.declared.faults.StoreFault.TheVariants.{Damaged}
use Rattle.store.specs.declared.command.Reply.{Reply as Answer}

-- The command is the machine's step, or a fault that leaves the state as it was. A crash leaves the rows from before the
-- command or those from after it.
pub record Does (S T : State) (old new : database.State) (command : Command) (now : ℕ) (r : Result Answer StoreFault) : Type 0 where
  pub step : IfOk r (λ reply. Replies (HasCleanDisk new) S command now T (reply_view reply))
  pub kept : OnErr r (T ≡ S)
  pub sound : r ≡ Err Damaged → ⊥
  pub clean : HasCleanDisk new → HasCleanDisk old
  pub live : HasCleanDisk new → IsTrue old.is_open → OnOk r (IsTrue new.is_open)
  pub outlives : Outlives old new
  pub crash : HasCleanDisk new → IsTrue old.is_open → (trees : Trees) → new.may_leave trees → HoldsWhole trees (rows_of S) ⊎ HoldsStep S command now trees

-- for each state at which a store stands there is one at which it then stands, and this was done
abbrev pub DoesAt : Held → Held → database.State → database.State → Command → ℕ → Result Answer StoreFault → Type 0
DoesAt kept left old new command now r = (S : State) → StandsAt (seen kept old) S → (T : State) × StandsAt (seen left new) T × Does S T old new command now r
