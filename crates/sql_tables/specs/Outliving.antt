-- What shuts a connection, and what does not.
use Rattle.std.specs.Prelude.{◌⊎◌, ◌≤◌, IsTrue}
use Rattle.sqlite.specs.State.{State, HasCleanDisk}
use Rattle.sqlite_disk.specs.Disk.{MoreFaults}

-- A connection that was open is, unless a call of the disk answered a fault: it may be used on. Nothing else shuts it.
abbrev pub StaysOpen : State → State → Type 0
StaysOpen old new = HasCleanDisk new → IsTrue old.is_open → IsTrue new.is_open ⊎ MoreFaults old.faults new.faults

-- the same of a call among others, which forgets no fault
pub record Outlives (old new : State) : Type 0 where
  pub counts : old.faults ≤ new.faults
  pub stays : StaysOpen old new
