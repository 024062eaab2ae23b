-- What the machine answers, as a reply of the store.
use Rattle.std.specs.Prelude.{◌≡◌, ℕ, None, Some, Result, Ok, Err}
use Rattle.table_rows.specs.declared.faults.StoreFault.{StoreFault}
use Rattle.table_rows.specs.declared.faults.StoreFault.TheVariants.{Database, OutOfMemory}
use Rattle.store.specs.declared.command.Reply.{Reply as Answer}
use Rattle.store.specs.declared.command.Reply.TheVariants as answers
use Rattle.metadata.specs.File.{Bytes}
use Rattle.std.proofs.Common.{Vec, Global}
use Rattle.machine.specs.DeclaredBatchRefusal.{BatchRefusal}
use Rattle.machine.specs.BatchRefusals as batches
use Rattle.machine.specs.DeclaredGetFault.{GetFault}
use Rattle.machine.specs.GetFaults as gets
use Rattle.machine.specs.LoadFaults as loads
use Rattle.machine.specs.DeclaredRefusal.{Refusal}
use Rattle.machine.specs.Refusals as refusals

-- a refusal of the machine as an answer
abbrev pub IsRefusal : Refusal → Result Answer StoreFault → Type 0
IsRefusal (refusals.Denied denial) r = r ≡ Ok (answers.Denied denial None)
IsRefusal refusals.OutOfMemory r = r ≡ Err OutOfMemory

abbrev pub IsBatchRefusal : BatchRefusal → Result Answer StoreFault → Type 0
IsBatchRefusal (batches.Denied denial index) r = r ≡ Ok (answers.Denied denial (Some index))
IsBatchRefusal batches.OutOfMemory r = r ≡ Err OutOfMemory

-- what a request for a target is refused for, as an answer: a file that should be there and is not is a fault of the database
abbrev pub IsGetFault : GetFault → Result Answer StoreFault → Type 0
IsGetFault (gets.Denied denial) r = r ≡ Ok (answers.Denied denial None)
IsGetFault (gets.Load loads.Missing) r = r ≡ Err Database
IsGetFault (gets.Load loads.Database) r = r ≡ Err Database
IsGetFault (gets.Load loads.OutOfMemory) r = r ≡ Err OutOfMemory
IsGetFault gets.OutOfMemory r = r ≡ Err OutOfMemory

-- these bytes as an answer, or want of memory
pub data IsCopied (bytes : Bytes) : Result Answer StoreFault → Type 0 where
  copied : {copy : Vec ℕ Global} → copy.items ≡ bytes → IsCopied bytes (Ok (answers.Bytes copy))
  wanting : IsCopied bytes (Err OutOfMemory)
