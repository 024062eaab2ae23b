-- What a fault of the store, or a reply of it, comes to as a fault of a command.
use Rattle.cli_faults.specs.declared.fault.Fault.{Fault}
use Rattle.cli_faults.specs.declared.fault.Fault.TheVariants.{Denied, Memory, Database, Damaged}
use Rattle.store.specs.declared.command.Reply.{Reply}
use Rattle.store.specs.declared.command.Reply.TheVariants as replies
use Rattle.table_rows.specs.declared.faults.StoreFault.{StoreFault}
use Rattle.table_rows.specs.declared.faults.StoreFault.TheVariants as store_faults

abbrev pub fault_of_store : StoreFault → Fault
fault_of_store store_faults.Damaged = Damaged
fault_of_store store_faults.Database = Database
fault_of_store store_faults.OutOfMemory = Memory

-- a denial is handed on, with its index; a reply that a command cannot have is a fault of the database
abbrev pub refused_of : Reply → Fault
refused_of (replies.Denied denial index) = Denied denial index
refused_of replies.Begun = Database
refused_of (replies.Batch accepted same) = Database
refused_of (replies.Offered same) = Database
refused_of (replies.Stored new) = Database
refused_of (replies.Pruned blobs rows) = Database
refused_of (replies.Bytes bytes) = Database
refused_of replies.Absent = Database
