-- The fault of a connection for each of its store: want of memory stays what it is, and is told for no other.
use Rattle.sqlite_trees.specs.declared.error.StoreError.{StoreError}
use Rattle.sqlite_trees.specs.declared.error.StoreError.TheVariants.{OutOfMemory, Io, Corrupt, Full, Broken, Unstorable}
use Rattle.sqlite.specs.declared.error.Error.{Error}
use Rattle.sqlite.specs.declared.error.Error.TheVariants.{SqliteFailure}
use Rattle.sqlite.specs.declared.error.ErrorCode.TheVariants as code

abbrev pub fault_of : StoreError → Error
fault_of OutOfMemory = SqliteFailure code.OutOfMemory
fault_of Io = SqliteFailure code.SystemIoFailure
fault_of Corrupt = SqliteFailure code.DatabaseCorrupt
fault_of Full = SqliteFailure code.DiskFull
fault_of Broken = SqliteFailure code.Closed
fault_of Unstorable = SqliteFailure code.TooBig
