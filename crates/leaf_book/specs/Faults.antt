-- The faults of the database as faults of the book: want of memory stays what it is, and each other is `Database`.
use Rattle.std.specs.Prelude.{◌≡◌, ◌⊎◌}
use Rattle.sqlite.specs.declared.error.Error.{Error}
use Rattle.sqlite.specs.declared.error.Error.TheVariants.{SqliteFailure}
use Rattle.sqlite.specs.declared.error.ErrorCode.TheVariants as code
use Rattle.leaf_book.specs.declared.faults.BookFault.{BookFault}
use Rattle.leaf_book.specs.declared.faults.BookFault.TheVariants.{Database, OutOfMemory}

abbrev pub fault_of : Error → BookFault
fault_of (SqliteFailure code.OutOfMemory) = OutOfMemory
fault_of _ = Database

-- a fault of the database or of memory
abbrev pub IsOutside : BookFault → Type 0
IsOutside f = (f ≡ Database) ⊎ (f ≡ OutOfMemory)
