-- The faults of the database as faults of the tables: want of memory stays what it is, and each other is `Database`.
use Rattle.sqlite.specs.declared.error.Error.{Error}
use Rattle.sqlite.specs.declared.error.Error.TheVariants.{SqliteFailure}
use Rattle.sqlite.specs.declared.error.ErrorCode.TheVariants as code
use Rattle.table_rows.specs.declared.faults.StoreFault.{StoreFault}
use Rattle.table_rows.specs.declared.faults.StoreFault.TheVariants.{Database, OutOfMemory}

abbrev pub fault_of : Error → StoreFault
fault_of (SqliteFailure code.OutOfMemory) = OutOfMemory
fault_of _ = Database
