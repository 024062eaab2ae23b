-- Why nothing was measured, as an exit status.
use Rattle.std.specs.Prelude.{ℕ}
use Rattle.measure.specs.declared.failure.Failure.{Failure}
use Rattle.measure.specs.declared.failure.Failure.TheVariants.{Usage, NotVerified, NoDocument, NotAllowed, Memory, File, Clock}

-- the exit status
abbrev pub status_of : Failure → ℕ
status_of NotVerified = 1
status_of NoDocument = 1
status_of NotAllowed = 1
status_of Usage = 2
status_of Memory = 3
status_of File = 3
status_of Clock = 3
