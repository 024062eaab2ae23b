-- Why the verdicts end early: how that is said, and which error of the input or the output comes to what.
use Rattle.std.specs.Prelude.{ℕ, List, ◌++◌, codes, decimal}
use Rattle.std.specs.declared.io.ErrorKind.{ErrorKind}
use Rattle.std.specs.declared.io.ErrorKind.TheVariants.{OutOfMemory}
use Rattle.verdicts.specs.declared.failure.Failure.{Failure}
use Rattle.verdicts.specs.declared.failure.Failure.TheVariants.{NotUnderstood, Memory, File}

-- the exit status
abbrev pub status_of : Failure → ℕ
status_of (NotUnderstood number) = 2
status_of Memory = 3
status_of File = 3

-- what is said on standard error
abbrev pub text_of : Failure → List ℕ
text_of (NotUnderstood number) = codes "line " ++ (decimal number ++ codes ": not understood")
text_of Memory = codes "fault memory"
text_of File = codes "fault file"

-- want of memory, or else a fault of the input or the output
abbrev pub failure_of : ErrorKind → Failure
failure_of OutOfMemory = Memory
failure_of kind = File
