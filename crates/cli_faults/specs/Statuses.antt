-- Exit statuses: 0 done, 1 denied, 2 a fault of the command line, 3 all else.
use Rattle.std.specs.Prelude.{◌≡◌, ◌⊎◌, ℕ, None}
use Rattle.denials.specs.declared.denial.Denial.TheVariants as denials
use Rattle.cli_faults.specs.declared.fault.Fault.{Fault}
use Rattle.cli_faults.specs.declared.fault.Fault.TheVariants.{Usage, Help, Denied, Refused, Slip, Due, NotFresh, LeavesSpent, UnknownKey, Memory, Database, Damaged, Network, File, Clock}
use Rattle.cli_tasks.specs.declared.tasks.Usage.{Usage as Usages}
use Rattle.cli_tasks.specs.declared.tasks.Usage.TheVariants as usages
use Rattle.loose_json.specs.declared.CanonFault.{CanonFault}
use Rattle.document_parts.specs.declared.documents.ShapeFault.{ShapeFault}
use Rattle.document_parts.specs.declared.documents.ShapeFault.TheVariants as shapes
use Rattle.loose_json.specs.declared.CanonFault.TheVariants as canon_faults

-- help is no fault: it is printed as asked
abbrev pub status_of : Fault → ℕ
status_of (Help text) = 0
status_of (Denied denial index) = 1
status_of (Refused number name index) = 1
status_of (Slip slip) = 1
status_of Due = 1
status_of NotFresh = 1
status_of LeavesSpent = 1
status_of UnknownKey = 1
status_of (Usage text) = 2
status_of Memory = 3
status_of Database = 3
status_of Damaged = 3
status_of Network = 3
status_of File = 3
status_of Clock = 3

-- the status that a command ends with which was not done for a fault: help that could not be printed is a fault of a file
abbrev pub EndsWith : Fault → ℕ → Type 0
EndsWith (Help text) status = (status ≡ 0) ⊎ (status ≡ 3)
EndsWith fault status = status ≡ status_of fault

-- what a fault of the command line comes to, and one of `canon`
abbrev pub fault_of_usage : Usages → Fault
fault_of_usage (usages.Text text) = Usage text
fault_of_usage (usages.Help text) = Help text
fault_of_usage usages.OutOfMemory = Memory

abbrev pub fault_of_canon : CanonFault → Fault
fault_of_canon canon_faults.NotCanonical = Denied denials.NotCanonical None
fault_of_canon canon_faults.OutOfMemory = Memory

-- what a file that is no document of its kind comes to
abbrev pub fault_of_shape : ShapeFault → Fault
fault_of_shape shapes.TooLong = Denied denials.TooLong None
fault_of_shape shapes.NotCanonical = Denied denials.NotCanonical None
fault_of_shape shapes.WrongShape = Denied denials.WrongShape None
fault_of_shape shapes.WrongType = Denied denials.WrongType None
fault_of_shape shapes.BadKeyId = Denied denials.BadKeyId None
fault_of_shape shapes.OutOfMemory = Memory
