-- Why there are no lines: what a fault of reading, or of comparing, becomes.
use Rattle.canonical_json.specs.declared.ReadFault.{ReadFault}
use Rattle.canonical_json.specs.declared.ReadFault.TheVariants as reads
use Rattle.value_changes.specs.declared.faults.CompareFault.{CompareFault}
use Rattle.value_changes.specs.declared.faults.CompareFault.TheVariants as compares
use Rattle.change_lines.specs.declared.lines.LinesFault.{LinesFault}
use Rattle.change_lines.specs.declared.lines.LinesFault.TheVariants.{NotCanonical, OutOfMemory}

abbrev pub of_read : ReadFault → LinesFault
of_read reads.NotCanonical = NotCanonical
of_read reads.TooDeep = NotCanonical
of_read reads.IntegerRange = NotCanonical
of_read reads.OutOfMemory = OutOfMemory

abbrev pub of_compare : CompareFault → LinesFault
of_compare compares.Unordered = NotCanonical
of_compare compares.OutOfMemory = OutOfMemory
