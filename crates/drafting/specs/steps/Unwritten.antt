-- Why a value has no bytes, as a fault of a draft.
use Rattle.std.specs.Prelude.{◌≡◌, Some}
use Rattle.canonical_json.specs.Json.{Json}
use Rattle.canonical_json.specs.Faults.{write_fault}
use Rattle.canonical_json.specs.declared.WriteFault.{WriteFault}
use Rattle.denials.specs.declared.denial.Denial.TheVariants.{NotCanonical}
use Rattle.drafting.specs.declared.faults.DraftFault.{DraftFault}
use Rattle.drafting.specs.declared.faults.DraftFault.TheVariants.{Unfit}

abbrev pub IsUnwritten : Json → DraftFault → Type 0
IsUnwritten v e = (e ≡ Unfit NotCanonical) × ((fault : WriteFault) × (write_fault v ≡ Some fault))
