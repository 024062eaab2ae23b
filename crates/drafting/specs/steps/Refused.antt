-- Faults of shape as denials.
use Rattle.std.specs.Prelude.{◌≡◌, Option, Some, None}
use Rattle.denials.specs.Orders.{Plain}
use Rattle.denials.specs.Views.{denial_view}
use Rattle.denials.specs.declared.denial.Denial.{Denial}
use Rattle.metadata.specs.File.{fault_number}
use Rattle.document_parts.specs.declared.documents.ShapeFault.{ShapeFault}
use Rattle.document_parts.specs.declared.documents.ShapeFault.TheVariants.{OutOfMemory}

-- the denial of a fault, which refused memory has none of
abbrev pub IsRefusal : ShapeFault → Option Denial → Type 0
IsRefusal fault None = fault ≡ OutOfMemory
IsRefusal fault (Some denial) = (denial_view denial ≡ Plain (fault_number fault)) × (fault ≡ OutOfMemory → ⊥)
