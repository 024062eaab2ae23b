-- The numbers of the faults of a layout, and how a call answers what an order of checks says.
use Rattle.std.specs.Prelude.{◌≡◌, ◌⊎◌, ℕ, Result, Ok, Err}
use Rattle.denials.specs.Numbers as no
use Rattle.denials.specs.Orders.{Denied, Order, Plain}
use Rattle.artifact_rules.specs.declared.faults.RuleFault.{RuleFault}
use Rattle.artifact_rules.specs.declared.faults.RuleFault.TheVariants as rule_faults
use Rattle.layouts.specs.declared.faults.LayoutFault.{LayoutFault}
use Rattle.layouts.specs.declared.faults.LayoutFault.TheVariants.{LayoutThreshold, LayoutExpired, StepThreshold, LinksDisagree, Disallowed, Required, ProductMismatch, OutOfMemory}

-- no layout has the last one
abbrev pub fault_number : LayoutFault → ℕ
fault_number LayoutThreshold = no.layout_threshold
fault_number LayoutExpired = no.layout_expired
fault_number StepThreshold = no.step_threshold
fault_number LinksDisagree = no.links_disagree
fault_number Disallowed = no.disallowed
fault_number Required = no.required
fault_number ProductMismatch = no.product_mismatch
fault_number OutOfMemory = 0

-- the fault that the fault of a list of rules is told as: want of memory is told as such, and for no other
abbrev pub fault_of : RuleFault → LayoutFault
fault_of (rule_faults.Disallowed place path) = Disallowed
fault_of (rule_faults.Required place path) = Required
fault_of rule_faults.OutOfMemory = OutOfMemory

-- memory was refused, or the order denies with the fault's number
abbrev pub IsDeniedBy : {A : Type 0} → Order A → LayoutFault → Type 0
IsDeniedBy order e = (e ≡ OutOfMemory) ⊎ order (Err (Denied (Plain (fault_number e))))

-- the answer is what the order says
abbrev pub IsJudged : Order (Unit {0}) → Result (Unit {0}) LayoutFault → Type 0
IsJudged order (Ok done) = order (Ok tt)
IsJudged order (Err e) = IsDeniedBy order e
