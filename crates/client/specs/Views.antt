-- What the code's answers and faults stand for.
use Rattle.std.specs.Prelude.{ℕ, Result, Ok, Err}
use Rattle.std.proofs.Common.{Vec, Global}
use Rattle.metadata.specs.File.{Bytes}
use Rattle.denials.specs.Orders as orders
use Rattle.denials.specs.Views.{denial_view}
use Rattle.fetch.specs.Source.{items_of}
use Rattle.fetch.specs.declared.FetchFault.{FetchFault}
use Rattle.client.specs.declared.fault.ClientFault.{ClientFault}
use Rattle.client.specs.declared.fault.ClientFault.TheVariants as faults

-- why a call of a client ended
pub data Fault : Type 0 where
  Denied : orders.Denial → Fault
  Fetch : FetchFault → Fault
  Database : Fault
  OutOfMemory : Fault

abbrev pub fault_view : ClientFault → Fault
fault_view (faults.Denied denial) = Denied (denial_view denial)
fault_view (faults.Fetch fault) = Fetch fault
fault_view faults.Database = Database
fault_view faults.OutOfMemory = OutOfMemory

abbrev pub ended : {A B : Type 0} → (A → B) → Result A ClientFault → Result B Fault
ended view (Ok a) = Ok (view a)
ended view (Err fault) = Err (fault_view fault)

abbrev pub fetched : Result (Vec ℕ Global) ClientFault → Result Bytes Fault
fetched r = ended items_of r
