-- What a fault of a source of files, and one of a client, comes to as a fault of a command.
use Rattle.std.specs.Prelude.{None}
use Rattle.cli_faults.specs.declared.fault.Fault.{Fault}
use Rattle.cli_faults.specs.declared.fault.Fault.TheVariants.{Denied, Memory, Database, Network}
use Rattle.client.specs.declared.fault.ClientFault.{ClientFault}
use Rattle.client.specs.declared.fault.ClientFault.TheVariants as client_faults
use Rattle.fetch.specs.declared.FetchFault.{FetchFault}
use Rattle.fetch.specs.declared.FetchFault.TheVariants as fetch_faults

abbrev pub fault_of_fetch : FetchFault → Fault
fault_of_fetch fetch_faults.TooLong = Network
fault_of_fetch fetch_faults.Broken = Network
fault_of_fetch fetch_faults.OutOfMemory = Memory

abbrev pub fault_of_client : ClientFault → Fault
fault_of_client (client_faults.Denied denial) = Denied denial None
fault_of_client (client_faults.Fetch fault) = fault_of_fetch fault
fault_of_client client_faults.Database = Database
fault_of_client client_faults.OutOfMemory = Memory
