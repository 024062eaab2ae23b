use Rattle.client.specs.Agreement as agreement
use Rattle.client.proofs.Brings.{database_brings, denied_brings, fetch_brings, memory_brings}
use Rattle.client.proofs.Composing.{becomes}
use Rattle.client.proofs.from_state.bring.Goals as goal

pub returns-in-Ok : goal.returns-in-Ok
returns-in-Ok g c = becomes _ _ c.in-Ok.ensures.updates (λ C D h. agreement.updated h.0)

pub returns-in-Err-Denied : goal.returns-in-Err-Denied
returns-in-Err-Denied g c = becomes _ _ c.in-Err-Denied.ensures.updates (λ C D h. denied_brings g.F.Source.gives c.args.now _ _ C D c.in-Err-Denied.field-0 c.in-Err-Denied.field-0-0 c.in-Err-Denied.field-0-is h.0)

pub returns-in-Err-Fetch : goal.returns-in-Err-Fetch
returns-in-Err-Fetch g c = becomes _ _ c.in-Err-Fetch.ensures.updates (λ C D h. fetch_brings g.F.Source.gives c.args.now _ _ C D c.in-Err-Fetch.field-0 h.0 c.in-Err-Fetch.fault c.in-Err-Fetch.field-0-is)

pub returns-in-Err-Database : goal.returns-in-Err-Database
returns-in-Err-Database g c = becomes _ _ c.in-Err-Database.ensures.updates (λ C D h. database_brings g.F.Source.gives c.args.now _ _ C D c.in-Err-Database.field-0 h.0 c.in-Err-Database.field-0-is)

pub returns : goal.returns
returns g c = becomes _ _ c.in-Err-OutOfMemory.ensures.updates (λ C D h. memory_brings g.F.Source.gives c.args.now _ _ C D c.in-Err-OutOfMemory.field-0 h.0 c.in-Err-OutOfMemory.field-0-is)
