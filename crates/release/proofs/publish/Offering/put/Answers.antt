use Rattle.std.proofs.Common.{sym, subst}
use Rattle.trust_rules.specs.Runs.{PutBlob}
use Rattle.sqlite.specs.Held.{state}
use Rattle.store.specs.Standing.{seen}
use Rattle.cli_faults.specs.declared.fault.Fault.{Fault}
use Rattle.cli_repository.proofs.Doing.{unmade}
use Rattle.cli_repository.specs.Faults.{fault_of_store}
use Rattle.release.specs.AfterPuts.{NotDone, kept, none, put}
use Rattle.release.proofs.AfterPuts.{other_over, put_refused, undenied}
use Rattle.release.proofs.publish.Offering.put.Goals as goal

pub returns-in-Ok-Stored : goal.returns-in-Ok-Stored
returns-in-Ok-Stored g c = put c.args.digest.0 c.args.bytes.now c.in-Ok-Stored.field-0 none c.in-Ok-Stored.ensures.makes.0

pub returns-after-other : goal.returns-after-other
returns-after-other g c =
    subst (λ (fault : Fault). NotDone c.args.self.now.now (seen c.args.repository.now.kept (state g.S.Store c.args.repository.now.conn)) fault (seen c.apply.new.self.kept (state g.S.Store c.apply.new.self.conn)))
    (sym c.refused.ensures) (put_refused c.args.self.now.now _ _ c.args.digest.0 c.args.bytes.now c.in-Ok.other c.in-Ok.ensures.makes.0)

pub returns-in-Err : goal.returns-in-Err
returns-in-Err g c =
    let made = unmade _ _ (PutBlob c.args.digest.0 c.args.bytes.now) c.args.self.now.now c.in-Err.fault c.in-Err.ensures.makes in
    rw c.fault_of_store.ensures (other_over c.args.self.now.now _ _ (fault_of_store c.in-Err.fault) (undenied (fault_of_store c.in-Err.fault) made.0) (kept none made.1))
