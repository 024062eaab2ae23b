use Rattle.release.specs.AfterPuts.{none}
use Rattle.release.proofs.AfterPuts.{after_puts, then_over}
use Rattle.release.proofs.publish.Publishing.put_all.Goals as goal

pub files-init : goal.files-init
files-init g c = none

pub returns-in-Err-put : goal.returns-in-Err-put
returns-in-Err-put g c = after_puts c.args.self.now.offering.now _ _ _ c.in-Err-put.fault c.files.invariant c.in-Err-put.ensures

pub files-preserved : goal.files-preserved
files-preserved g c = then_over c.args.self.now.offering.now _ _ _ c.files.invariant c.in-Ok-put.ensures
