use Rattle.served_files.specs.Served.{target}
use Rattle.served_files.proofs.Telling.{on_ok}
use Rattle.exported_files.proofs.Doing.{did_in, exported_next}
use Rattle.exported_files.proofs.export.ExportingFileVisitor.visit_target.Goals as goal

pub returns : goal.returns
returns g c = on_ok c.put_target.result c.put_target.ensures (λ did files told before.
    let file = target c.args.listing.now.path c.args.listing.now.digest.0 in
    exported_next _ _ files told file _ _ (did_in _ _ _ _ _ file c.args.self.now.is_folder did) before)
