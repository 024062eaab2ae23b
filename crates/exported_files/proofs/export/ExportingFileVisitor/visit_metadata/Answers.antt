use Rattle.served_files.specs.Served.{metadata}
use Rattle.served_files.proofs.Telling.{on_ok}
use Rattle.exported_files.proofs.Doing.{did_in, exported_next}
use Rattle.exported_files.proofs.export.ExportingFileVisitor.visit_metadata.Goals as goal

pub returns : goal.returns
returns g c = on_ok c.put_metadata.result c.put_metadata.ensures (λ did files told before.
    let file = metadata c.args._kind c.args.name.now c.args.bytes.now in
    exported_next _ _ files told file _ _ (did_in _ _ _ _ _ file c.args.self.now.is_folder did) before)
