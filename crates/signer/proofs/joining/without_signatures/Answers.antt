use Rattle.keys_roles.specs.Views.{entries_view}
use Rattle.signer.proofs.JoinedFiles.{without_any}
use Rattle.signer.proofs.joining.without_signatures.Goals as goal

pub returns-in-Ok-whole_file-clause-bare : goal.returns-in-Ok-whole_file-clause-bare
returns-in-Ok-whole_file-clause-bare c =
    let entries = entries_view c.in-Ok.signed.signatures.items in
    let message = c.in-Ok.signed.signed.now in
    (entries, message, c.in-Ok.ensures.file, without_any c.args.file.now entries message c.in-Ok-whole_file.out.items c.in-Ok.ensures.file c.in-Ok-whole_file.ensures)
