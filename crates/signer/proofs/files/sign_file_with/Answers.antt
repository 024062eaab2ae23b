use Rattle.std.proofs.Common.{inl, inr, refl}
use Rattle.keys_roles.specs.Views.{entries_view}
use Rattle.signer.specs.Files.{SignsFile}
use Rattle.signer.proofs.SignedFiles.{if_ok}
use Rattle.signer.proofs.files.sign_file_with.Goals as goal

pub returns-in-Ok-clause-signed : goal.returns-in-Ok-clause-signed
returns-in-Ok-clause-signed g c =
    if_ok _ (λ out. SignsFile c.args.book.now.book c.args.pair.now.seed c.args.pair.now.params c.args.file.now out.items c.sign_parts.new.book.book)
    c.sign_parts.result c.sign_parts.ensures.signed (λ out all. all c.args.file.now c.in-Ok.ensures.file)

pub returns-in-Ok-clause-crash : goal.returns-in-Ok-clause-crash
returns-in-Ok-clause-crash g c clean was trees may =
    let left = c.sign_parts.ensures.crash clean was trees may in
    (left.0, inr (entries_view c.in-Ok.signed.signatures.items, c.in-Ok.signed.signed.now, c.in-Ok.ensures.file, left.1), left.2)

pub returns-in-Err-clause-crash : goal.returns-in-Err-clause-crash
returns-in-Err-clause-crash g c clean was trees may = (c.args.book.now.book, inl refl, c.rests.ensures.left clean was trees may)
