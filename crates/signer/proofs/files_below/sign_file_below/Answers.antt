use Rattle.std.proofs.Common.{inl, inr, refl, sym, subst}
use Rattle.keys_roles.specs.Views.{entries_view}
use Rattle.signer.specs.BelowOnce.{IsUnsignedFileBelow, SignsFileBelow}
use Rattle.signer.specs.declared.faults.SignFileFault.{SignFileFault}
use Rattle.signer.proofs.BelowOnce.{unread_file_below}
use Rattle.signer.proofs.SignedFiles.{if_ok}
use Rattle.signer.proofs.files_below.sign_file_below.Goals as goal

pub returns-in-Ok-clause-signed : goal.returns-in-Ok-clause-signed
returns-in-Ok-clause-signed g c =
    if_ok _ (λ out. SignsFileBelow c.args.book.now.book c.args.signer.now c.args.file.now out.items c.sign_parts_below.new.book.book)
    c.sign_parts_below.result c.sign_parts_below.ensures.signed (λ out all. all c.args.file.now c.in-Ok.ensures.file)

pub returns-in-Err-clause-unsigned : goal.returns-in-Err-clause-unsigned
returns-in-Err-clause-unsigned g c =
    subst (λ (e : SignFileFault). IsUnsignedFileBelow c.args.book.now.book c.args.signer.now c.args.file.now e c.args.book.now.book) (sym c.from.ensures)
    (unread_file_below c.args.book.now.book c.args.signer.now c.args.file.now c.in-Err.fault c.in-Err.ensures.fault)

pub returns-in-Ok-clause-crash : goal.returns-in-Ok-clause-crash
returns-in-Ok-clause-crash g c clean was trees may =
    let left = c.sign_parts_below.ensures.crash clean was trees may in
    (left.0, inr (entries_view c.in-Ok.signed.signatures.items, c.in-Ok.signed.signed.now, c.in-Ok.ensures.file, left.1), left.2)

pub returns-in-Err-clause-crash : goal.returns-in-Err-clause-crash
returns-in-Err-clause-crash g c clean was trees may = (c.args.book.now.book, inl refl, c.rests.ensures.left clean was trees may)
