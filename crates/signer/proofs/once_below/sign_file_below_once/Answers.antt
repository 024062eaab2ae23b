use Rattle.std.proofs.Common.{Ok, Err, inl, inr, refl, sym, subst}
use Rattle.keys_roles.specs.Views.{entries_view}
use Rattle.signer.specs.BelowOnce.{SignsBelowOnce}
use Rattle.signer.specs.declared.faults.SignFileFault.{SignFileFault}
use Rattle.signer.specs.declared.faults.SignFileFault.TheVariants.{OutOfMemory}
use Rattle.signer.specs.declared.faults.SignOnceFault.TheVariants.{Unsigned}
use Rattle.signer.proofs.BelowOnce.{unread_below}
use Rattle.signer.proofs.Rivals.{signed_canonical}
use Rattle.signer.proofs.SignedFiles.{if_ok}
use Rattle.signer.proofs.once_below.sign_file_below_once.Goals as goal

pub sign_parts_below_once-requires : goal.sign_parts_below_once-requires
sign_parts_below_once-requires g c = signed_canonical c.args.file.now (entries_view c.in-Ok.signed.signatures.items) c.in-Ok.signed.signed.now c.in-Ok.ensures.file

pub returns-in-Ok-clause-signed : goal.returns-in-Ok-clause-signed
returns-in-Ok-clause-signed g c =
    if_ok _ (λ out. SignsBelowOnce c.args.book.now.book c.args.signer.now c.args.file.now (Ok out.items) c.sign_parts_below_once.new.book.book)
    c.sign_parts_below_once.result c.sign_parts_below_once.ensures.signed (λ out all. all c.args.file.now c.in-Ok.ensures.file)

pub returns-in-Err-clause-unsigned : goal.returns-in-Err-clause-unsigned
returns-in-Err-clause-unsigned g c =
    subst (λ (e : SignFileFault). SignsBelowOnce c.args.book.now.book c.args.signer.now c.args.file.now (Err (Unsigned e)) c.args.book.now.book) (sym c.from.ensures)
    (unread_below c.one_spelling.ensures.one_value c.args.book.now.book c.args.signer.now c.args.file.now c.in-Err.fault c.in-Err.ensures.fault)

pub returns-in-Err-clause-crash : goal.returns-in-Err-clause-crash
returns-in-Err-clause-crash g c clean was trees may = (c.args.book.now.book, inl refl, c.rests.ensures.left clean was trees may)

pub returns-in-Ok-clause-crash : goal.returns-in-Ok-clause-crash
returns-in-Ok-clause-crash g c clean was trees may =
    let left = c.sign_parts_below_once.ensures.crash clean was trees may in (
      left.0,
      elim left.1 [ inl same ↦ inl same | inr does ↦ inr (Err (Unsigned OutOfMemory), does c.args.file.now c.in-Ok.ensures.file) ],
      left.2,
    )
