use Rattle.std.proofs.Common.{◌<◌, ℕ, List, inl, refl, ap, sym, subst, ◌∙◌}
use Rattle.std.specs.List.{AllByRecursion}
use Rattle.hex.specs.Hex.{encode_lower}
use Rattle.keys_roles.specs.Views.{entries_view, id_text}
use Rattle.signer.specs.Files.{IsUnsignedFile, others as others_of}
use Rattle.signer.specs.declared.faults.SignFileFault.{SignFileFault}
use Rattle.signer.specs.steps.Texts.{parts_text}
use Rattle.signer.proofs.SignedFiles.{judged, signs_file, unsigned_file, unwritten}
use Rattle.signer.proofs.files.sign_parts.Goals as goal

pub returns-in-Err-clause-unsigned : goal.returns-in-Err-clause-unsigned
returns-in-Err-clause-unsigned g c bytes f =
    judged c.args.book.now.book c.args.pair.now.seed c.args.pair.now.params bytes (entries_view c.args.file.now.signatures.items) c.args.file.now.signed.now
    (id_text c.id_of-id.result) c.signature_len.result c.in-Err.fault f c.id_of-id.ensures c.has_digits.ensures c.signature_len.ensures c.in-Err.ensures.fault

pub returns-in-Err-sign_message-clause-unsigned : goal.returns-in-Err-sign_message-clause-unsigned
returns-in-Err-sign_message-clause-unsigned g c bytes f =
    subst (λ (e : SignFileFault). IsUnsignedFile c.args.book.now.book c.args.pair.now.seed c.args.pair.now.params bytes e c.sign_message.new.book.book) (sym c.from.ensures)
    (unsigned_file c.args.book.now.book c.args.pair.now.seed c.args.pair.now.params bytes (entries_view c.args.file.now.signatures.items) c.args.file.now.signed.now
    c.in-Err-sign_message.fault c.sign_message.new.book.book f c.in-Err-sign_message.ensures.unsigned)

pub returns-in-Ok-with_entry-clause-signed : goal.returns-in-Ok-with_entry-clause-signed
returns-in-Ok-with_entry-clause-signed g c bytes f =
    let made = c.in-Ok-sign_message.made in
    let entries = entries_view c.args.file.now.signatures.items in
    let message = c.args.file.now.signed.now in
    signs_file c.args.book.now.book c.args.pair.now.seed c.args.pair.now.params bytes entries message (id_text c.id_of-id.result) (id_text made.0) made.1.items
    c.in-Ok-with_entry.out.items c.signature_len.result c.sign_message.new.book.book f c.in-Ok-sign_message.ensures.signs c.in-Ok-sign_message.ensures.verifies
    c.id_of-id.ensures c.in-Ok-sign_message.ensures.key c.has_digits-2.ensures (subst (AllByRecursion (λ b. b < 256)) c.as_slice.ensures.value c.are_bytes.ensures)
    c.signature_len.ensures c.in-Ok.ensures.ok
    (c.in-Ok-with_entry.ensures ∙ ap (λ (s : List ℕ). parts_text (others_of (id_text made.0) entries) (id_text made.0) (encode_lower s) message) c.as_slice-2.ensures.value)

pub returns-clause-unsigned : goal.returns-clause-unsigned
returns-clause-unsigned g c bytes f =
    unwritten c.args.book.now.book c.args.pair.now.seed c.args.pair.now.params bytes (entries_view c.args.file.now.signatures.items) c.args.file.now.signed.now
    c.in-Ok-sign_message.made.1.items c.sign_message.new.book.book f c.in-Ok-sign_message.ensures.signs

pub returns-in-Ok-with_entry-clause-kept : goal.returns-in-Ok-with_entry-clause-kept
returns-in-Ok-with_entry-clause-kept g c clean =
    let kept = c.in-Ok-sign_message.ensures.kept clean in
    (c.in-Ok-sign_message.ensures.rows clean kept.0, kept.1)

pub returns-in-Err-clause-crash : goal.returns-in-Err-clause-crash
returns-in-Err-clause-crash g c clean was trees may = (c.args.book.now.book, inl refl, c.rests.ensures.left clean was trees may)
