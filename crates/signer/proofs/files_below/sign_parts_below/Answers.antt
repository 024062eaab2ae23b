use Rattle.std.proofs.Common.{◌<◌, ℕ, List, inl, refl, ap, sym, subst, ◌∙◌}
use Rattle.std.specs.List.{AllByRecursion}
use Rattle.hex.specs.Hex.{encode_lower}
use Rattle.keys_roles.specs.Views.{entries_view, id_text}
use Rattle.signer.specs.Below.{hss_key_of}
use Rattle.signer.specs.BelowOnce.{IsUnsignedFileBelow}
use Rattle.signer.specs.Files.{others as others_of}
use Rattle.signer.specs.declared.faults.SignFileFault.{SignFileFault}
use Rattle.signer.specs.steps.Texts.{parts_text}
use Rattle.signer.proofs.BelowOnce.{judged_below, signs_file_below, unsigned_file_below, unwritten_below}
use Rattle.signer.proofs.files_below.sign_parts_below.Goals as goal

pub returns-in-Err-clause-unsigned : goal.returns-in-Err-clause-unsigned
returns-in-Err-clause-unsigned g c bytes f =
    judged_below c.args.book.now.book c.args.signer.now bytes (entries_view c.args.file.now.signatures.items) c.args.file.now.signed.now f
    (id_text c.hss_id-id.result) c.signature_len.result c.in-Err.fault (c.hss_id-id.ensures ∙ ap hss_key_of c.pair.ensures) c.has_digits.ensures c.signature_len.ensures
    c.in-Err.ensures.fault

pub returns-in-Err-sign_by_tree-clause-unsigned : goal.returns-in-Err-sign_by_tree-clause-unsigned
returns-in-Err-sign_by_tree-clause-unsigned g c bytes f =
    subst (λ (e : SignFileFault). IsUnsignedFileBelow c.args.book.now.book c.args.signer.now bytes e c.sign_by_tree.new.book.book) (sym c.from.ensures)
    (unsigned_file_below c.args.book.now.book c.args.signer.now bytes (entries_view c.args.file.now.signatures.items) c.args.file.now.signed.now f
    c.in-Err-sign_by_tree.fault c.sign_by_tree.new.book.book c.in-Err-sign_by_tree.ensures.unsigned)

pub returns-in-Ok-with_entry-clause-signed : goal.returns-in-Ok-with_entry-clause-signed
returns-in-Ok-with_entry-clause-signed g c bytes f =
    let entries = entries_view c.args.file.now.signatures.items in
    let message = c.args.file.now.signed.now in
    let key = id_text c.hss_id-id.result in
    signs_file_below c.args.book.now.book c.args.signer.now bytes entries message f c.sign_by_tree.new.book.book c.in-Ok-sign_by_tree.signature.items key
    c.in-Ok-with_entry.out.items c.signature_len.result c.in-Ok-sign_by_tree.ensures.signs c.in-Ok-sign_by_tree.ensures.verifies c.in-Ok-sign_by_tree.ensures.length
    (c.hss_id-id.ensures ∙ ap hss_key_of c.pair.ensures) c.has_digits.ensures (subst (AllByRecursion (λ b. b < 256)) c.as_slice.ensures.value c.are_bytes.ensures)
    c.signature_len.ensures c.in-Ok.ensures.ok
    (c.in-Ok-with_entry.ensures ∙ ap (λ (s : List ℕ). parts_text (others_of key entries) key (encode_lower s) message) c.as_slice-2.ensures.value)

pub returns-clause-unsigned : goal.returns-clause-unsigned
returns-clause-unsigned g c bytes f =
    unwritten_below c.args.book.now.book c.args.signer.now bytes (entries_view c.args.file.now.signatures.items) c.args.file.now.signed.now f
    c.sign_by_tree.new.book.book c.in-Ok-sign_by_tree.signature.items c.in-Ok-sign_by_tree.ensures.signs

pub returns-in-Err-clause-crash : goal.returns-in-Err-clause-crash
returns-in-Err-clause-crash g c clean was trees may = (c.args.book.now.book, inl refl, c.rests.ensures.left clean was trees may)
