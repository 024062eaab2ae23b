use Rattle.std.proofs.Common.{ℕ, List, ◌++◌, ap, ◌∙◌, codes}
use Rattle.hex.specs.Hex.{encode_lower}
use Rattle.keys_roles.specs.Views.{entries_view, id_text}
use Rattle.keys_roles.specs.declared.Signature.{Signature}
use Rattle.signer.specs.Files.{others as others_of}
use Rattle.signer.specs.steps.Texts.{entries_text, entry_text}
use Rattle.signer.proofs.KeptEntries.{built}
use Rattle.signer.proofs.entries.with_entry.Goals as goal

pub returns : goal.returns
returns c =
    let key = id_text c.args.id.now in
    built (codes "{\"signatures\":[") (entries_text (others_of key (entries_view c.args.file.now.signatures.items))) (entry_text key (encode_lower c.args.signature.now))
    (codes "],\"signed\":") c.args.file.now.signed.now _ _ _ _ _ _
    c.in_ok-out.ensures.items
    (c.in_ok-put_others.ensures ∙ ap (λ (es : List Signature). c.in_ok-out.out.items ++ entries_text (others_of key (entries_view es))) c.as_slice.ensures.value)
    (c.in_ok-put_entry.ensures ∙ ap (λ (d : List ℕ). c.put_others.new.out.items ++ entry_text key d) (c.as_bytes.ensures.value ∙ c.in_ok-digits.ensures))
    c.in_ok-extend_from_slice.ensures.items c.in_ok-extend_from_slice-2.ensures.items c.in_ok-extend_from_slice-3.ensures.items
