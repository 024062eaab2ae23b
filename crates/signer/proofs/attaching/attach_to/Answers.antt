use Rattle.std.proofs.Common.{◌<◌, ◌≤◌, List, length, ap, arith, ◌∙◌}
use Rattle.limits.specs.Limits.{file_limit, most_signatures}
use Rattle.keys_roles.specs.Views.{entries_view, id_text, key_view}
use Rattle.keys_roles.specs.declared.Signature.{Signature}
use Rattle.signer.specs.Files.{others as others_of}
use Rattle.signer.proofs.Attached.{attached, too_long}
use Rattle.signer.proofs.attaching.attach_to.Goals as goal

pub returns-in-Ok-clause-unattached : goal.returns-in-Ok-clause-unattached
returns-in-Ok-clause-unattached c bytes f =
    let id = id_text c.id_of-id.result in
    let entries = entries_view c.args.file.now.signatures.items in
    let count = c.others.ensures ∙ ap (λ (es : List Signature). length (others_of id (entries_view es))) c.as_slice.ensures.value in
    let few : length (others_of id entries) < most_signatures = omega (arith, count, c.if-others-ge-MOST_SIGNATURES.false) in
    let long : file_limit < length c.in-Ok.out.items = omega (arith, c.len.ensures, c.if-len-gt-FILE_LIMIT.true) in
    too_long bytes entries c.args.file.now.signed.now (key_view c.args.key.now) id c.args.signature.now c.in-Ok.out.items f (c.verifies.ensures.0 c.if-not-verifies.false)
    c.id_of-id.ensures c.has_digits.ensures c.are_bytes.ensures few c.in-Ok.ensures long

pub returns-in-Ok-2-clause-attached : goal.returns-in-Ok-2-clause-attached
returns-in-Ok-2-clause-attached c bytes f =
    let id = id_text c.id_of-id.result in
    let entries = entries_view c.args.file.now.signatures.items in
    let count = c.others.ensures ∙ ap (λ (es : List Signature). length (others_of id (entries_view es))) c.as_slice.ensures.value in
    let few : length (others_of id entries) < most_signatures = omega (arith, count, c.if-others-ge-MOST_SIGNATURES.false) in
    let short : length c.in-Ok.out.items ≤ file_limit = omega (arith, c.len.ensures, c.if-len-gt-FILE_LIMIT.false) in
    attached bytes entries c.args.file.now.signed.now (key_view c.args.key.now) id c.args.signature.now c.in-Ok.out.items f (c.verifies.ensures.0 c.if-not-verifies.false)
    c.id_of-id.ensures c.has_digits.ensures c.are_bytes.ensures few c.in-Ok.ensures short
