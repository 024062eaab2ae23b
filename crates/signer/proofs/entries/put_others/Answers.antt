use Rattle.std.proofs.Common.{◌≡◌, ◌∷◌, ◌++◌, List, ap, ◌∙◌, sym, rules, true≢false}
use Rattle.keys_roles.specs.Views.{entries_view, entry_view, id_text}
use Rattle.keys_roles.specs.declared.Signature.{Signature}
use Rattle.signer.specs.Files.{others as others_of}
use Rattle.signer.specs.steps.Texts.{entries_text}
use Rattle.signer.proofs.KeptEntries.{put_next}
use Rattle.signer.proofs.entries.put_others.Goals as goal

pub entries-preserved-in_ok-put_with_comma : goal.entries-preserved-in_ok-put_with_comma
entries-preserved-in_ok-put_with_comma c =
    let rest = c.entries.rest.now in
    let entry = c.in-Some.entry.now in
    let later = c.in-Some.later.now in
    let key = id_text c.args.id.now in
    let old = c.entries.out.items in
    let is : rest ≡ entry ∷ later = search rules in
    put_next old c.put_with_comma.new.out.items (entry_view entry) (entries_view later) key (λ e. true≢false (sym (c.if-not-same_id.ensures.same.1 e))) c.in_ok-put_with_comma.ensures
    ∙ ap (λ (r : List Signature). old ++ entries_text (others_of key (entries_view r))) (sym is) ∙ c.entries.invariant
