use Rattle.std.proofs.Common.{◌≡◌, ℕ, List, [], ◌∷◌, ◌++◌, false, true, Some, sym, ap, subst, ◌∙◌}
use Rattle.keys_roles.specs.Plain.{look_up}
use Rattle.keys_roles.specs.Views.{entries_view, id_text, ids_view, key_view, rows_view, table_view}
use Rattle.keys_roles.specs.declared.Key.{Key}
use Rattle.keys_roles.specs.declared.KeyId.{KeyId}
use Rattle.layouts.specs.steps.Gathering.{IsSigner}
use Rattle.layouts.proofs.Signers.{moved, signed_by, meets_one, one_top}
use Rattle.layouts.proofs.signing.signer.Goals as goal

some_once : {A : Type 0} (a b : A) → Some a ≡ Some b → a ≡ b
some_once a b e = cc

pub returns-then-meets : goal.returns-then-meets
returns-then-meets c =
    let keys = table_view c.args.keys.now in
    let signed = c.args.source.now.signed in
    let entries = c.args.source.now.entries in
    let id = id_text c.args.id.now in
    let key = key_view c.in-Some.key.now in
    let at = subst (λ (rows : List (KeyId × Key)). look_up (rows_view rows) id ≡ Some key) c.deref.ensures.value (sym c.in-Some.ensures) in
    let ids = ap ids_view (c.in_ok-push.ensures.items ∙ ap (λ (xs : List KeyId). xs ++ c.args.id.now ∷ []) c.new-keyids.ensures.items) in
    let one = moved keys _ id signed c.signed.result.now entries (entries_view c.signatures.result.now) c.meets.result ids c.signed.ensures c.signatures.ensures.value c.meets.ensures in
    let s = signed_by keys signed entries id (one.0 c.if-meets.true) key at in
    λ top. (
      (λ e. subst (λ (z : List ℕ). IsSigner keys signed entries id z) (sym c.top_key.ensures ∙ some_once c.top_key.result.now top e) s),
      (λ h. ap Some (c.top_key.ensures ∙ one_top keys signed entries id top key at h)),
    )

pub returns : goal.returns
returns c =
    let keys = table_view c.args.keys.now in
    let signed = c.args.source.now.signed in
    let entries = c.args.source.now.entries in
    let id = id_text c.args.id.now in
    let ids = ap ids_view (c.in_ok-push.ensures.items ∙ ap (λ (xs : List KeyId). xs ++ c.args.id.now ∷ []) c.new-keyids.ensures.items) in
    let one = moved keys _ id signed c.signed.result.now entries (entries_view c.signatures.result.now) c.meets.result ids c.signed.ensures c.signatures.ensures.value c.meets.ensures in
    λ top. (
      (λ e. absurd (cc)),
      (λ h. let both : false ≡ true = sym c.if-meets.false ∙ one.1 (meets_one keys signed entries id top h) in absurd (cc)),
    )
