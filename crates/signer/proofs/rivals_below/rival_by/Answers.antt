use Rattle.std.proofs.Common.{ℕ, Option, MatchOption, map, refl, ap, ◌∙◌, arith}
use Rattle.keys_roles.specs.Views.{id_text}
use Rattle.leaf_plans.specs.Views.{kept_view}
use Rattle.signer.specs.Below.{lms_key_of}
use Rattle.signer.specs.Versions.{IsRivalLeaf}
use Rattle.signer.proofs.RivalsBelow.{IsUnderBy, LacksUnderBy, by_entry}
use Rattle.signer.proofs.SignedFiles.{if_ok}
use Rattle.signer.proofs.rivals_below.rival_by.Goals as goal

pub returns : goal.returns
returns c =
    let rows = map kept_view c.args.leaves.now in
    let kept = kept_view c.args.kept.now in
    let top = id_text c.args.top.now in
    let id = id_text c.lms_id-id.result in
    let message = c.args.message.now in
    if_ok (λ (found : Option ℕ). MatchOption found ((leaf : ℕ) → IsRivalLeaf rows id message leaf → ⊥) (λ leaf. IsRivalLeaf rows id message leaf))
    (λ (found : Option ℕ). MatchOption found (LacksUnderBy rows kept top message) (λ leaf. IsUnderBy rows kept top message leaf))
    c.rival_among.result c.rival_among.ensures
    (λ found h. by_entry rows kept top id message found (c.if-not-same_id.ensures.same.0 refl) (omega arith) (c.lms_id-id.ensures ∙ ap lms_key_of c.as_slice.ensures.value) h)
