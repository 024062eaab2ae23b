use Rattle.std.proofs.Common.{◌≡◌, ◌∙◌, false, true, IsTrue, subst, sym}
use Rattle.keys_roles.specs.Plain.{Key}
use Rattle.keys_roles.specs.Keys.{top_key}
use Rattle.keys_roles.specs.Views.{key_view}
use Rattle.signer.specs.Attaching.{HasKnownTypes}
use Rattle.signer.proofs.Attached.{may_verify, one_key}
use Rattle.signer.proofs.attaching.key_of_bytes.Goals as goal

pub returns-then-not-has_types-clause-none : goal.returns-then-not-has_types-clause-none
returns-then-not-has_types-clause-none c key message signature is v =
    let one = one_key c.args.bytes.now key (key_view c.in-Some.key) is c.in-Some.ensures in
    let types : HasKnownTypes (top_key (key_view c.in-Some.key)) = subst (λ (k : Key). HasKnownTypes (top_key k)) one (may_verify key message signature v).1 in
    let known : IsTrue c.has_types.result = c.has_types.ensures.1 (subst HasKnownTypes (sym c.top_key.ensures) types) in
    let e : false ≡ true = sym c.if-not-has_types.true ∙ known in
    absurd (cc)
