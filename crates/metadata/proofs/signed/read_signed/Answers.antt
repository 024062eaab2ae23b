use Rattle.std.proofs.Common.{◌≡◌, false, true, codes, inl, inr, refl, subst, sym}
use Rattle.canonical_json.specs.Json.{HasMember, Json}
use Rattle.canonical_json.specs.View.{view}
use Rattle.metadata.proofs.signed.read_signed.Goals as goal

pub returns-in_default-clause-fault : goal.returns-in_default-clause-fault
returns-in_default-clause-fault c =
    let envelope = c.in_ok-signatures.ensures.ok in
    let there = subst (λ (v : Json). HasMember v (codes "signed") (view c.in_ok-signatures.field-0.part.now)) (sym envelope.members) (inr (inl (refl, refl))) in
    let e : false ≡ true = c.in_default.ensures.none (view c.in-Ok.value) (view c.in_ok-signatures.field-0.part.now) c.in-Ok.ensures.value there in
    absurd (cc)
