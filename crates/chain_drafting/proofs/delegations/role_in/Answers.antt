use Rattle.std.proofs.Common.{ℕ, List, inl, inr, codes, refl, ap, sym, ◌∙◌, subst}
use Rattle.canonical_json.specs.Json.{Json, HasMember, text}
use Rattle.canonical_json.specs.View.{view}
use Rattle.drafting.proofs.Rows.{Row, object_view, shown}
use Rattle.chain_drafting.proofs.delegations.role_in.Goals as goal

pub returns-in-Some : goal.returns-in-Some
returns-in-Some c =
    let seen = ap (λ (r : List Row). shown r) c.as_slice.ensures.value ∙ sym (object_view c.in-Object.members) ∙ ap view (sym c.in-Object.is) in
    inl (subst (λ (v : Json). HasMember v (codes "name") (text c.in-Some.name.now)) seen c.in-Some.ensures)

pub returns-in-None : goal.returns-in-None
returns-in-None c =
    let seen = ap (λ (r : List Row). shown r) c.as_slice.ensures.value ∙ sym (object_view c.in-Object.members) ∙ ap view (sym c.in-Object.is) in
    inr (refl, subst (λ (v : Json). (t : List ℕ) → HasMember v (codes "name") (text t) → ⊥) seen c.in-None.ensures)
