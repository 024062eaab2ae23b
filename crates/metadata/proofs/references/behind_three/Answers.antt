use Rattle.std.proofs.Common.{◌≡◌, ◌∷◌, ℕ, List, codes, sym, ◌∙◌}
use Rattle.canonical_json.specs.Json.{names}
use Rattle.canonical_json.specs.View.{members_view}
use Rattle.metadata.proofs.references.behind_three.Goals as goal

-- what the members after two are called
behind_two : (a b : List ℕ) (all rest later ns : List (List ℕ)) → all ≡ a ∷ rest → rest ≡ b ∷ later → all ≡ a ∷ b ∷ ns → later ≡ ns
behind_two a b all rest later ns first second h =
    let e : a ∷ rest ≡ a ∷ b ∷ ns = sym first ∙ h in
    let f : rest ≡ b ∷ ns = cc in
    let g : b ∷ later ≡ b ∷ ns = sym second ∙ f in
    cc

pub returns-in_default : goal.returns-in_default
returns-in_default c ns h =
    c.in_default.ensures ns (behind_two (codes "product") (codes "step") (names (members_view c.args.members.now)) (names (members_view c.in_ok-rest.rest.now)) (names (members_view c.in_ok-rest-2.rest.now)) (codes "threshold" ∷ ns)
    c.in_ok-rest.ensures c.in_ok-rest-2.ensures h)
