use Rattle.std.proofs.Common.{rules, ◌≡◌, ◌++◌, ℕ, List, [], String, ap, sym, ◌∙◌}
use Rattle.std.specs.declared.alloc.Global.{Global}
use Rattle.canonical_json.specs.Json.{names}
use Rattle.canonical_json.specs.View.{members_view}
use Rattle.canonical_json.specs.declared.Value.{Value}
use Rattle.document_parts.specs.Bodies.{reference_members}
use Rattle.metadata.specs.steps.Entries.{first_members, last_members}
use Rattle.document_parts.proofs.Elements.{none_left}
use Rattle.document_parts.proofs.Found.{no_names}
use Rattle.metadata.proofs.references.are_those.Goals as goal

-- what the members after the first four are called
behind_first : (all rest : List (List ℕ)) → all ≡ first_members ++ rest → all ≡ reference_members → rest ≡ last_members
behind_first all rest is h =
    let e : first_members ++ rest ≡ reference_members = sym is ∙ h in
    cc

behind_last : (all rest : List (List ℕ)) → all ≡ last_members ++ rest → all ≡ last_members → rest ≡ []
behind_last all rest is h =
    let e : last_members ++ rest ≡ last_members = sym is ∙ h in
    cc

pub returns-in_default : goal.returns-in_default
returns-in_default c = ((λ h. absurd (cc)), (λ h. absurd (c.in_default.ensures last_members h)))

pub returns-in_default-behind_three : goal.returns-in_default-behind_three
returns-in_default-behind_three c = (
  (λ h. absurd (cc)),
  λ h. absurd (c.in_default-behind_three.ensures [] (behind_first (names (members_view c.args.members.now)) (names (members_view c.in-Some.rest.now)) c.in-Some.ensures h)),
)

pub returns : goal.returns
returns c =
    let rest = c.in-Some-behind_three.rest.now in (
      λ h.
          let none = ap (λ (ms : List (String Global × Value)). last_members ++ names (members_view ms)) (none_left rest (search rules)) in
          c.in-Some.ensures ∙ ap (λ (ns : List (List ℕ)). first_members ++ ns) (c.in-Some-behind_three.ensures ∙ none),
      λ h.
          let last = behind_first (names (members_view c.args.members.now)) (names (members_view c.in-Some.rest.now)) c.in-Some.ensures h in
          let none = no_names rest (behind_last (names (members_view c.in-Some.rest.now)) (names (members_view rest)) c.in-Some-behind_three.ensures last) in
          search rules,
    )
