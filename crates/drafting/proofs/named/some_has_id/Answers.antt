use Rattle.std.proofs.Common.{◌≡◌, List, ◌∷◌, true, false, string_bytes, rules, refl, sym, ◌∙◌, subst}
use Rattle.canonical_json.specs.View.{view, members_view}
use Rattle.drafting.specs.Roots.{HasId}
use Rattle.drafting.proofs.Holders.{has_first, has_later, has_more}
use Rattle.drafting.proofs.Rows.{Row, shown}
use Rattle.drafting.proofs.named.some_has_id.Goals as goal

pub members-preserved : goal.members-preserved
members-preserved c =
    let id = c.args.id.now in
    let row = c.in-Some.member.now in
    let later = c.in-Some.later.now in
    let is : c.members.rest.now ≡ row ∷ later = search rules in
    record {
      ahead = λ h.
          has_later (string_bytes row.0) (view row.1) (members_view later) id
          (λ k. let e : false ≡ true = sym c.if-lists.false ∙ c.lists.ensures.1 k in absurd (cc))
          (subst (λ (r : List Row). HasId (shown r) id) is (c.members.invariant.ahead h));
      back = λ h.
          c.members.invariant.back (subst (λ (r : List Row). HasId (shown r) id) (sym is) (has_more (string_bytes row.0) (view row.1) (members_view later) id h));
    }

pub returns-then-lists : goal.returns-then-lists
returns-then-lists c =
    let id = c.args.id.now in
    let row = c.in-Some.member.now in
    let later = c.in-Some.later.now in
    let is : c.members.rest.now ≡ row ∷ later = search rules in
    let said = c.lists.ensures.0 c.if-lists.true in (
      (λ t. c.members.invariant.back (subst (λ (r : List Row). HasId (shown r) id) (sym is) (has_first (string_bytes row.0) (view row.1) (members_view later) id said.0 said.1))),
      λ h. refl,
    )
