use Rattle.std.proofs.Common.{◌≡◌, List, [], ◌∷◌, inl, inr, rules, sym, subst}
use Rattle.canonical_json.specs.Json.{IsAmong, text}
use Rattle.canonical_json.specs.View.{members_view}
use Rattle.drafting.proofs.Results.{no_rows}
use Rattle.drafting.proofs.Rows.{Row, text_later}
use Rattle.drafting.proofs.texts.text_at.Goals as goal

pub members-preserved : goal.members-preserved
members-preserved c =
    let row = c.in-Some.member.now in
    let later = c.in-Some.later.now in
    let is : c.members.rest.now ≡ row ∷ later = search rules in
    record {
      back = λ t h. c.members.invariant.back t (subst (λ (r : List Row). IsAmong c.args.name.now (text t) (members_view r)) (sym is) (inr h));
      ahead = λ t h. text_later c.args.name.now t row later (c.in-None.ensures t) (subst (λ (r : List Row). IsAmong c.args.name.now (text t) (members_view r)) is (c.members.invariant.ahead t h));
    }

pub returns-in-Some-text_if : goal.returns-in-Some-text_if
returns-in-Some-text_if c =
    let is : c.members.rest.now ≡ c.in-Some.member.now ∷ c.in-Some.later.now = search rules in
    let said = c.in-Some-text_if.ensures in
    c.members.invariant.back c.in-Some-text_if.said.now (subst (λ (r : List Row). IsAmong c.args.name.now (text c.in-Some-text_if.said.now) (members_view r)) (sym is) (inl (said.0, said.1)))

pub returns : goal.returns
returns c =
    let none : c.members.rest.now ≡ [] = no_rows c.members.rest.now c.in_default.ensures.cases in
    λ t h. subst (λ (r : List Row). IsAmong c.args.name.now (text t) (members_view r)) none (c.members.invariant.ahead t h)
