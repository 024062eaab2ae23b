use Rattle.std.proofs.Common.{◌≡◌, List, ◌∷◌, true, false, string_bytes, rules, sym, ◌∙◌, subst}
use Rattle.canonical_json.specs.View.{view, members_view}
use Rattle.drafting.specs.Roots.{IsNamed}
use Rattle.drafting.proofs.Holders.{named_later, named_more}
use Rattle.drafting.proofs.Rows.{Row, shown}
use Rattle.drafting.proofs.named.is_named.Goals as goal

pub roles-preserved : goal.roles-preserved
roles-preserved c =
    let id = c.args.id.now in
    let row = c.in-Some.role.now in
    let later = c.in-Some.later.now in
    let is : c.roles.rest.now ≡ row ∷ later = search rules in
    record {
      ahead = λ h.
          named_later (string_bytes row.0) (view row.1) (members_view later) id
          (λ k. let e : false ≡ true = sym c.if-has_id.false ∙ c.has_id.ensures.1 k in absurd (cc))
          (subst (λ (r : List Row). IsNamed (shown r) id) is (c.roles.invariant.ahead h));
      back = λ h.
          c.roles.invariant.back (subst (λ (r : List Row). IsNamed (shown r) id) (sym is) (named_more (string_bytes row.0) (view row.1) (members_view later) id h));
    }
