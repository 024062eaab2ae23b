use Rattle.std.proofs.Common.{◌∷◌, [], ℕ, List, string_bytes, map, sym, ap, subst, ◌∙◌}
use Rattle.std.proofs.lemmas.List.{map-append}
use Rattle.std.proofs.lemmas.Result.{err_from_is_err_and}
use Rattle.canonical_json.specs.View.{view, members_view}
use Rattle.document_parts.specs.Links.{Link}
use Rattle.document_parts.specs.Members.{MembersAre}
use Rattle.document_parts.specs.RuleViews.{link_view}
use Rattle.document_parts.proofs.Elements.{none_left}
use Rattle.document_parts.proofs.Found.{each_proper}
use Rattle.document_parts.proofs.Growing.{MembersGrow, members_first, members_grow, members_left, members_done}
use Rattle.verdicts.specs.RuleCase.{IsLinkOf}
use Rattle.verdicts.proofs.Parts.{by_part}
use Rattle.verdicts.proofs.rule_text.links_of.Goals as goal

pub members-preserved : goal.members-preserved
members-preserved c =
    let all = members_view c.args.members.now in
    let rest = members_view c.members.rest.now in
    let later = members_view c.in-Some.later.now in
    let step = string_bytes c.in-Some.member.now.0 in
    let value = view c.in-Some.member.now.1 in
    let at = ap members_view c.in-Some.ensures.cases.0 in
    let link = subst (λ (n : List ℕ). IsLinkOf n value (link_view c.in_ok-link.link)) c.as_str.ensures.value c.in_ok-link.ensures.ok in
    let grown = members_grow IsLinkOf all rest later step value (link_view c.in_ok-link.link) (map link_view c.members.links.items) at link c.members.invariant.grow in
    let items = ap (map link_view) c.in_ok-push.ensures.items ∙ map-append link_view c.members.links.items (c.in_ok-link.link ∷ []) in
    record {
      grow = subst (λ (z : List Link). MembersGrow IsLinkOf all later z) (sym items) grown;
      left = members_left IsLinkOf all rest later step value at c.members.invariant.left;
      proper = (each_proper rest later step value at c.members.invariant.proper).1;
    }

pub returns-clause-ok : goal.returns-clause-ok
returns-clause-ok c =
    members_done IsLinkOf (members_view c.args.members.now) (members_view c.members.rest.now) (map link_view c.members.links.items)
    (ap members_view (none_left c.members.rest.now c.in_default.ensures.cases)) c.members.invariant.grow

pub returns-in_err-link-clause-fault : goal.returns-in_err-link-clause-fault
returns-in_err-link-clause-fault c =
    let p = err_from_is_err_and c.from_residual.result c.from_residual.ensures.1 in
    let all = members_view c.args.members.now in
    let step = string_bytes c.in-Some.member.now.0 in
    let value = view c.in-Some.member.now.1 in
    rw (p.1, p.2) (by_part (MembersAre IsLinkOf all) (IsLinkOf c.as_str.result.now value) _ c.in_err-link.ensures.fault (λ ls is.
    let first = members_first IsLinkOf all (members_view c.members.rest.now) (members_view c.in-Some.later.now) step value
    (ap members_view c.in-Some.ensures.cases.0) c.members.invariant.left (ls, is) in
    (first.0, subst (λ (n : List ℕ). IsLinkOf n value first.0) (sym c.as_str.ensures.value) first.1)))
