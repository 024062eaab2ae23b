use Rattle.std.proofs.Common.{◌∷◌, [], ℕ, List, string_bytes, sym, ap, subst, ◌∙◌}
use Rattle.std.proofs.lemmas.List.{map-append}
use Rattle.canonical_json.specs.View.{view, members_view}
use Rattle.document_parts.specs.Bodies.{IsArtifact}
use Rattle.document_parts.specs.Links.{Artifacts}
use Rattle.layout_files.specs.steps.Spelled.{artifact_view, artifact_views}
use Rattle.document_parts.proofs.Elements.{none_left}
use Rattle.document_parts.proofs.Growing.{MembersGrow, members_grow, members_left, members_done}
use Rattle.layout_files.proofs.link.read_rows.Goals as goal

pub members-preserved : goal.members-preserved
members-preserved c =
    let all = members_view c.args.members.now in
    let rest = members_view c.members.rest.now in
    let later = members_view c.in-Some.later.now in
    let path = string_bytes c.in-Some.member.now.0 in
    let value = view c.in-Some.member.now.1 in
    let at = ap members_view c.in-Some.ensures.cases.0 in
    let row = subst (λ (n : List ℕ). IsArtifact n value (artifact_view c.in_ok-row.row)) c.as_str.ensures.value c.in_ok-row.ensures.ok in
    let grown = members_grow IsArtifact all rest later path value (artifact_view c.in_ok-row.row) (artifact_views c.members.rows.items) at row c.members.invariant.grow in
    let items = ap artifact_views c.in_ok-push.ensures.items ∙ map-append artifact_view c.members.rows.items (c.in_ok-row.row ∷ []) in
    record {
      grow = subst (λ (z : Artifacts). MembersGrow IsArtifact all later z) (sym items) grown;
      left = members_left IsArtifact all rest later path value at c.members.invariant.left;
    }

pub returns-clause-ok : goal.returns-clause-ok
returns-clause-ok c =
    members_done IsArtifact (members_view c.args.members.now) (members_view c.members.rest.now) (artifact_views c.members.rows.items)
    (ap members_view (none_left c.members.rest.now c.in_default.ensures.cases)) c.members.invariant.grow
