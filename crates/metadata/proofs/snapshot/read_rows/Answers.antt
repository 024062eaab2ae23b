use Rattle.std.proofs.Common.{◌∷◌, [], ℕ, List, string_bytes, sym, ap, subst, ◌∙◌}
use Rattle.std.proofs.lemmas.List.{map-append}
use Rattle.canonical_json.specs.View.{view, members_view}
use Rattle.document_parts.specs.Bodies.{IsMetaRow}
use Rattle.document_parts.specs.Documents.{MetaFile}
use Rattle.metadata.specs.steps.Entries.{rows_view}
use Rattle.document_parts.specs.Views.{meta_view}
use Rattle.document_parts.proofs.Elements.{none_left}
use Rattle.document_parts.proofs.Found.{each_proper}
use Rattle.document_parts.proofs.Growing.{MembersGrow, members_grow, members_left, members_done}
use Rattle.metadata.proofs.snapshot.read_rows.Goals as goal

pub members-preserved : goal.members-preserved
members-preserved c =
    let all = members_view c.args.members.now in
    let rest = members_view c.members.rest.now in
    let later = members_view c.in-Some.later.now in
    let name = string_bytes c.in-Some.member.now.0 in
    let value = view c.in-Some.member.now.1 in
    let at = ap members_view c.in-Some.ensures.cases.0 in
    let row = subst (λ (n : List ℕ). IsMetaRow n value (c.in_ok-row.row.0, meta_view c.in_ok-row.row.1)) c.as_str.ensures.value c.in_ok-row.ensures.ok in
    let grown = members_grow IsMetaRow all rest later name value (c.in_ok-row.row.0, meta_view c.in_ok-row.row.1) (rows_view c.members.rows.items) at row c.members.invariant.grow in
    let items = ap rows_view c.in_ok-push.ensures.items ∙ map-append (λ e. (e.0, meta_view e.1)) c.members.rows.items (c.in_ok-row.row ∷ []) in
    record {
      grow = subst (λ (z : List (List ℕ × MetaFile)). MembersGrow IsMetaRow all later z) (sym items) grown;
      left = members_left IsMetaRow all rest later name value at c.members.invariant.left;
      proper = (each_proper rest later name value at c.members.invariant.proper).1;
    }

pub returns-clause-ok : goal.returns-clause-ok
returns-clause-ok c =
    members_done IsMetaRow (members_view c.args.members.now) (members_view c.members.rest.now) (rows_view c.members.rows.items)
    (ap members_view (none_left c.members.rest.now c.in_default.ensures.cases)) c.members.invariant.grow
