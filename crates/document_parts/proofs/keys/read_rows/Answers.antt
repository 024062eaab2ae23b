use Rattle.document_parts.proofs.Elements.{none_left}
use Rattle.std.proofs.Common.{refl, ap, inr, string_bytes}
use Rattle.canonical_json.specs.View.{view, members_view}
use Rattle.document_parts.specs.Parts.{IsRow}
use Rattle.document_parts.specs.steps.Tables.{spelled_rows}
use Rattle.document_parts.proofs.Growing.{members_fail, members_done}
use Rattle.document_parts.proofs.keys.read_rows.Goals as goal

pub returns-in_default-read_key-clause-err : goal.returns-in_default-read_key-clause-err
returns-in_default-read_key-clause-err c =
    inr (
      refl,
      members_fail IsRow (members_view c.args.members.now) (members_view c.members.rest.now) (members_view c.in-Some.later.now)
          (string_bytes c.in-Some.member.now.0) (view c.in-Some.member.now.1)
          (ap members_view c.in-Some.ensures.cases.0) c.members.invariant.left (λ e is. c.in_default-read_key.ensures e.1 is.1),
    )

pub returns-clause-ok : goal.returns-clause-ok
returns-clause-ok c =
    members_done IsRow (members_view c.args.members.now) (members_view c.members.rest.now) (spelled_rows c.members.rows.items) (ap members_view (none_left c.members.rest.now c.in_default.ensures.cases)) c.members.invariant.grow
