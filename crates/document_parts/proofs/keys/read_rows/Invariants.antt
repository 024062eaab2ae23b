use Rattle.std.proofs.Common.{length}
use Rattle.canonical_json.specs.View.{members_view}
use Rattle.document_parts.specs.Parts.{IsRow}
use Rattle.document_parts.specs.steps.Tables.{spelled_rows}
use Rattle.document_parts.proofs.Growing.{MembersGrow, MembersLeft}
use Rattle.document_parts.proofs.keys.read_rows.Given as goal

abbrev pub invariant-members : goal.invariant-members
invariant-members l = record {
  grow : MembersGrow IsRow (members_view l.fn.members) (members_view l.rest) (spelled_rows l.rows.items);
  left : MembersLeft IsRow (members_view l.fn.members) (members_view l.rest);
}

abbrev pub decreases-members : goal.decreases-members
decreases-members l = length l.rest
