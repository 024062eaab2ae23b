use Rattle.std.proofs.Common.{length}
use Rattle.canonical_json.specs.View.{members_view}
use Rattle.document_parts.specs.Bodies.{IsArtifact}
use Rattle.layout_files.specs.steps.Spelled.{artifact_views}
use Rattle.document_parts.proofs.Growing.{MembersGrow, MembersLeft}
use Rattle.layout_files.proofs.link.read_rows.Given as goal

abbrev pub invariant-members : goal.invariant-members
invariant-members l = record {
  grow : MembersGrow IsArtifact (members_view l.fn.members) (members_view l.rest) (artifact_views l.rows.items);
  left : MembersLeft IsArtifact (members_view l.fn.members) (members_view l.rest);
}

abbrev pub decreases-members : goal.decreases-members
decreases-members l = length l.rest
