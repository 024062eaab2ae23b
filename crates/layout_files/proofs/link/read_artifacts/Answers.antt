use Rattle.std.proofs.Common.{ℕ, List}
use Rattle.canonical_json.specs.View.{view, members_view}
use Rattle.document_parts.specs.Bodies.{IsArtifact}
use Rattle.layout_files.specs.steps.Spelled.{artifact_view, artifact_views}
use Rattle.document_parts.proofs.Halving.{members_in_order, seen_in_order}
use Rattle.layout_files.proofs.link.read_artifacts.Goals as goal

pub invariant_of-result : goal.invariant_of-result
invariant_of-result c =
    let v = view c.args.value.now in
    let listed = members_in_order IsArtifact (λ a. a.0) (λ n v a h. h.0) v (artifact_views c.in_ok-rows.rows.items) c.requires
    (members_view c.in-Some.members.now, c.in-Some.ensures, c.in_ok-rows.ensures.ok) in
    record { in_order = seen_in_order artifact_view (λ (a : List ℕ × List ℕ). a.0) c.in_ok-rows.rows.items listed }
