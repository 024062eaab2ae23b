use Rattle.metadata.specs.FileViews.{targets_file}
use Rattle.document_parts.specs.Views.{meta_view}
use Rattle.delegations.proofs.Visits.{unlisted, missing, other_length, other_hash, unmet, expired, good, refuted}
use Rattle.delegations.specs.Views.{shelf_view, edge_view}
use Rattle.std.proofs.Common.{List, sym, subst}
use Rattle.keys_roles.specs.Verdicts.{AreVerdicts, Verdict}
use Rattle.delegations.specs.Views.{table_view}
use Rattle.delegations.proofs.TrueVerdicts.{true_at}
use Rattle.delegations.proofs.visiting.visit.Goals as goal

pub returns-in_default-clause-answer : goal.returns-in_default-clause-answer
returns-in_default-clause-answer c = unlisted (shelf_view c.args.shelf.now) (edge_view c.args.edge.now) c.args.now c.in_default.ensures

pub returns-in_default-row_at-clause-answer : goal.returns-in_default-row_at-clause-answer
returns-in_default-row_at-clause-answer c =
    missing (shelf_view c.args.shelf.now) (edge_view c.args.edge.now) c.args.now (meta_view c.in-Some.entry.now) c.in-Some.ensures c.in_default-row_at.ensures

pub returns-then-not-has_length-clause-answer : goal.returns-then-not-has_length-clause-answer
returns-then-not-has_length-clause-answer c =
    other_length (shelf_view c.args.shelf.now) (edge_view c.args.edge.now) c.args.now (meta_view c.in-Some.entry.now) c.in-Some.ensures
    (targets_file c.in-Some-row_at.file.now) c.in-Some-row_at.ensures (refuted c.has_length.result c.has_length.ensures c.if-not-has_length.true)

pub returns-then-not-has_hash-clause-answer : goal.returns-then-not-has_hash-clause-answer
returns-then-not-has_hash-clause-answer c =
    other_hash (shelf_view c.args.shelf.now) (edge_view c.args.edge.now) c.args.now (meta_view c.in-Some.entry.now) c.in-Some.ensures
    (targets_file c.in-Some-row_at.file.now) c.in-Some-row_at.ensures (c.has_length.ensures.0 c.if-not-has_length.false)
    (refuted c.has_hash.result c.has_hash.ensures c.if-not-has_hash.true)

pub returns-then-not-meets_edge-clause-answer : goal.returns-then-not-meets_edge-clause-answer
returns-then-not-meets_edge-clause-answer c =
    unmet (shelf_view c.args.shelf.now) (edge_view c.args.edge.now) c.args.now (meta_view c.in-Some.entry.now) c.in-Some.ensures
    (targets_file c.in-Some-row_at.file.now) c.in-Some-row_at.ensures (c.has_length.ensures.0 c.if-not-has_length.false)
    (c.has_hash.ensures.0 c.if-not-has_hash.false) (refuted c.meets_edge.result c.meets_edge.ensures.met c.if-not-meets_edge.true)

pub returns-then-live-clause-answer : goal.returns-then-live-clause-answer
returns-then-live-clause-answer c =
    good (shelf_view c.args.shelf.now) (edge_view c.args.edge.now) c.args.now (meta_view c.in-Some.entry.now) c.in-Some.ensures
    (targets_file c.in-Some-row_at.file.now) c.in-Some-row_at.ensures (c.has_length.ensures.0 c.if-not-has_length.false)
    (c.has_hash.ensures.0 c.if-not-has_hash.false) (c.meets_edge.ensures.met.0 c.if-not-meets_edge.false) (c.live.ensures.0 c.if-live.true)

pub returns-else-live-clause-answer : goal.returns-else-live-clause-answer
returns-else-live-clause-answer c =
    expired (shelf_view c.args.shelf.now) (edge_view c.args.edge.now) c.args.now (meta_view c.in-Some.entry.now) c.in-Some.ensures
    (targets_file c.in-Some-row_at.file.now) c.in-Some-row_at.ensures (c.has_length.ensures.0 c.if-not-has_length.false)
    (c.has_hash.ensures.0 c.if-not-has_hash.false) (c.meets_edge.ensures.met.0 c.if-not-meets_edge.false) (refuted c.live.result c.live.ensures c.if-live.false)

pub meets_edge-requires-clause-sound : goal.meets_edge-requires-clause-sound
meets_edge-requires-clause-sound c =
    let file = targets_file c.in-Some-row_at.file.now in
    subst (λ (vs : List Verdict). AreVerdicts file.signed file.entries vs) (sym c.of_row-known.ensures)
    (true_at (shelf_view c.args.shelf.now).rows (table_view c.args.known.now) c.requires.sound c.args.edge.now.role.now c.in-Some.entry.now.version file (sym c.in-Some-row_at.ensures))
