use Rattle.std.proofs.Common.{ap, sym, subst, Option, ◌∙◌}
use Rattle.document_parts.specs.Documents.{Snapshot}
use Rattle.metadata.specs.File.{File}
use Rattle.metadata.specs.FileViews.{root_file, snapshot_file}
use Rattle.delegations.specs.Rows.{Rows}
use Rattle.delegations.specs.Search.{Shelf, shelf_of}
use Rattle.delegations.specs.Verdicts.{AreListed, AreTrue, AreOfRows, IsComplete}
use Rattle.delegations.specs.Views.{shelf_view}
use Rattle.trusted_state.specs.Knowing.{IsKnown}
use Rattle.trusted_state.specs.Views.{draft_view}
use Rattle.trust_rules.specs.steps.Pruning.{AreAtListed}
use Rattle.trusted_state.proofs.Carrying.{known_over, ok_all, ok_one}
use Rattle.trusted_state.proofs.knowing.draft_verdicts.Goals as goal

pub returns-clause-known : goal.returns-clause-known
returns-clause-known c =
    let T = draft_view c.args.draft.now in
    let root = root_file c.in-Some.root.now in
    let snap = snapshot_file c.in-Some-snapshot.snapshot.now in
    let V = shelf_view c.new-shelf.result in
    let is = c.new-shelf.ensures.shelf ∙ ap (λ (r : Rows). shelf_of root snap r) c.rows.ensures.view in
    ok_all (AreTrue V.rows) (AreOfRows V.rows) (IsComplete V) (IsKnown T) c.all_verdicts.result
    (λ t sound rows complete. known_over T root snap V t c.in-Some.ensures (sym c.in-Some-snapshot.ensures) is sound rows complete)
    c.all_verdicts.ensures.sound c.all_verdicts.ensures.rows c.all_verdicts.ensures.complete

pub returns-clause-listed : goal.returns-clause-listed
returns-clause-listed c =
    let T = draft_view c.args.draft.now in
    let root = root_file c.in-Some.root.now in
    let snap = snapshot_file c.in-Some-snapshot.snapshot.now in
    let is = c.new-shelf.ensures.shelf in
    ok_one (AreListed (shelf_view c.new-shelf.result).listing) (AreAtListed T.snapshot) c.all_verdicts.result
    (λ t listed. subst (λ (o : Option (File Snapshot)). AreAtListed o t) c.in-Some-snapshot.ensures
    (subst (λ (V : Shelf). AreListed V.listing t) is listed)) c.all_verdicts.ensures.listed
