use Rattle.std.proofs.Common.{ℕ, true≢false, sym, ap, ◌∙◌, subst}
use Rattle.std.proofs.lemmas.Result.{err_from_is_err_and}
use Rattle.metadata.specs.FileViews.{root_file, snapshot_file, targets_file}
use Rattle.denials.specs.Orders.{pass, decide, holds, fails}
use Rattle.document_parts.specs.Views.{meta_view}
use Rattle.delegations.specs.Search.{Shelf, Vouched, shelf_of}
use Rattle.delegations.specs.Rows as shelves
use Rattle.delegations.specs.Rows.{with_row, place_before}
use Rattle.delegations.specs.Verdicts.{AreFoundOut}
use Rattle.trusted_state.specs.steps.Judging.{Judges, rejects, stops}
use Rattle.trust_rules.specs.Offers.{placed}
use Rattle.trusted_state.specs.Views.{draft_view}
use Rattle.trust_rules.proofs.OrderLines.{yes, no, needed, lacking}
use Rattle.trusted_state.proofs.OrderSteps.{given_by, rejected_in, rejected_behind}
use Rattle.trusted_state.proofs.ShelfPlaces.{live_as, named_version, judged_behind}
use Rattle.judging.proofs.targets_metadata.judge_targets.Goals as goal

pub returns-in_err-snapshot-clause-judged : goal.returns-in_err-snapshot-clause-judged
returns-in_err-snapshot-clause-judged c =
    let p = err_from_is_err_and c.from_residual.result c.from_residual.ensures.1 in
    rw (p.1, p.2) (rejected_in (live_as (root_file c.args.root.now) c.timestamp.ensures c.snapshot.ensures c.in_err-snapshot.ensures.answer))

pub returns-in_default-clause-judged : goal.returns-in_default-clause-judged
returns-in_default-clause-judged c = rejects (pass (given_by (live_as (root_file c.args.root.now) c.timestamp.ensures c.snapshot.ensures c.in_ok-snapshot.ensures.answer)) (decide (lacking _ _ (rw (← c.as_str.ensures.value) (sym c.in_default.ensures)))))

pub returns-in_err-named_targets-clause-judged : goal.returns-in_err-named_targets-clause-judged
returns-in_err-named_targets-clause-judged c =
    let p = err_from_is_err_and c.from_residual-in_err-named_targets.result c.from_residual-in_err-named_targets.ensures.1 in
    rw (p.1, p.2) (rejected_behind _ (given_by (live_as (root_file c.args.root.now) c.timestamp.ensures c.snapshot.ensures c.in_ok-snapshot.ensures.answer)) (rejected_behind _ (needed _ _ (meta_view c.in-Some.entry.now) (rw (← c.as_str.ensures.value) (sym c.in-Some.ensures))) (rejected_in c.in_err-named_targets.ensures)))

pub returns-in_err-vouched-clause-judged : goal.returns-in_err-vouched-clause-judged
returns-in_err-vouched-clause-judged c =
    let p = err_from_is_err_and c.from_residual-in_err-vouched.result c.from_residual-in_err-vouched.ensures.1 in
    rw (p.1, p.2) stops

pub returns-then-not-branch-clause-judged : goal.returns-then-not-branch-clause-judged
returns-then-not-branch-clause-judged c =
    rejects (pass (given_by (live_as (root_file c.args.root.now) c.timestamp.ensures c.snapshot.ensures c.in_ok-snapshot.ensures.answer)) (pass (needed _ _ (meta_view c.in-Some.entry.now) (rw (← c.as_str.ensures.value) (sym c.in-Some.ensures))) (pass (given_by c.in_ok-named_targets.ensures)
    (decide (fails (subst (λ (V : Shelf). ¬ Vouched V c.args.role.now (targets_file c.args.new.now) c.args.now) (c.new-shelf.ensures.shelf ∙ ap (λ (r : shelves.Rows). shelf_of (root_file c.args.root.now) (snapshot_file c.in_ok-snapshot.snapshot.now) r) c.rows.ensures.view) (λ v. true≢false (sym (c.in_ok-vouched.ensures.vouched.1 v) ∙ c.if-not-branch.true))))))))

pub returns-then-not-live-clause-judged : goal.returns-then-not-live-clause-judged
returns-then-not-live-clause-judged c =
    rejects (pass (given_by (live_as (root_file c.args.root.now) c.timestamp.ensures c.snapshot.ensures c.in_ok-snapshot.ensures.answer)) (pass (needed _ _ (meta_view c.in-Some.entry.now) (rw (← c.as_str.ensures.value) (sym c.in-Some.ensures))) (pass (given_by c.in_ok-named_targets.ensures)
    (pass (holds (subst (λ (V : Shelf). Vouched V c.args.role.now (targets_file c.args.new.now) c.args.now) (c.new-shelf.ensures.shelf ∙ ap (λ (r : shelves.Rows). shelf_of (root_file c.args.root.now) (snapshot_file c.in_ok-snapshot.snapshot.now) r) c.rows.ensures.view) (c.in_ok-vouched.ensures.vouched.0 c.if-not-branch.false)))
    (decide (fails (no c.if-not-live.ensures)))))))

pub returns-clause-judged : goal.returns-clause-judged
returns-clause-judged c =
    judged_behind _ (given_by (live_as (root_file c.args.root.now) c.timestamp.ensures c.snapshot.ensures c.in_ok-snapshot.ensures.answer)) (judged_behind _ (needed _ _ (meta_view c.in-Some.entry.now) (rw (← c.as_str.ensures.value) (sym c.in-Some.ensures))) (judged_behind tt (given_by c.in_ok-named_targets.ensures)
    (judged_behind tt (holds (subst (λ (V : Shelf). Vouched V c.args.role.now (targets_file c.args.new.now) c.args.now) (c.new-shelf.ensures.shelf ∙ ap (λ (r : shelves.Rows). shelf_of (root_file c.args.root.now) (snapshot_file c.in_ok-snapshot.snapshot.now) r) c.rows.ensures.view) (c.in_ok-vouched.ensures.vouched.0 c.if-not-branch.false)))
    (judged_behind tt (holds (yes c.if-not-live.ensures))
    (subst (λ (v : ℕ). Judges (placed (draft_view c.args.draft.now) c.args.role.now v (targets_file c.args.new.now))
    (record (draft_view c.args.draft.now) { shelf = with_row place_before (draft_view c.args.draft.now).shelf (c.args.role.now, c.args.new.now.body.version) (targets_file c.args.new.now) }) c.placed.result)
    (named_version (meta_view c.in-Some.entry.now) (targets_file c.args.new.now) (given_by c.in_ok-named_targets.ensures)) c.placed.ensures.judged)))))

-- what is known of the rows of the search is known of those of the draft
pub vouched-requires : goal.vouched-requires
vouched-requires c = subst (λ (rows : shelves.Rows). AreFoundOut rows c.args.known.now) (sym (ap (λ (V : Shelf). V.rows) c.new-shelf.ensures.shelf ∙ c.rows.ensures.view)) c.requires

pub returns-in_err-vouched-clause-known : goal.returns-in_err-vouched-clause-known
returns-in_err-vouched-clause-known c = subst (λ (rows : shelves.Rows). AreFoundOut rows c.vouched.new.known) (ap (λ (V : Shelf). V.rows) c.new-shelf.ensures.shelf ∙ c.rows.ensures.view) c.in_err-vouched.ensures.known

pub returns-then-not-branch-clause-known : goal.returns-then-not-branch-clause-known
returns-then-not-branch-clause-known c = subst (λ (rows : shelves.Rows). AreFoundOut rows c.vouched.new.known) (ap (λ (V : Shelf). V.rows) c.new-shelf.ensures.shelf ∙ c.rows.ensures.view) c.in_ok-vouched.ensures.known

pub returns-then-not-live-clause-known : goal.returns-then-not-live-clause-known
returns-then-not-live-clause-known c = subst (λ (rows : shelves.Rows). AreFoundOut rows c.vouched.new.known) (ap (λ (V : Shelf). V.rows) c.new-shelf.ensures.shelf ∙ c.rows.ensures.view) c.in_ok-vouched.ensures.known

pub returns-clause-known : goal.returns-clause-known
returns-clause-known c = subst (λ (rows : shelves.Rows). AreFoundOut rows c.vouched.new.known) (ap (λ (V : Shelf). V.rows) c.new-shelf.ensures.shelf ∙ c.rows.ensures.view) c.in_ok-vouched.ensures.known
