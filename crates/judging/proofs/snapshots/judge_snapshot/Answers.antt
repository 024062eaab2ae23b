use Rattle.std.proofs.Common.{◌≡◌, Ok, Err, Some, subst, Bor}
use Rattle.std.proofs.lemmas.Result.{err_from_is_err_and}
use Rattle.std.specs.Option.{option_map}
use Rattle.metadata.specs.declared.file.File.{File}
use Rattle.document_parts.specs.declared.documents.Timestamp.{Timestamp}
use Rattle.metadata.specs.FileViews.{root_file, timestamp_file, snapshot_file}
use Rattle.denials.specs.Orders.{pass, decide, holds, fails, differs, same, given}
use Rattle.trusted_state.specs.Answers.{Gives}
use Rattle.trusted_state.specs.steps.Judging.{accepts, keeps, rejects}
use Rattle.trust_rules.specs.Offers.{after_snapshot, live_timestamp}
use Rattle.trust_rules.proofs.OrderLines.{yes, no}
use Rattle.trusted_state.proofs.OrderSteps.{given_by, rejected_in, rejected_behind}
use Rattle.judging.proofs.snapshots.judge_snapshot.Goals as goal

pub returns-in_err-timestamp : goal.returns-in_err-timestamp
returns-in_err-timestamp c =
    let p = err_from_is_err_and c.from_residual.result c.from_residual.ensures.1 in
    rw (p.1, p.2) (rejected_in (subst (λ o. Gives (live_timestamp o (root_file c.args.root.now) c.args.now) (λ (f : Bor (File Timestamp)). timestamp_file f.now) (Err c.in_err-timestamp.field-0.0)) c.timestamp.ensures c.in_err-timestamp.ensures))

pub returns-in_err-named_snapshot : goal.returns-in_err-named_snapshot
returns-in_err-named_snapshot c =
    let p = err_from_is_err_and c.from_residual-in_err-named_snapshot.result c.from_residual-in_err-named_snapshot.ensures.1 in
    rw (p.1, p.2) (rejected_behind _ (subst (λ o. live_timestamp o (root_file c.args.root.now) c.args.now (Ok (timestamp_file c.in_ok-timestamp.timestamp.now))) c.timestamp.ensures (given_by c.in_ok-timestamp.ensures)) (rejected_in c.in_err-named_snapshot.ensures))

pub returns-in_err-after_snapshot : goal.returns-in_err-after_snapshot
returns-in_err-after_snapshot c =
    let p = err_from_is_err_and c.from_residual-in_err-after_snapshot.result c.from_residual-in_err-after_snapshot.ensures.1 in
    rw (p.1, p.2) (rejected_behind _ (subst (λ o. live_timestamp o (root_file c.args.root.now) c.args.now (Ok (timestamp_file c.in_ok-timestamp.timestamp.now))) c.timestamp.ensures (given_by c.in_ok-timestamp.ensures)) (rejected_behind tt (given_by c.in_ok-named_snapshot.ensures)
    (rejected_in (subst (λ o. Gives (after_snapshot o (snapshot_file c.args.new.now)) (λ u. u) (Err c.in_err-after_snapshot.field-0.0)) c.snapshot.ensures c.in_err-after_snapshot.ensures))))

pub returns-then-not-live : goal.returns-then-not-live
returns-then-not-live c =
    rejects (pass (subst (λ o. live_timestamp o (root_file c.args.root.now) c.args.now (Ok (timestamp_file c.in_ok-timestamp.timestamp.now))) c.timestamp.ensures (given_by c.in_ok-timestamp.ensures))
    (pass (given_by c.in_ok-named_snapshot.ensures) (pass (subst (λ o. after_snapshot o (snapshot_file c.args.new.now) (Ok tt)) c.snapshot.ensures (given_by c.in_ok-after_snapshot.ensures)) (decide (fails (no c.if-not-live.ensures))))))

pub returns-then-has_bytes : goal.returns-then-has_bytes
returns-then-has_bytes c =
    keeps (pass (subst (λ o. live_timestamp o (root_file c.args.root.now) c.args.now (Ok (timestamp_file c.in_ok-timestamp.timestamp.now))) c.timestamp.ensures (given_by c.in_ok-timestamp.ensures))
    (pass (given_by c.in_ok-named_snapshot.ensures) (pass (subst (λ o. after_snapshot o (snapshot_file c.args.new.now) (Ok tt)) c.snapshot.ensures (given_by c.in_ok-after_snapshot.ensures)) (pass (holds (yes c.if-not-live.ensures))
    (decide (same (subst (λ o. option_map (λ f. f.bytes) o ≡ Some c.args.new.now.source.bytes) c.snapshot-2.ensures (rw (← c.bytes.ensures) (yes c.if-has_bytes.ensures)))))))))

pub returns : goal.returns
returns c =
    accepts (pass (subst (λ o. live_timestamp o (root_file c.args.root.now) c.args.now (Ok (timestamp_file c.in_ok-timestamp.timestamp.now))) c.timestamp.ensures (given_by c.in_ok-timestamp.ensures))
    (pass (given_by c.in_ok-named_snapshot.ensures) (pass (subst (λ o. after_snapshot o (snapshot_file c.args.new.now) (Ok tt)) c.snapshot.ensures (given_by c.in_ok-after_snapshot.ensures)) (pass (holds (yes c.if-not-live.ensures))
    (pass (differs (subst (λ o. ¬ (option_map (λ f. f.bytes) o ≡ Some c.args.new.now.source.bytes)) c.snapshot-2.ensures (rw (← c.bytes.ensures) (no c.if-has_bytes.ensures)))) given)))))
