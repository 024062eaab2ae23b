use Rattle.std.proofs.Common.{◌≡◌, ◌<◌, ℕ, Ok, Err, true, false, subst}
use Rattle.metadata.specs.FileViews.{root_file}
use Rattle.denials.specs.Orders.{pass, decide, holds, fails, differs, same, given}
use Rattle.delegations.specs.Delegation.{before}
use Rattle.delegations.specs.Rows.{with_row}
use Rattle.limits.specs.Limits.{most_held}
use Rattle.denials.specs.declared.denial.Denial.TheVariants.{NoRoot, BlobLength, DigestMismatch, Full}
use Rattle.trusted_state.specs.declared.refusal.Refusal.TheVariants.{Denied}
use Rattle.trust_rules.specs.Offers.{put_blob}
use Rattle.repository_rows.specs.Contents.{lengths_of}
use Rattle.trust_rules.specs.State.{State}
use Rattle.trusted_state.specs.PartViews.{length_views}
use Rattle.trusted_state.specs.steps.Judging.{Judges, accepts, keeps, rejects}
use Rattle.trust_rules.proofs.OrderLines.{yes, no}
use Rattle.judging.proofs.OneMoreBlob.{there, not_there}
use Rattle.trust_rules.proofs.HeldStates.{as_many, is_there, lengths_are, same_trusted_held, seen_so}
use Rattle.judging.proofs.blobs.judge_blob.Goals as goal

pub returns-then-is_none : goal.returns-then-is_none
returns-then-is_none c S valid is =
    subst (λ (T : State). Judges (put_blob T c.args.digest.now.0 c.args.bytes.now) (record T { blobs = with_row before T.blobs c.args.digest.now.0 c.args.bytes.now }) (Err (Denied NoRoot)))
    (seen_so S (same_trusted_held S is c.trusted.ensures.view))
    (rejects (not_there root_file _ c.trusted.result.now.root c.if-is_none.ensures))

pub returns-then-not-is_short : goal.returns-then-not-is_short
returns-then-not-is_short c S valid is =
    subst (λ (T : State). Judges (put_blob T c.args.digest.now.0 c.args.bytes.now) (record T { blobs = with_row before T.blobs c.args.digest.now.0 c.args.bytes.now }) (Err (Denied BlobLength)))
    (seen_so S (same_trusted_held S is c.trusted.ensures.view))
    (rejects (there root_file _ c.trusted.result.now.root c.if-is_none.ensures (decide (fails (no c.if-not-is_short.ensures)))))

pub returns-then-not-is_digest_of : goal.returns-then-not-is_digest_of
returns-then-not-is_digest_of c S valid is =
    subst (λ (T : State). Judges (put_blob T c.args.digest.now.0 c.args.bytes.now) (record T { blobs = with_row before T.blobs c.args.digest.now.0 c.args.bytes.now }) (Err (Denied DigestMismatch)))
    (seen_so S (same_trusted_held S is c.trusted.ensures.view))
    (rejects (there root_file _ c.trusted.result.now.root c.if-is_none.ensures (pass (holds (yes c.if-not-is_short.ensures)) (decide (fails (no c.if-not-is_digest_of.ensures))))))

pub returns-then-has_blob : goal.returns-then-has_blob
returns-then-has_blob c S valid is =
    let at : lengths_of S.blobs ≡ length_views c.lengths.result.now = lengths_are S is c.lengths.ensures.view in
    subst (λ (T : State). Judges (put_blob T c.args.digest.now.0 c.args.bytes.now) (record T { blobs = with_row before T.blobs c.args.digest.now.0 c.args.bytes.now }) (Ok false))
    (seen_so S (same_trusted_held S is c.trusted.ensures.view))
    (keeps (there root_file _ c.trusted.result.now.root c.if-is_none.ensures (pass (holds (yes c.if-not-is_short.ensures)) (pass (holds (yes c.if-not-is_digest_of.ensures))
    (decide (same ((is_there S c.args.digest.now.0 at).0 (yes c.if-has_blob.ensures))))))))

pub returns-then-not-has_room : goal.returns-then-not-has_room
returns-then-not-has_room c S valid is =
    let at : lengths_of S.blobs ≡ length_views c.lengths.result.now = lengths_are S is c.lengths.ensures.view in
    let at_two : lengths_of S.blobs ≡ length_views c.lengths-2.result.now = lengths_are S is c.lengths-2.ensures.view in
    subst (λ (T : State). Judges (put_blob T c.args.digest.now.0 c.args.bytes.now) (record T { blobs = with_row before T.blobs c.args.digest.now.0 c.args.bytes.now }) (Err (Denied Full)))
    (seen_so S (same_trusted_held S is c.trusted.ensures.view))
    (rejects (there root_file _ c.trusted.result.now.root c.if-is_none.ensures (pass (holds (yes c.if-not-is_short.ensures)) (pass (holds (yes c.if-not-is_digest_of.ensures))
    (pass (differs (λ h. no c.if-has_blob.ensures ((is_there S c.args.digest.now.0 at).1 h)))
    (decide (fails (subst (λ (n : ℕ). ¬ (n < most_held)) (as_many S at_two) (no c.if-not-has_room.ensures)))))))))

pub returns : goal.returns
returns c S valid is =
    let at : lengths_of S.blobs ≡ length_views c.lengths.result.now = lengths_are S is c.lengths.ensures.view in
    let at_two : lengths_of S.blobs ≡ length_views c.lengths-2.result.now = lengths_are S is c.lengths-2.ensures.view in
    subst (λ (T : State). Judges (put_blob T c.args.digest.now.0 c.args.bytes.now) (record T { blobs = with_row before T.blobs c.args.digest.now.0 c.args.bytes.now }) (Ok true))
    (seen_so S (same_trusted_held S is c.trusted.ensures.view))
    (accepts (there root_file _ c.trusted.result.now.root c.if-is_none.ensures (pass (holds (yes c.if-not-is_short.ensures)) (pass (holds (yes c.if-not-is_digest_of.ensures))
    (pass (differs (λ h. no c.if-has_blob.ensures ((is_there S c.args.digest.now.0 at).1 h)))
    (pass (holds (subst (λ (n : ℕ). n < most_held) (as_many S at_two) (yes c.if-not-has_room.ensures))) given))))))
