use Rattle.std.proofs.Common.{Ok, Err, arith, refl, subst}
use Rattle.std.proofs.lemmas.Result.{err_from_is_err_and}
use Rattle.document_parts.specs.Views.{listing_view}
use Rattle.denials.specs.Orders.{decide, fails as failing, given, holds, pass}
use Rattle.trust_rules.specs.Grants.{Listed, HasLongSupport, blob_of}
use Rattle.granting.specs.steps.Permitting.{at_once, denies, finds, listed_view}
use Rattle.trust_rules.specs.Held.{bytes_at}
use Rattle.trust_rules.proofs.HeldStates.{lengths_are}
use Rattle.granting.proofs.LoadedFiles.{finds_behind, finds_in, found_by, reads_none, refused_in, stands_by, told_err}
use Rattle.trust_rules.proofs.OneJudgement.{blob_of-definite, listed-definite}
use Rattle.trust_rules.proofs.OrderLines.{no, yes}
use Rattle.trusted_state.proofs.OrderSteps.{given_by}
use Rattle.granting.proofs.ShortFiles.{not_refused, one_given, shape_denial}
use Rattle.granting.proofs.Counting.{counted_behind}
use Rattle.granting.proofs.TargetFiles.{lists_at, no_layout_there, refuses_at, some_layout}
use Rattle.granting.proofs.getting.permitted.Goals as goal

pub returns-in_err-at-clause-stands : goal.returns-in_err-at-clause-stands
returns-in_err-at-clause-stands g c =
    let p = err_from_is_err_and c.from_residual.result c.from_residual.ensures.1 in
    rw (p.1) (at_once refl (λ S valid is. (refused_in c.in_err-at.field-0.0 _ p.2 (refuses_at S is c.in_err-at.ensures.answer))))

pub returns-in_err-at-clause-reads : goal.returns-in_err-at-clause-reads
returns-in_err-at-clause-reads g c = reads_none _

pub returns-in_err-digest-clause-stands : goal.returns-in_err-digest-clause-stands
returns-in_err-digest-clause-stands g c =
    let p = err_from_is_err_and c.from_residual-in_err-digest.result c.from_residual-in_err-digest.ensures.1 in
    rw (p.1) (at_once refl (λ S valid is.
    finds_behind (listed_view c.in_ok-at.at) (lists_at S is (given_by c.in_ok-at.ensures.answer))
    (refused_in c.in_err-digest.field-0.0 _ p.2 (c.in_err-digest.ensures.answer S (lengths_are S is c.lengths.ensures.view)))))

pub returns-in_err-digest-clause-reads : goal.returns-in_err-digest-clause-reads
returns-in_err-digest-clause-reads g c = reads_none _

pub returns-in_err-judge_layout-clause-stands : goal.returns-in_err-judge_layout-clause-stands
returns-in_err-judge_layout-clause-stands g c =
    let p = err_from_is_err_and c.from_residual-in_err-judge_layout.result c.from_residual-in_err-judge_layout.ensures.1 in
    let lists = given_by c.in_ok-at.ensures.answer in
    rw (p.1, p.2) (stands_by (Err c.in_err-judge_layout.field-0.0) (Err c.in_err-judge_layout.field-0.0)
    (told_err c.in_err-judge_layout.field-0.0 (λ l. (l.0, record { at = listed_view c.in_ok-at.at; lists = lists; layout = some_layout _ c.in_ok-at.at.listing.now.layout l.1 })))
    (λ S valid is h.
    finds_behind (listed_view c.in_ok-at.at) (lists_at S is lists)
    (finds_behind (bytes_at S c.in_ok-digest.digest.0) (given_by (c.in_ok-digest.ensures.answer S (lengths_are S is c.lengths.ensures.view))) (finds_in h)))
    c.in_err-judge_layout.ensures.stands)

pub returns-then-not-is_asked-clause-stands : goal.returns-then-not-is_asked-clause-stands
returns-then-not-is_asked-clause-stands g c =
    let lists = given_by c.in_ok-at.ensures.answer in
    stands_by (Ok c.in_ok-judge_layout.field-0) _
    (λ l. ((l.0, record { at = listed_view c.in_ok-at.at; lists = lists; layout = some_layout _ c.in_ok-at.at.listing.now.layout l.1 }), refl))
    (λ S valid is h.
    finds_behind (listed_view c.in_ok-at.at) (lists_at S is lists)
    (finds_behind (bytes_at S c.in_ok-digest.digest.0) (given_by (c.in_ok-digest.ensures.answer S (lengths_are S is c.lengths.ensures.view)))
    (denies (pass (found_by h) (decide (failing (no c.if-not-is_asked.ensures)))))))
    c.in_ok-judge_layout.ensures.stands

pub returns-clause-stands : goal.returns-clause-stands
returns-clause-stands g c =
    let lists = given_by c.in_ok-at.ensures.answer in
    stands_by (Ok c.in_ok-judge_layout.field-0) _
    (λ l. (l.0, record { at = listed_view c.in_ok-at.at; lists = lists; layout = some_layout _ c.in_ok-at.at.listing.now.layout l.1 }))
    (λ S valid is h.
    finds_behind (listed_view c.in_ok-at.at) (lists_at S is lists)
    (finds_behind (bytes_at S c.in_ok-digest.digest.0) (given_by (c.in_ok-digest.ensures.answer S (lengths_are S is c.lengths.ensures.view)))
    (finds (pass (found_by h) (pass (holds (yes c.if-not-is_asked.ensures)) given)))))
    c.in_ok-judge_layout.ensures.stands

pub returns-in_err-judge_layout-clause-counted : goal.returns-in_err-judge_layout-clause-counted
returns-in_err-judge_layout-clause-counted g c =
    let finds = c.find_listing.ensures in
    let judges = c.judge_layout.ensures in
    let lists = given_by c.in_ok-at.ensures.answer in
    counted_behind _ _ _ _ _ _ _ finds.grows finds.most finds.few finds.free judges.grows
    (λ none. judges.unticked (no_layout_there c.in_ok-at.at.listing.now.layout (λ there. none (record { at = listed_view c.in_ok-at.at; lists = lists; layout = some_layout _ c.in_ok-at.at.listing.now.layout there }))))
    (λ wants. let w = c.in_ok-at.ensures.wanted wants in judges.free w.0 w.1)

pub returns-in_err-judge_layout-clause-reads : goal.returns-in_err-judge_layout-clause-reads
returns-in_err-judge_layout-clause-reads g c = c.judge_layout.ensures.reads

pub returns-then-not-is_asked-clause-counted : goal.returns-then-not-is_asked-clause-counted
returns-then-not-is_asked-clause-counted g c =
    let finds = c.find_listing.ensures in
    let judges = c.judge_layout.ensures in
    let lists = given_by c.in_ok-at.ensures.answer in
    counted_behind _ _ _ _ _ _ _ finds.grows finds.most finds.few finds.free judges.grows
    (λ none. judges.unticked (no_layout_there c.in_ok-at.at.listing.now.layout (λ there. none (record { at = listed_view c.in_ok-at.at; lists = lists; layout = some_layout _ c.in_ok-at.at.listing.now.layout there }))))
    (λ wants. let w = c.in_ok-at.ensures.wanted wants in judges.free w.0 w.1)

pub returns-then-not-is_asked-clause-reads : goal.returns-then-not-is_asked-clause-reads
returns-then-not-is_asked-clause-reads g c = c.judge_layout.ensures.reads

pub returns-clause-counted : goal.returns-clause-counted
returns-clause-counted g c =
    let finds = c.find_listing.ensures in
    let judges = c.judge_layout.ensures in
    let lists = given_by c.in_ok-at.ensures.answer in
    counted_behind _ _ _ _ _ _ _ finds.grows finds.most finds.few finds.free judges.grows
    (λ none. judges.unticked (no_layout_there c.in_ok-at.at.listing.now.layout (λ there. none (record { at = listed_view c.in_ok-at.at; lists = lists; layout = some_layout _ c.in_ok-at.at.listing.now.layout there }))))
    (λ wants. let w = c.in_ok-at.ensures.wanted wants in judges.free w.0 w.1)

pub returns-clause-reads : goal.returns-clause-reads
returns-clause-reads g c = c.judge_layout.ensures.reads

pub returns-in_err-at-clause-long : goal.returns-in_err-at-clause-long
returns-in_err-at-clause-long g c S valid is long =
    let p = err_from_is_err_and c.from_residual.result c.from_residual.ensures.1 in
    rw (p.1) (refl, not_refused (Unit {0}) c.in_err-at.field-0.0 p.0 (listed-definite S.trusted c.args.path.now c.args.now) long.lists p.2 (refuses_at S is c.in_err-at.ensures.answer))

pub returns-in_err-digest-clause-long : goal.returns-in_err-digest-clause-long
returns-in_err-digest-clause-long g c S valid is long =
    let p = err_from_is_err_and c.from_residual-in_err-digest.result c.from_residual-in_err-digest.ensures.1 in
    let at = one_given (listed-definite S.trusted c.args.path.now c.args.now) long.lists (lists_at S is (given_by c.in_ok-at.ensures.answer)) in
    let there = subst (λ (l : Listed). blob_of S c.args.path.now l.listing (Ok long.bytes)) at long.there in
    rw (p.1) (refl, not_refused (Unit {0}) c.in_err-digest.field-0.0 p.0 (blob_of-definite S c.args.path.now (listing_view c.in_ok-at.at.listing.now)) there p.2 (c.in_err-digest.ensures.answer S (lengths_are S is c.lengths.ensures.view)))

pub returns-in_err-judge_layout-clause-long : goal.returns-in_err-judge_layout-clause-long
returns-in_err-judge_layout-clause-long g c S valid is long =
    let p = err_from_is_err_and c.from_residual-in_err-judge_layout.result c.from_residual-in_err-judge_layout.ensures.1 in
    let at = one_given (listed-definite S.trusted c.args.path.now c.args.now) long.lists (lists_at S is (given_by c.in_ok-at.ensures.answer)) in
    let refused = c.in_err-judge_layout.ensures.long S valid is (subst (λ (l : Listed). HasLongSupport S l.root l.shelf c.args.now l.listing.layout) at long.long) in
    rw (p.1, p.2) (refused.0, shape_denial (Unit {0}) (Unit {0}) c.in_err-judge_layout.field-0.0 refused.1)

pub returns-then-not-is_asked-clause-long : goal.returns-then-not-is_asked-clause-long
returns-then-not-is_asked-clause-long g c S valid is long =
    let at = one_given (listed-definite S.trusted c.args.path.now c.args.now) long.lists (lists_at S is (given_by c.in_ok-at.ensures.answer)) in
    absurd (c.in_ok-judge_layout.ensures.long S valid is (subst (λ (l : Listed). HasLongSupport S l.root l.shelf c.args.now l.listing.layout) at long.long)).1

pub returns-clause-long : goal.returns-clause-long
returns-clause-long g c S valid is long =
    let at = one_given (listed-definite S.trusted c.args.path.now c.args.now) long.lists (lists_at S is (given_by c.in_ok-at.ensures.answer)) in
    absurd (c.in_ok-judge_layout.ensures.long S valid is (subst (λ (l : Listed). HasLongSupport S l.root l.shelf c.args.now l.listing.layout) at long.long)).1

pub returns-in_err-at-clause-counted : goal.returns-in_err-at-clause-counted
returns-in_err-at-clause-counted g c =
    let finds = c.find_listing.ensures in
    counted_behind _ _ _ _ _ _ _ finds.grows finds.most finds.few finds.free (omega arith) (λ none. refl) (λ wants. refl)

pub returns-in_err-digest-clause-counted : goal.returns-in_err-digest-clause-counted
returns-in_err-digest-clause-counted g c =
    let finds = c.find_listing.ensures in
    counted_behind _ _ _ _ _ _ _ finds.grows finds.most finds.few finds.free (omega arith) (λ none. refl) (λ wants. refl)

pub returns-clause-lists : goal.returns-clause-lists
returns-clause-lists g c = record {
  at = listed_view c.in_ok-at.at;
  lists = given_by c.in_ok-at.ensures.answer;
  digest_is = c.in_ok-digest.ensures.listed;
  asked_is = yes c.if-not-is_asked.ensures;
}
