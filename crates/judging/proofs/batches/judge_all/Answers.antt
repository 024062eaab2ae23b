use Rattle.std.proofs.Common.{◌≡◌, ◌∷◌, ◌+◌, ℕ, length, drop, not, refl, sym, ap, ◌∙◌, subst, arith}
use Rattle.trust_rules.specs.Offers.{batch_from, batch}
use Rattle.trusted_state.specs.Views.{documents_view, draft_view, offer_view}
use Rattle.judging.proofs.BatchOneByOne.{so_far, counted_on, denied_here, from_here, at_most_one_more, ended_there}
use Rattle.judging.proofs.batches.judge_all.Goals as goal

pub returns-in-Err-clause-err : goal.returns-in-Err-clause-err
returns-in-Err-clause-err c =
    let here : drop c.loop-index.index c.args.documents.now ≡ c.index-documents-index.result ∷ drop (c.loop-index.index + 1) c.args.documents.now =
    from_here c.args.documents.now c.loop-index.index c.index-documents-index.result c.loop-index-test.true
    ∙ ap (λ d. d ∷ drop (c.loop-index.index + 1) c.args.documents.now) (sym c.index-documents-index.is) in
    denied_here (draft_view c.loop-index.draft) _ c.loop-index.accepted c.loop-index.same c.loop-index.index
    (offer_view c.index-documents-index.result.0, c.index-documents-index.result.1.now) (documents_view (drop (c.loop-index.index + 1) c.args.documents.now)) c.args.now
    c.in-Err.refusal _ (batch (draft_view c.args.draft) (documents_view c.args.documents.now) c.args.now) c.in-Err.ensures.ends c.refused_at.ensures
    (λ r h. c.loop-index.invariant.onward r
    (subst (λ ds. batch_from (so_far (draft_view c.loop-index.draft) c.loop-index.accepted c.loop-index.same) c.loop-index.index (documents_view ds) c.args.now r) (sym here) h))

pub loop-index-preserved : goal.loop-index-preserved
loop-index-preserved c =
    let here : drop c.loop-index.index c.args.documents.now ≡ c.index-documents-index.result ∷ drop (c.loop-index.index + 1) c.args.documents.now =
    from_here c.args.documents.now c.loop-index.index c.index-documents-index.result c.loop-index-test.true
    ∙ ap (λ d. d ∷ drop (c.loop-index.index + 1) c.args.documents.now) (sym c.index-documents-index.is) in
    record {
      onward = λ r h. c.loop-index.invariant.onward r
          (subst (λ ds. batch_from (so_far (draft_view c.loop-index.draft) c.loop-index.accepted c.loop-index.same) c.loop-index.index (documents_view ds) c.args.now r) (sym here)
          (counted_on (draft_view c.loop-index.draft) (draft_view c.offer_one.new.draft) c.loop-index.accepted c.loop-index.same c.loop-index.index
          (c.loop-index.accepted + c.one_if-accepted.result) (c.loop-index.same + c.one_if-same.result) (c.loop-index.index + 1)
          (offer_view c.index-documents-index.result.0, c.index-documents-index.result.1.now) (documents_view (drop (c.loop-index.index + 1) c.args.documents.now)) c.args.now c.in-Ok.taken r
          (ap (λ (n : ℕ). c.loop-index.accepted + n) c.one_if-accepted.ensures) (ap (λ (n : ℕ). c.loop-index.same + n) c.one_if-same.ensures) refl c.in-Ok.ensures.ends h));
      base = c.offer_one.ensures.base ∙ c.loop-index.invariant.base;
      known = c.in-Ok.ensures.known;
      count = omega (arith, c.loop-index-test.true);
      few_accepted = at_most_one_more c.in-Ok.taken c.loop-index.invariant.few_accepted c.one_if-accepted.ensures;
      few_same = at_most_one_more (not c.in-Ok.taken) c.loop-index.invariant.few_same c.one_if-same.ensures;
    }

pub returns-clause-ok : goal.returns-clause-ok
returns-clause-ok c = λ r h.
    let end : c.loop-index.index ≡ length c.args.documents.now = omega (arith, c.loop-index-test.false, c.loop-index.invariant.count) in
    c.loop-index.invariant.onward r
    (ended_there c.args.documents.now (draft_view c.loop-index.draft) c.loop-index.accepted c.loop-index.same c.loop-index.index c.args.now r end h)
