use Rattle.std.proofs.Common.{inr, refl}
use Rattle.std.proofs.lemmas.Result.{err_from_is_err_and}
use Rattle.canonical_json.specs.View.{view}
use Rattle.drafting.proofs.Results.{if_err, on_ok}
use Rattle.chain_drafting.proofs.LinkFiles.{link_part, other_link, unfit_as}
use Rattle.chain_drafting.proofs.judging.judge_part.Goals as goal
use Rattle.chain_drafting.proofs.judging.judge_part.Goals.{in_default-via-in-Some+then-is_link+else-is_step, in_default-via-in-Some+else-is_link, in_default-via-in_default}

pub returns-in_ok-judge_artifacts-in-Some-clause-ok : goal.returns-in_ok-judge_artifacts-in-Some-clause-ok
returns-in_ok-judge_artifacts-in-Some-clause-ok c =
    on_ok _ _ c.judge_artifacts-in-Some.result c.judge_artifacts-in-Some.ensures.ok (λ products.
    link_part (view c.args.part.now) (view c.in-Some.kind.now) (view c.in-Some.materials.now) (view c.in-Some.name.now) (view c.in-Some.products.now) c.in-Some.ensures
    (c.if-is_link.ensures.yes refl) c.in_ok-judge_artifacts-in-Some.ensures.ok (c.if-is_step.ensures.yes refl) products)

pub returns-in_ok-judge_artifacts-in-Some-clause-err : goal.returns-in_ok-judge_artifacts-in-Some-clause-err
returns-in_ok-judge_artifacts-in-Some-clause-err c =
    if_err _ _ c.judge_artifacts-in-Some.result c.judge_artifacts-in-Some.ensures.err (λ e h. unfit_as h (λ none.
    other_link (view c.args.part.now) (view c.in-Some.kind.now) (view c.in-Some.materials.now) (view c.in-Some.name.now) (view c.in-Some.products.now) c.in-Some.ensures
    (λ k n m p. none p.0 p.1)))

pub returns-in_default-clause-err : goal.returns-in_default-clause-err
returns-in_default-clause-err c = elim c.in_default.branch [
  | in_default-via-in-Some+then-is_link+else-is_step w ↦ inr (
    refl,
    other_link (view c.args.part.now) (view w.in-Some.kind.now) (view w.in-Some.materials.now) (view w.in-Some.name.now) (view w.in-Some.products.now) w.in-Some.ensures
        (λ k n m p. w.if-is_step.ensures.no refl n.0 n.1),
  )
  | in_default-via-in-Some+else-is_link w ↦ inr (
    refl,
    other_link (view c.args.part.now) (view w.in-Some.kind.now) (view w.in-Some.materials.now) (view w.in-Some.name.now) (view w.in-Some.products.now) w.in-Some.ensures
        (λ k n m p. w.if-is_link.ensures.no refl k),
  )
  | in_default-via-in_default w ↦ inr (refl, (λ h. w.in_default.ensures h.kind h.materials h.name h.products h.members))
]

pub returns-in_err-judge_artifacts-in-Some-clause-err : goal.returns-in_err-judge_artifacts-in-Some-clause-err
returns-in_err-judge_artifacts-in-Some-clause-err c =
    let same = err_from_is_err_and c.from_residual.result c.from_residual.ensures.1 in
    rw (same.1, same.2) (unfit_as c.in_err-judge_artifacts-in-Some.ensures.err (λ none.
    other_link (view c.args.part.now) (view c.in-Some.kind.now) (view c.in-Some.materials.now) (view c.in-Some.name.now) (view c.in-Some.products.now) c.in-Some.ensures
    (λ k n m p. none m.0 m.1)))
