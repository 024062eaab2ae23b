use Rattle.std.proofs.Common.{◌∙◌, subst, sym}
use Rattle.delegations.specs.Verdicts.{IsComplete, Table}
use Rattle.delegations.specs.Views.{shelf_view}
use Rattle.granting.proofs.TargetFiles.{supporting_denied, supporting_given}
use Rattle.granting.proofs.supporting.find_support.Goals as goal

pub returns-in-Ok-clause-answer : goal.returns-in-Ok-clause-answer
returns-in-Ok-clause-answer c = supporting_given _ (rw (c.in-Ok.is) at c.find_needed-result.ensures.answer)

pub returns-in-Err-clause-answer : goal.returns-in-Err-clause-answer
returns-in-Err-clause-answer c = supporting_denied _ _ (rw (c.in-Err.is) at c.find_needed-result.ensures.answer) c.supporting.ensures

pub returns-in-Err-clause-free : goal.returns-in-Err-clause-free
returns-in-Err-clause-free c few complete =
    let V = shelf_view c.args.shelf.now in
    c.add_ticks.ensures.none (c.count.ensures ∙ (c.find_needed-result.ensures.free few (subst (λ (t : Table). IsComplete V t) (sym c.verdicts.ensures.view) complete) ∙ c.new-made.ensures))
