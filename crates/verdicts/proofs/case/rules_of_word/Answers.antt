use Rattle.std.proofs.Common.{ap, List, ℕ, [], ◌∷◌, codes}
use Rattle.std.proofs.lemmas.Result.{err_from_is_err_and}
use Rattle.verdicts.proofs.Signing.{by_fault}
use Rattle.verdicts.proofs.RulesWord.{no_rules}
use Rattle.verdicts.proofs.case.rules_of_word.Goals as goal

pub returns-in_err-part-clause-fault : goal.returns-in_err-part-clause-fault
returns-in_err-part-clause-fault c =
    let p = err_from_is_err_and c.from_residual.result c.from_residual.ensures.1 in
    rw (p.1, p.2) (by_fault _ _ _ c.in_err-part.ensures.fault (no_rules c.args.word.now))

pub returns-clause-case : goal.returns-clause-case
returns-clause-case c =
    let found = c.in_ok-part.ensures.case in
    (found.0, ap (λ (w : List ℕ). codes "rules" ∷ w ∷ []) found.1, found.2, found.3)
