use Rattle.std.proofs.Common.{[], Ok, Option, None, ap, sym, subst}
use Rattle.std.specs.Prelude.{unwrap_or}
use Rattle.metadata.specs.File.{Bytes}
use Rattle.trusted_state.specs.Answers.{gives}
use Rattle.trust_rules.specs.Grants.{grants}
use Rattle.granting.proofs.GrantedFrom.{own_view}
use Rattle.granting.proofs.LoadedFiles.{found_by, lent_gives, stands_so}
use Rattle.granting.proofs.getting.get_counted.Goals as goal

pub returns-in-Ok-clause-answer : goal.returns-in-Ok-clause-answer
returns-in-Ok-clause-answer c =
    let S = c.args.state.now.state in
    gives (subst (λ (b : Bytes). grants S c.args.path.now None c.args.now (Ok b)) (ap (λ (o : Option Bytes). unwrap_or o []) c.lent.ensures)
    (found_by (stands_so S c.in-Ok.ensures.stands tt (own_view S c.is_valid.ensures (sym c.held.ensures.held)))))

pub returns-in-Err-clause-answer : goal.returns-in-Err-clause-answer
returns-in-Err-clause-answer c =
    let S = c.args.state.now.state in
    lent_gives c.in-Err.fault c.lent_refusal.result c.lent_refusal.ensures (stands_so S c.in-Err.ensures.stands tt (own_view S c.is_valid.ensures (sym c.held.ensures.held)))
