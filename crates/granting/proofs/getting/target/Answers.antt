use Rattle.std.proofs.Common.{[], Ok, Err, Option, ap, sym, subst}
use Rattle.std.proofs.lemmas.Result.{err_from_is_err_and}
use Rattle.std.specs.Prelude.{unwrap_or, option_map}
use Rattle.denials.specs.Orders.{decide, fails}
use Rattle.metadata.specs.File.{Bytes}
use Rattle.trusted_state.specs.Answers.{Gives, denies, forgoes, gives}
use Rattle.trust_rules.specs.Grants.{grants}
use Rattle.trust_rules.specs.Held.{bytes_at}
use Rattle.granting.proofs.GrantedFrom.{own_view}
use Rattle.granting.proofs.LoadedFiles.{found_by, lent_gives, stands_so}
use Rattle.granting.proofs.getting.target.Goals as goal

pub returns-in_default : goal.returns-in_default
returns-in_default c = denies (decide (decide (fails (rw (c.in_default.is) at c.in_ok-path.ensures.none))))

pub returns-in_err-path : goal.returns-in_err-path
returns-in_err-path c =
    let p = err_from_is_err_and c.from_residual.result c.from_residual.ensures.1 in
    rw (p.1, p.2) forgoes

pub returns-in-Ok : goal.returns-in-Ok
returns-in-Ok c =
    let S = c.args.state.now.state in
    let is = rw (c.in-Some.is) at c.in_ok-path.ensures.some in
    gives (subst (λ (b : Bytes). grants S c.args.path.now (option_map (λ d. d.0) c.args.asked) c.args.now (Ok b)) (ap (λ (o : Option Bytes). unwrap_or o []) c.lent.ensures)
    (subst (λ (path : Bytes). grants S path (option_map (λ d. d.0) c.args.asked) c.args.now (Ok (bytes_at S c.in-Ok.digest.0))) is.0
    (found_by (stands_so S c.in-Ok.ensures.stands tt (own_view S c.is_valid.ensures (sym c.held.ensures.held))))))

pub returns : goal.returns
returns c =
    let S = c.args.state.now.state in
    let is = rw (c.in-Some.is) at c.in_ok-path.ensures.some in
    subst (λ (path : Bytes). Gives (grants S path (option_map (λ d. d.0) c.args.asked) c.args.now) (λ b. b.now) (Err c.lent_refusal.result)) is.0
    (lent_gives c.in-Err.fault c.lent_refusal.result c.lent_refusal.ensures (stands_so S c.in-Err.ensures.stands tt (own_view S c.is_valid.ensures (sym c.held.ensures.held))))
