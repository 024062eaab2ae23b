use Rattle.std.proofs.Common.{sym, subst}
use Rattle.path_patterns.specs.Grammar.{IsHex}
use Rattle.http_messages.specs.Orders.{pass, decide, found, lacks, given}
use Rattle.http_messages.specs.Request.{Ends, of_blob, commands, refuses}
use Rattle.http_messages.proofs.request.of_blob.Goals as goal

pub returns-in-Some : goal.returns-in-Some
returns-in-Some c = λ request e.
    let (digest, hex, text) = c.in-Some.ensures.some in
    subst (Ends (of_blob c.args.name.now c.args.body.items)) (sym e) (commands (pass (found (digest, text)) given))

pub returns-in-None : goal.returns-in-None
returns-in-None c = λ request e.
    subst (Ends (of_blob c.args.name.now c.args.body.items)) (sym e)
    (refuses (decide (lacks (λ d is. c.in-None.ensures.none (subst (IsHex 64) (sym is.1) (c.one_digest.ensures.spelled d is.0))))))
