use Rattle.std.proofs.Common.{rules, ◌≡◌}
use Rattle.verdicts.proofs.Levels.{hss_len}
use Rattle.verdicts.proofs.verdict.verifying_hss.Goals as goal

pub returns-in_default : goal.returns-in_default
returns-in_default c = λ v. c.in_default.ensures.cases (hss_len c.args.public.now c.args.message.now c.args.signature.now v)

pub returns-then-verify_hss : goal.returns-then-verify_hss
returns-then-verify_hss c =
    let same : c.args.public.now ≡ c.in-Some.public.now = search rules in
    rw same (c.verify_hss.ensures.0 c.if-verify_hss.true)

pub returns-else-verify_hss : goal.returns-else-verify_hss
returns-else-verify_hss c =
    let same : c.args.public.now ≡ c.in-Some.public.now = search rules in
    rw same (λ v. (let here = c.verify_hss.ensures.1 v in let other = c.if-verify_hss.false in cc))
