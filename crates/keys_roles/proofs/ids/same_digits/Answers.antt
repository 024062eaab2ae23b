use Rattle.std.proofs.Common.{sym, ap, ◌∙◌, arith}
use Rattle.std.proofs.lemmas.Slice.Eq.{bytes_eq-Decides}
use Rattle.hex.specs.Hex.{encode_lower}
use Rattle.keys_roles.proofs.LookingUp.{digits_one, same_verdict}
use Rattle.keys_roles.proofs.ids.same_digits.Goals as goal

pub returns-clause-same : goal.returns-clause-same
returns-clause-same c =
    let decides = bytes_eq-Decides c.args.a.now c.args.b.now in (
      λ h. ap encode_lower (decides.0 (sym c.eq.ensures ∙ h)),
      λ h. c.eq.ensures ∙ decides.1 (digits_one c.args.a.now c.args.b.now (λ i. omega (arith, c.type_inv.a i)) (λ i. omega (arith, c.type_inv.b i)) h),
    )

pub returns-clause-text : goal.returns-clause-text
returns-clause-text c =
    let decides = bytes_eq-Decides c.args.a.now c.args.b.now in
    let digits = bytes_eq-Decides (encode_lower c.args.a.now) (encode_lower c.args.b.now) in
    same_verdict c.eq.result _
    (λ h. digits.1 (ap encode_lower (decides.0 (sym c.eq.ensures ∙ h))))
    (λ h. c.eq.ensures ∙ decides.1 (digits_one c.args.a.now c.args.b.now (λ i. omega (arith, c.type_inv.a i)) (λ i. omega (arith, c.type_inv.b i)) (digits.0 h)))
