use Rattle.std.proofs.Common.{◌≡◌, false, true, arith}
use Rattle.keys_roles.proofs.Signatures.{digits_length, spelled_length}
use Rattle.keys_roles.proofs.digits.digits_verify.Goals as goal
use Rattle.keys_roles.proofs.digits.digits_verify.Goals.{then-digits-ne0-via-then-digits-ne0, then-digits-ne0-via-else-digits-ne0+then-count-gt-LONGEST}

pub returns-then-digits-ne0-clause-valid : goal.returns-then-digits-ne0-clause-valid
returns-then-digits-ne0-clause-valid c = (
  λ h. absurd (let e : false ≡ true = h in cc),
  λ s.
      let n = spelled_length _ _ _ s in
      elim c.then-digits-ne0.branch [
        | then-digits-ne0-via-then-digits-ne0 w ↦ absurd (omega (arith, n.1))
        | then-digits-ne0-via-else-digits-ne0+then-count-gt-LONGEST w ↦ absurd (omega (arith, n.1, n.2))
      ],
)

pub returns-then-digits-ne0-clause-counted : goal.returns-then-digits-ne0-clause-counted
returns-then-digits-ne0-clause-counted c = record {
  one = λ bytes are few.
      let n = digits_length c.args.digits.now bytes are in
      elim c.then-digits-ne0.branch [
        | then-digits-ne0-via-then-digits-ne0 w ↦ absurd (omega (arith, n))
        | then-digits-ne0-via-else-digits-ne0+then-count-gt-LONGEST w ↦ absurd (omega (arith, n, few))
      ];
  none = λ h. omega arith;
}
