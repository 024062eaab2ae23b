use Rattle.std.proofs.Common.{ℕ, Option, Some, None, arith}
use Rattle.std.specs.Prelude.{IfSome}
use Rattle.http_fetch.proofs.Statuses.{stands}
use Rattle.http_fetch.proofs.refusing.status_in.Goals as goal

if_some : (o : Option ℕ) (P Q : ℕ → Type 0) → ((n : ℕ) → P n → Q n) → IfSome o P → IfSome o Q
if_some None P Q f h = tt
if_some (Some n) P Q f h = f n h

pub returns-clause-some : goal.returns-clause-some
returns-clause-some c = if_some c.number_of.result _ _ (λ status h.
    stands c.args.beginning.now c.in-Some.rest.now status c.in-Some.ensures (record { long = omega (arith, c.if-rest-lt5.false); space = c.if-space-ne32.false; number = h })) c.number_of.ensures.some
