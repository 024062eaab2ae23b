-- What several calls of a client do one after the other: each offers and uploads, and does nothing else; and what one of them answers.
use Rattle.std.proofs.Common.{ℕ, Vec, Global, None, Result, Ok, Err}
use Rattle.std.specs.Prelude.{IfOk}
use Rattle.metadata.specs.File.{Bytes}
use Rattle.trust_rules.specs.State.{State}
use Rattle.trust_rules.specs.Grants.{grants}
use Rattle.store.specs.Standing.{IsClean, Standing, StandsAt}
use Rattle.client.proofs.Composing.{follows, rests}
use Rattle.client.proofs.Runs.{runs_then, stays}
use Rattle.client.specs.Changes.{Changes}
use Rattle.client.specs.Taken.{IsTaking, RunsOn}
use Rattle.client.specs.declared.fault.ClientFault.{ClientFault}
use Rattle.cli_client.specs.Clients.{Updated}
use Rattle.cli_get.specs.Getting.{IsGranted}

-- nothing was done
pub nothing : (now : ℕ) (A : Standing) → Updated now A A
nothing now A = rests A (λ C D. RunsOn IsTaking now C D) (λ S at. stays IsTaking now S)

-- one after the other
pub both : (now : ℕ) (A B E : Standing) → Updated now A B → Updated now B E → Updated now A E
both now A B E h k =
    follows (λ C D. RunsOn IsTaking now C D) (λ C D. RunsOn IsTaking now C D) (λ C D. RunsOn IsTaking now C D) h k (λ C D F p q. runs_then IsTaking now C D F p q)

-- what a fetch answers is granted by the state that it leaves
pub granted_by : (path : Bytes) (now : ℕ) (A B : Standing) (U : State) (r : Result (Vec ℕ Global) ClientFault) → StandsAt A U
    → Changes A B (λ C D. RunsOn IsTaking now C D × (IsClean B → IfOk r (λ b. grants D path None now (Ok b.items))))
    → IfOk r (λ b. IsGranted path now b.items)
granted_by path now A B U (Ok bytes) at h = let (D, there, both) = h.moves U at in record { standing = B; state = D; stands = there; granted = both.1 }
granted_by path now A B U (Err fault) at h = tt
