-- What a fetch over the client's own state does and answers.
use Rattle.std.proofs.Common.{◌≡◌, ℕ, Vec, Global, None, Result, Ok, Err, subst}
use Rattle.std.specs.Prelude.{IfOk}
use Rattle.metadata.specs.File.{Bytes}
use Rattle.trust_rules.specs.State.{State}
use Rattle.trust_rules.specs.Grants.{grants}
use Rattle.store.specs.Standing.{IsClean, Standing}
use Rattle.client.proofs.Composing.{becomes}
use Rattle.client.specs.Changes.{Changes}
use Rattle.client.specs.Taken.{IsTaking, RunsOn}
use Rattle.client.specs.declared.fault.ClientFault.{ClientFault}
use Rattle.cli_faults.specs.declared.fault.Fault.{Fault}
use Rattle.cli_repository.specs.Works.{Worked, over, unopened}
use Rattle.cli_get.specs.Getting.{Fetched, IsGranted}

-- what was fetched is granted, and a fault is a fault
module _ (A B : Standing) (path : Bytes) (now : ℕ) (F : State → State → Type 0) where
  abbrev Grants : Result (Vec ℕ Global) ClientFault → State → Type 0
  Grants r D = IsClean B → IfOk r (λ bytes. grants D path None now (Ok bytes.items))

  pub fetched_ok : (bytes : Vec ℕ Global) → Changes A B (λ C D. F C D × RunsOn IsTaking now C D × Grants (Ok bytes) D) → Fetched path now A (Ok bytes) B
  fetched_ok bytes h = becomes _ _ h (λ C D p. (p.1, p.2))

  pub fetched_err : (why : ClientFault) (fault : Fault) → Changes A B (λ C D. F C D × RunsOn IsTaking now C D × Grants (Err why) D) → Fetched path now A (Err fault) B
  fetched_err why fault h = becomes _ _ h (λ C D p. (p.1, λ clean. tt))

  -- the same of a result that is told first
  pub fetched_as : (r : Result (Vec ℕ Global) ClientFault) (bytes : Vec ℕ Global) → r ≡ Ok bytes → Changes A B (λ C D. F C D × RunsOn IsTaking now C D × Grants r D)
      → Fetched path now A (Ok bytes) B
  fetched_as r bytes e h = fetched_ok bytes (subst (λ (q : Result (Vec ℕ Global) ClientFault). Changes A B (λ C D. F C D × RunsOn IsTaking now C D × Grants q D)) e h)

  pub fetched_not : (r : Result (Vec ℕ Global) ClientFault) (why : ClientFault) (fault : Fault) → r ≡ Err why → Changes A B (λ C D. F C D × RunsOn IsTaking now C D × Grants r D)
      → Fetched path now A (Err fault) B
  fetched_not r why fault e h = fetched_err why fault (subst (λ (q : Result (Vec ℕ Global) ClientFault). Changes A B (λ C D. F C D × RunsOn IsTaking now C D × Grants q D)) e h)

-- what is answered over the database is granted by the state in it
pub granted : {Work : Type 0} (path : Bytes) (now : ℕ) (does : Work → Standing → Result (Vec ℕ Global) Fault → Standing → Work → Type 0) (work left : Work) (r : Result (Vec ℕ Global) Fault)
    → ((A B : Standing) (q : Result (Vec ℕ Global) Fault) (v : Work) → does work A q B v → Fetched path now A q B) → Worked does work r left
    → IfOk r (λ bytes. IsGranted path now bytes.items)
granted path now does work left r fetches (over S A B at d) = by r (fetches A B r left d)
  where
    by : (r : Result (Vec ℕ Global) Fault) → Fetched path now A r B → IfOk r (λ bytes. IsGranted path now bytes.items)
    by (Ok bytes) h = let (D, there, both) = h.moves S at in record { standing = B; state = D; stands = there; granted = both.1 }
    by (Err fault) h = tt
granted path now does work _ _ fetches (unopened e) = tt
