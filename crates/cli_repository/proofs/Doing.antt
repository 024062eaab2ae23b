-- What one command does over a repository.
use Rattle.std.proofs.Common.{◌≡◌, ℕ, List, Result, Ok, Err, ap, refl}
use Rattle.trust_rules.specs.State.{State}
use Rattle.trust_rules.specs.Runs.{Command, Metadata, Outcome}
use Rattle.store.specs.Applies.{Makes}
use Rattle.store.specs.Standing.{Keeps, Standing, StandsAt}
use Rattle.store.specs.declared.command.Reply.{Reply}
use Rattle.table_rows.specs.declared.faults.StoreFault.{StoreFault}
use Rattle.table_rows.specs.declared.faults.StoreFault.TheVariants as store
use Rattle.cli_faults.specs.declared.fault.Fault.{Fault}
use Rattle.cli_faults.specs.Statuses.{status_of}
use Rattle.cli_repository.specs.Faults.{fault_of_store}
use Rattle.cli_repository.specs.Works.{Does, IsAnswered, IsReply, MakesOne, Worked, over, unopened}

-- a fault of the store is none of a denial
pub store_other : (fault : StoreFault) → status_of (fault_of_store fault) ≡ 3
store_other store.OutOfMemory = refl
store_other store.Database = refl
store_other store.Damaged = refl

pub unmade : (A B : Standing) (command : Command) (now : ℕ) (fault : StoreFault) → Makes A B command now (Err fault) → MakesOne command now A (Err (fault_of_store fault)) B
unmade A B command now store.OutOfMemory h = (refl, h)
unmade A B command now store.Database h = (refl, h)
unmade A B command now store.Damaged h = absurd h

-- a look at the metadata keeps what stands
pub looked : (A B : Standing) (name : List ℕ) (now : ℕ) (r : Result Reply StoreFault) → Makes A B (Metadata name) now r → Keeps A B
looked A B name now (Ok reply) h = record {
  state = λ S at. let (T, there, e) = h.0 S at in (T, there, ap (λ (o : Outcome). o.0) e);
  clean = h.1.clean;
}
looked A B name now (Err store.OutOfMemory) h = h
looked A B name now (Err store.Database) h = h
looked A B name now (Err store.Damaged) h = absurd h

-- what one command is answered
pub answered : {Work : Type 0} (command : Command) (now : ℕ) (does : Does Work Reply) (work left : Work) (r : Result Reply Fault)
    → ((A B : Standing) (q : Result Reply Fault) (v : Work) → does work A q B v → MakesOne command now A q B) → Worked does work r left → IsAnswered command now r
answered {Work = Work} command now does work left r made (over S A B at d) = by r (made A B r left d)
  where
    by : (r : Result Reply Fault) → MakesOne command now A r B → IsAnswered command now r
    by (Ok reply) h =
        let (T, there, replied) = h S at in
        record { before = A; after = B; S = S; T = T; stood = at; stands = there; replies = replied }
    by (Err fault) h = h.0
answered command now does work _ _ made (unopened e) = e
