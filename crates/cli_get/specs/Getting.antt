-- What `get` does to a client's own state, and what it puts into its place.
use Rattle.std.specs.Prelude.{ℕ, None, Result, Ok, IfOk}
use Rattle.std.proofs.Common.{Vec, Global}
use Rattle.metadata.specs.File.{Bytes}
use Rattle.trust_rules.specs.State.{State}
use Rattle.trust_rules.specs.Grants.{grants}
use Rattle.store.specs.Standing.{IsClean, Standing, StandsAt}
use Rattle.client.specs.Changes.{Changes}
use Rattle.client.specs.Taken.{IsTaking, RunsOn}
use Rattle.cli_faults.specs.declared.fault.Fault.{Fault}

-- documents and target files were offered to it, each judged by its own rules, and nothing else was done; and bytes that are answered are
-- those that the state grants which is left, unless a wrong answer of the disk was taken as true
abbrev pub Fetched : Bytes → ℕ → Standing → Result (Vec ℕ Global) Fault → Standing → Type 0
Fetched path now A r B = Changes A B (λ C D. RunsOn IsTaking now C D × (IsClean B → IfOk r (λ bytes. grants D path None now (Ok bytes.items))))

-- a store stands at a state that grants the bytes, unless a wrong answer of the disk was taken as true
pub record IsGranted (path : Bytes) (now : ℕ) (bytes : Bytes) : Type 0 where
  pub standing : Standing
  pub state : State
  pub stands : StandsAt standing state
  pub granted : IsClean standing → grants state path None now (Ok bytes)
