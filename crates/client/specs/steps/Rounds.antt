-- One round of an update's roots, and one of a fetch: how the whole ends, or that the rest after it makes the whole.
use Rattle.std.specs.Prelude.{◌≡◌, ◌≤◌, ℕ, suc, Bool, true, false, length, Option, Some, None, Result, Ok, Err}
use Rattle.std.proofs.Common.{Vec, Global}
use Rattle.metadata.specs.File.{Bytes, Names}
use Rattle.trust_rules.specs.State.{State}
use Rattle.fetch.specs.Source.{Gives}
use Rattle.store.specs.Standing.{IsClean, Standing}
use Rattle.client.specs.Changes.{Changes}
use Rattle.client.specs.Session.{Fetches, TakesRoots}
use Rattle.client.specs.Views.{Fault, fault_view}
use Rattle.client.specs.declared.fault.ClientFault.{ClientFault}

-- a root was taken, whatever the rest comes to; or no more are
abbrev pub RootTaken : {Src : Type 0} → Standing → Standing → Gives Src → ℕ → Src → Src → Result Bool ClientFault → Type 0
RootTaken {Src} A B gives now s t (Ok true) =
    Changes A B (λ C D. (n : ℕ) (u : Src) (E : State) (r : Result (Unit {0}) Fault) → TakesRoots gives now n t D u E r → TakesRoots gives now (suc n) s C u E r)
RootTaken A B gives now s t (Ok false) = Changes A B (λ C D. (n : ℕ) → TakesRoots gives now (suc n) s C t D (Ok tt))
RootTaken A B gives now s t (Err fault) = Changes A B (λ C D. (n : ℕ) → TakesRoots gives now (suc n) s C t D (Err (fault_view fault)))

-- a file was taken, whatever the rest after one name more comes to, wherever the store then stands
pub record GoesOn {Src : Type 0} (A B : Standing) (gives : Gives Src) (now : ℕ) (path : Bytes) (names more : Names) (s t : Src) : Type 0 where
  pub grows : length more ≡ suc (length names)
  pub few : length more ≤ 194
  pub changes : Changes A B (λ C D. (last : Standing) (u : Src) (E : State) (r : Result Bytes Fault)
      → Fetches (IsClean last) gives now path more t D u E r → Fetches (IsClean last) gives now path names s C u E r)

abbrev pub Round : {Src : Type 0} → Standing → Standing → Gives Src → ℕ → Bytes → Names → Names → Src → Src → Result (Option (Vec ℕ Global)) ClientFault → Type 0
Round A B gives now path names more s t (Ok None) = GoesOn A B gives now path names more s t
Round A B gives now path names more s t (Ok (Some bytes)) = Changes A B (λ C D. Fetches (IsClean B) gives now path names s C t D (Ok bytes.items))
Round A B gives now path names more s t (Err fault) = Changes A B (λ C D. Fetches (IsClean B) gives now path names s C t D (Err (fault_view fault)))
