-- An update whose denial is disregarded.
use Rattle.std.proofs.Common.{◌≡◌, ℕ, Err, Ok, subst}
use Rattle.denials.specs.Orders as orders
use Rattle.denials.specs.declared.denial.Denial.{Denial}
use Rattle.trust_rules.specs.State.{State}
use Rattle.fetch.specs.Source.{Gives}
use Rattle.fetch.specs.declared.FetchFault.{FetchFault}
use Rattle.client.specs.Agreement as agreement
use Rattle.client.specs.Agreement.{Brings}
use Rattle.client.specs.Session.{Updates}
use Rattle.client.specs.Views.{Denied, Fetch, Database, OutOfMemory, fault_view}
use Rattle.client.specs.declared.fault.ClientFault.{ClientFault}
use Rattle.client.specs.declared.fault.ClientFault.TheVariants as faults

pub denied_brings : {Src : Type 0} (gives : Gives Src) (now : ℕ) (s t : Src) (C D : State) (f : ClientFault) (d : Denial) → f ≡ faults.Denied d → Updates gives now s C t D (Err (fault_view f)) → Brings gives now s C t D (Ok tt)
denied_brings gives now s t C D f d e h = agreement.denied (subst (λ (x : ClientFault). Updates gives now s C t D (Err (fault_view x))) e h)

fetch_other : (x : FetchFault) (c : orders.Denial) → Fetch x ≡ Denied c → ⊥
fetch_other x c e = cc

database_other : (c : orders.Denial) → Database ≡ Denied c → ⊥
database_other c e = cc

memory_other : (c : orders.Denial) → OutOfMemory ≡ Denied c → ⊥
memory_other c e = cc

module _ {Src : Type 0} (gives : Gives Src) (now : ℕ) (s t : Src) (C D : State) (f : ClientFault) (h : Updates gives now s C t D (Err (fault_view f))) where
  pub fetch_brings : (x : FetchFault) → f ≡ faults.Fetch x → Brings gives now s C t D (Err (Fetch x))
  fetch_brings x e = agreement.fails (subst (λ (y : ClientFault). Updates gives now s C t D (Err (fault_view y))) e h) (fetch_other x)

  pub database_brings : f ≡ faults.Database → Brings gives now s C t D (Err Database)
  database_brings e = agreement.fails (subst (λ (y : ClientFault). Updates gives now s C t D (Err (fault_view y))) e h) database_other

  pub memory_brings : f ≡ faults.OutOfMemory → Brings gives now s C t D (Err OutOfMemory)
  memory_brings e = agreement.fails (subst (λ (y : ClientFault). Updates gives now s C t D (Err (fault_view y))) e h) memory_other
