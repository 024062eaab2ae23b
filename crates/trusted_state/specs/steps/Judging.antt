-- What the answers of private calls say of their orders of checks.
use Rattle.std.specs.Prelude.{◌≡◌, ℕ, Bool, true, false, Result, Ok, Err}
use Rattle.metadata.specs.File.{fault_number}
use Rattle.denials.specs.Orders as orders
use Rattle.denials.specs.Orders.{Order, Plain, Same}
use Rattle.document_parts.specs.declared.documents.ShapeFault.{ShapeFault}
use Rattle.document_parts.specs.declared.documents.ShapeFault.TheVariants as shapes
use Rattle.trust_rules.specs.State.{Trusted}
use Rattle.trust_rules.specs.Offers.{BatchOrder}
use Rattle.denials.specs.Views.{denial_view}
use Rattle.trusted_state.specs.declared.refusal.BatchRefusal.{BatchRefusal}
use Rattle.trusted_state.specs.declared.refusal.BatchRefusal.TheVariants as batches
use Rattle.denials.specs.declared.denial.Denial.{Denial}
use Rattle.trusted_state.specs.declared.refusal.Refusal.{Refusal}
use Rattle.trusted_state.specs.declared.refusal.Refusal.TheVariants.{Denied, OutOfMemory}

-- whether the order gives this, or ends without a change; or the denial in which it ends
pub data Judges {A : Type 0} (m : Order A) (given : A) : Result Bool Refusal → Type 0 where
  accepts : m (Ok given) → Judges m given (Ok true)
  keeps : m (Err Same) → Judges m given (Ok false)
  rejects : {d : Denial} → m (Err (orders.Denied (denial_view d))) → Judges m given (Err (Denied d))
  stops : Judges m given (Err OutOfMemory)

-- what is trusted becomes what the order gives, or stays as it is, or the order ends in the denial
pub data Ends (m : Order Trusted) (old new : Trusted) : Result Bool Refusal → Type 0 where
  takes : m (Ok new) → Ends m old new (Ok true)
  stays : m (Err Same) → new ≡ old → Ends m old new (Ok false)
  ends : {d : Denial} → m (Err (orders.Denied (denial_view d))) → Ends m old new (Err (Denied d))
  gives_up : Ends m old new (Err OutOfMemory)

abbrev pub IsDeniedAs : ℕ → Refusal → Type 0
IsDeniedAs n (Denied d) = denial_view d ≡ Plain n
IsDeniedAs n OutOfMemory = ⊥

-- the refusal of a file of another shape
abbrev pub IsRefusedShape : ShapeFault → Refusal → Type 0
IsRefusedShape shapes.OutOfMemory r = r ≡ OutOfMemory
IsRefusedShape fault r = IsDeniedAs (fault_number fault) r

-- a denial with its index in which the order ends, or want of memory
abbrev pub IsDeniedAt : BatchOrder → BatchRefusal → Type 0
IsDeniedAt m (batches.Denied d i) = m (Err (denial_view d, i))
IsDeniedAt m batches.OutOfMemory = Unit {0}

-- the same refusal, with an index
abbrev pub IsRefusedAt : Refusal → ℕ → BatchRefusal → Type 0
IsRefusedAt (Denied d) i r = r ≡ batches.Denied d i
IsRefusedAt OutOfMemory i r = r ≡ batches.OutOfMemory
