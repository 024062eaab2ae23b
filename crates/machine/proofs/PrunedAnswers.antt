-- What requests for targets are answered before a prune and after it.
use Rattle.std.proofs.Common.{◌≡◌, ◌∙◌, ℕ, Option, Result, Ok, Err, sym, ap}
use Rattle.sha2.specs.Sha256.{sha256}
use Rattle.metadata.specs.File.{Bytes}
use Rattle.denials.specs.Orders as orders
use Rattle.denials.specs.Orders.{Judged}
use Rattle.denials.specs.Views.{denial_view}
use Rattle.trust_rules.specs.Grants.{GrantAlike, grants}
use Rattle.granting.specs.Serving.{IsFault, IsSameAnswer, Serves, denies, serves}
use Rattle.trust_rules.specs.State.{State, IsState}
use Rattle.granting.specs.declared.serving.Served.{Served}
use Rattle.granting.specs.declared.serving.GetFault.{GetFault}
use Rattle.granting.specs.declared.serving.GetFault.TheVariants.{Denied, Load, OutOfMemory}
use Rattle.granting.proofs.ServedFrom.{own_digest}

-- each request for a target has one end
abbrev pub OneEnd : Type 0
OneEnd = (S : State) (path : Bytes) (asked : Option Bytes) (now : ℕ) (r q : Judged Bytes) → grants S path asked now r → grants S path asked now q → r ≡ q

pub answers_same : (S T : State) → IsState S → IsState T → GrantAlike S T → OneEnd → (path : Bytes) (asked : Option Bytes) (now : ℕ) (r q : Result Served GetFault)
    → Serves S (grants S path asked now) r → Serves T (grants T path asked now) q → (IsFault r → ⊥) → (IsFault q → ⊥) → IsSameAnswer r q
answers_same S T valid stays alike one path asked now (Ok s) (Ok t) (serves h b) (serves k c) no_fault none =
    let ends : ◌≡◌ {A = Judged Bytes} (Ok s.bytes.items) (Ok t.bytes.items) = one T path asked now _ _ ((alike path asked now _).0 h) k in
    let same : s.bytes.items ≡ t.bytes.items = cc in
    (sym (own_digest S s.digest.0 s.bytes.items valid b) ∙ (ap sha256 same ∙ own_digest T t.digest.0 t.bytes.items stays c), same)
answers_same S T valid stays alike one path asked now (Err (Denied d)) (Err (Denied e)) (denies h) (denies k) no_fault none =
    let ends : ◌≡◌ {A = Judged Bytes} (Err (orders.Denied (denial_view d))) (Err (orders.Denied (denial_view e))) = one T path asked now _ _ ((alike path asked now _).0 h) k in
    cc
answers_same S T valid stays alike one path asked now (Ok s) (Err (Denied e)) (serves h b) (denies k) no_fault none =
    let ends : ◌≡◌ {A = Judged Bytes} (Ok s.bytes.items) (Err (orders.Denied (denial_view e))) = one T path asked now _ _ ((alike path asked now _).0 h) k in
    absurd cc
answers_same S T valid stays alike one path asked now (Err (Denied d)) (Ok t) (denies h) (serves k c) no_fault none =
    let ends : ◌≡◌ {A = Judged Bytes} (Err (orders.Denied (denial_view d))) (Ok t.bytes.items) = one T path asked now _ _ ((alike path asked now _).0 h) k in
    absurd cc
answers_same S T valid stays alike one path asked now (Err (Load fault)) q h k no_fault none = absurd (no_fault tt)
answers_same S T valid stays alike one path asked now (Err OutOfMemory) q h k no_fault none = absurd (no_fault tt)
answers_same S T valid stays alike one path asked now (Ok s) (Err (Load fault)) h k no_fault none = absurd (none tt)
answers_same S T valid stays alike one path asked now (Ok s) (Err OutOfMemory) h k no_fault none = absurd (none tt)
answers_same S T valid stays alike one path asked now (Err (Denied d)) (Err (Load fault)) h k no_fault none = absurd (none tt)
answers_same S T valid stays alike one path asked now (Err (Denied d)) (Err OutOfMemory) h k no_fault none = absurd (none tt)
