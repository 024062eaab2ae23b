-- What a request for a target serves, from what is found of it.
use Rattle.std.proofs.Common.{◌≡◌, ◌∙◌, ℕ, suc, length, List, [], ◌∷◌, false, Some, Result, Ok, Err, refl, sym, ap, arith}
use Rattle.std.specs.Prelude.{◌↔◌, ◌<◌, IsTrue, bytes_eq, slice_index_or}
use Rattle.std.proofs.lemmas.Slice.Eq.{bytes_eq-Decides}
use Rattle.std.proofs.lemmas.List.Elements.{All-from_recursion}
use Rattle.std.specs.List.{AllByRecursion}
use Rattle.metadata.specs.File.{Bytes}
use Rattle.denials.specs.Orders as orders
use Rattle.denials.specs.Orders.{Order}
use Rattle.denials.specs.Views.{denial_view}
use Rattle.denials.specs.declared.denial.Denial.{Denial}
use Rattle.delegations.specs.Delegation.{before}
use Rattle.delegations.specs.Rows.{Rises, value_at}
use Rattle.delegations.proofs.KeyOrder.{sorts_bytes, under}
use Rattle.trust_rules.specs.Held.{Held, StandsFor, held_of}
use Rattle.granting.specs.Serving.{HasLayout, Refuses, Serves, by_layout, denies, fails, forgoes, unread}
use Rattle.trust_rules.specs.State.{State, IsState, blob_at}
use Rattle.granting.specs.steps.Permitting.{Finds, IsLoaded, FindsLoaded, at_once, by_bytes}
use Rattle.granting.specs.steps.Permitting as found
use Rattle.granting.specs.declared.serving.Served.{Served}
use Rattle.granting.specs.declared.serving.GetFault.{GetFault}
use Rattle.granting.specs.declared.serving.GetFault.TheVariants.{Denied, Load, OutOfMemory}

-- nothing is served
pub finds_serves : {A : Type 0} {S : State} {m : Order Bytes} {view : A → Bytes} (f : GetFault) → Finds m view (Err f) → Serves S m (Err f)
finds_serves f (found.denies h) = denies h
finds_serves f (found.fails n) = fails n
finds_serves f found.forgoes = forgoes

denied_so : {A : Type 0} {m : Order Bytes} {view : A → Bytes} (d : Denial) → Finds m view (Err (Denied d)) → m (Err (orders.Denied (denial_view d)))
denied_so d (found.denies h) = h

pub refuses_so : {A : Type 0} {H : Held} {honest : Type 0} {Holds : Bytes → Bytes → Type 0} {unloaded loaded : Type 0} {m : State → Order Bytes} {view : State → A → Bytes} (path : Bytes) (now : ℕ) (f : GetFault)
    → FindsLoaded H honest Holds unloaded (loaded × HasLayout H.trusted path now) m view (Err f) → Refuses H m path now unloaded loaded (Err f)
refuses_so path now (Denied d) (at_once u h) = unread u (λ S v is. denied_so d (h S v is))
refuses_so path now (Denied d) (by_bytes t h) = by_layout t.0.0 t.0.1 t.1
refuses_so path now (Load fault) s = tt
refuses_so path now OutOfMemory s = tt

-- a load denies nothing
pub load_refuses : (H : Held) (honest : Type 0) (Holds : Bytes → Bytes → Type 0) (unloaded loaded : Type 0) (m : State → Order Bytes) (path : Bytes) (now : ℕ) (digest : Bytes) (r : Result Served GetFault)
    → IsLoaded honest Holds digest r → Refuses H m path now unloaded loaded r
load_refuses H honest Holds unloaded loaded m path now digest (Ok s) l = tt
load_refuses H honest Holds unloaded loaded m path now digest (Err (Load fault)) l = tt
load_refuses H honest Holds unloaded loaded m path now digest (Err (Denied d)) l = absurd l
load_refuses H honest Holds unloaded loaded m path now digest (Err OutOfMemory) l = absurd l

-- ---- a state's own bytes

own_rows : (rows : List (Bytes × Bytes)) → Rises before rows → AllByRecursion (λ b. value_at bytes_eq rows b.0 ≡ Some b.1) rows
own_rows [] r = tt
own_rows (row ∷ rows) r = (
  rw ((bytes_eq-Decides row.0 row.0).1 refl) refl,
  later rows (λ i d h. r 0 (suc i) d (omega arith) (omega (arith, h))) (own_rows rows (λ i j d h k. r (suc i) (suc j) d (omega (arith, h)) (omega (arith, k)))),
)
  where
    later : (bs : List (Bytes × Bytes)) → ((i : ℕ) (d : Bytes × Bytes) → i < length bs → IsTrue (before row.0 (slice_index_or bs i d).0))
        → AllByRecursion (λ b. value_at bytes_eq rows b.0 ≡ Some b.1) bs → AllByRecursion (λ b. value_at bytes_eq (row ∷ rows) b.0 ≡ Some b.1) bs
    later [] above all = tt
    later (b ∷ bs) above all =
        let other : bytes_eq row.0 b.0 ≡ false = under before bytes_eq sorts_bytes row.0 b.0 (above 0 b (omega arith)) in
        (rw other all.0, later bs (λ i d h. above (suc i) d (omega (arith, h))) all.1)

some_bytes : (a b : Bytes) → Some a ≡ Some b → a ≡ b
some_bytes a b e = cc

-- they stand for it
pub own_stands : (S : State) → IsState S → StandsFor (held_of S) (λ digest bytes. blob_at S.blobs digest ≡ Some bytes) S
own_stands S valid = record {
  valid = valid;
  held = refl;
  blobs = All-from_recursion (λ b. (bytes : Bytes) → (blob_at S.blobs b.0 ≡ Some bytes) ↔ (bytes ≡ b.1)) S.blobs (each S.blobs (own_rows S.blobs valid.in_order));
}
  where
    each : (bs : List (Bytes × Bytes)) → AllByRecursion (λ b. blob_at S.blobs b.0 ≡ Some b.1) bs → AllByRecursion (λ b. (bytes : Bytes) → (blob_at S.blobs b.0 ≡ Some bytes) ↔ (bytes ≡ b.1)) bs
    each [] all = tt
    each (b ∷ bs) all = (
      (λ bytes. ((λ e. some_bytes bytes b.1 (sym e ∙ all.0)), (λ e. all.0 ∙ ap Some (sym e)))),
      each bs all.1,
    )

pub own_view : {H : Held} (S : State) → IsState S → held_of S ≡ H → StandsFor H (λ digest bytes. blob_at S.blobs digest ≡ Some bytes) S
own_view S valid is = let own = own_stands S valid in record { valid = valid; held = is; blobs = own.blobs }
