-- What a request for a target does, from what is served.
use Rattle.std.proofs.Common.{◌≡◌, ◌∙◌, inl, inr, ℕ, Option, None, Result, Ok, Err, refl, sym, subst, arith}
use Rattle.std.specs.Prelude.{IfOk, IsTrue, OnOk}
use Rattle.sqlite.specs.State as database
use Rattle.sqlite.specs.State.{HasCleanDisk}
use Rattle.metadata.specs.File.{Bytes}
use Rattle.denials.specs.Orders as orders
use Rattle.denials.specs.Orders.{Order}
use Rattle.denials.specs.Views.{denial_view}
use Rattle.denials.specs.declared.denial.Denial.{Denial}
use Rattle.trust_rules.specs.State.{State, Trusted}
use Rattle.trust_rules.specs.Grants.{grants}
use Rattle.trust_rules.specs.Held.{Held}
use Rattle.trust_rules.specs.Runs.{Steps, Target, FileBytes, Refused, leads}
use Rattle.sha2.specs.Sha256.{sha256}
use Rattle.machine.specs.Serving.{HasLayout, ListsDigest, IsRefused, Refuses, Serves, by_layout, denies, serves, unread}
use Rattle.machine.specs.DeclaredServed.{Served}
use Rattle.machine.specs.DeclaredGetFault.{GetFault}
use Rattle.machine.specs.GetFaults as gets
use Rattle.machine.specs.LoadFaults as loads
use Rattle.table_rows.specs.declared.faults.StoreFault.{StoreFault}
use Rattle.table_rows.specs.declared.faults.StoreFault.TheVariants.{Damaged, Database, OutOfMemory}
use Rattle.store.specs.Applies.{Replies}
use Rattle.store.specs.Standing.{IsStateOf, StandsAt, seen}
use Rattle.store.specs.Views.{reply_view}
use Rattle.store.specs.declared.command.Reply.{Reply as Answer}
use Rattle.store.specs.declared.command.Reply.TheVariants as answers
use Rattle.store.specs.steps.Doing.{DoesAt}
use Rattle.store.specs.steps.Loading.{ReadsOnly}
use Rattle.store.specs.steps.Replies.{IsGetFault}
use Rattle.sql_tables.proofs.Outlived.{outlives_by}
use Rattle.store.proofs.Applying.{Resting, on_err}
use Rattle.store.proofs.Standings.{stands_on}

serves_step : (S : State) (path : Bytes) (asked : Option Bytes) (now : ℕ) (s : Served) → Serves S (grants S path asked now) (Ok s) → Steps S (Target path asked) now (S, FileBytes s.bytes.items)
serves_step S path asked now s (serves h blob) = leads (Ok s.bytes.items) h

-- what is served has the digest under which it is served
pub hashed : (T : Trusted) (path : Bytes) (asked : Option Bytes) (now : ℕ) (r : Result Served GetFault) → IfOk r (λ s. sha256 s.bytes.items ≡ s.digest.0)
    → IfOk r (λ s. ListsDigest T path asked now s.digest.0) → IfOk r (λ s. ListsDigest T path asked now (sha256 s.bytes.items))
hashed T path asked now (Ok s) same lists = subst (ListsDigest T path asked now) (sym same) lists
hashed T path asked now (Err fault) same lists = tt

-- the file was loaded
pub served : (kept left : Held) (old new : database.State) (path : Bytes) (asked : Option Bytes) (now : ℕ) (s : Served) → Resting kept old
    → left ≡ kept → ReadsOnly old new → (HasCleanDisk new → IsTrue new.is_open)
    → (HasCleanDisk new → IsTrue new.is_open → (U : State) → StandsAt (seen kept old) U → Serves U (grants U path asked now) (Ok s))
    → ListsDigest kept.trusted path asked now (sha256 s.bytes.items)
    → DoesAt kept left old new (Target path asked) now (Ok (answers.Bytes s.bytes))
served kept left old new path asked now s rests same reads there answer lists S at = (
  S,
  stands_on kept left old new same reads S at,
  record {
    step = (
      refl,
      (λ clean. serves_step S path asked now s (answer clean (there clean) S at)),
      subst (λ (H : Held). ListsDigest H.trusted path asked now (sha256 s.bytes.items)) (sym at.state.held) lists,
    );
    kept = tt;
    sound = λ is. let k : ◌≡◌ {A = Result Answer StoreFault} (Ok (answers.Bytes s.bytes)) (Err Damaged) = is in cc;
    clean = λ clean. omega (arith, clean, reads.survives.clean);
    live = λ clean was. there clean;
    outlives = outlives_by old new (λ _. ⊥) reads.survives;
    crash = λ clean was trees may. elim (reads.survives.crash clean trees may) [
      | inl before ↦ inl (rests (omega (arith, clean, reads.survives.clean)) was S at trees before)
      | inr none ↦ absurd none
    ];
  },
)

denied_step : (S : State) (path : Bytes) (asked : Option Bytes) (now : ℕ) (d : Denial) → Serves S (grants S path asked now) (Err (gets.Denied d)) → Steps S (Target path asked) now (S, Refused (denial_view d) None)
denied_step S path asked now d (denies h) = leads (Err (orders.Denied (denial_view d))) h

-- what is denied before anything is loaded is denied whatever the disk answers
denied_reply : (trusted : Type 0) (kept : Held) (S : State) (path : Bytes) (asked : Option Bytes) (now : ℕ) (d : Denial) {P Q : Type 0} → IsStateOf kept S
    → IsRefused kept (λ U. grants U path asked now) path now P Q d → (trusted → Q → Serves S (grants S path asked now) (Err (gets.Denied d)))
    → Replies trusted S (Target path asked) now S (Refused (denial_view d) None)
denied_reply trusted kept S path asked now d at (unread u h) served = (refl, λ sure. leads (Err (orders.Denied (denial_view d))) (h S at.valid at.held))
denied_reply trusted kept S path asked now d at (by_layout l has by) served =
    (refl, λ sure. denied_step S path asked now d (served (sure by (subst (λ (H : Held). HasLayout H.trusted path now) (sym at.held) has)) l))

no_damage : (fault : GetFault) (r : Result Answer StoreFault) → IsGetFault fault r → r ≡ Err Damaged → ⊥
no_damage (gets.Denied d) r is same = let k : ◌≡◌ {A = Result Answer StoreFault} (Ok (answers.Denied d None)) (Err Damaged) = sym is ∙ same in cc
no_damage (gets.Load loads.Missing) r is same = let k : ◌≡◌ {A = Result Answer StoreFault} (Err Database) (Err Damaged) = sym is ∙ same in cc
no_damage (gets.Load loads.Database) r is same = let k : ◌≡◌ {A = Result Answer StoreFault} (Err Database) (Err Damaged) = sym is ∙ same in cc
no_damage (gets.Load loads.OutOfMemory) r is same = let k : ◌≡◌ {A = Result Answer StoreFault} (Err OutOfMemory) (Err Damaged) = sym is ∙ same in cc
no_damage gets.OutOfMemory r is same = let k : ◌≡◌ {A = Result Answer StoreFault} (Err OutOfMemory) (Err Damaged) = sym is ∙ same in cc

-- what a denial leaves open
leaves_open : (old new : database.State) (kept : Held) (path : Bytes) (asked : Option Bytes) (now : ℕ) (d : Denial)
    → IsRefused kept (λ U. grants U path asked now) path now (IsTrue old.is_open → IsTrue new.is_open) (HasCleanDisk new → IsTrue new.is_open) d → HasCleanDisk new → IsTrue old.is_open → IsTrue new.is_open
leaves_open old new kept path asked now d (unread u h) clean was = u was
leaves_open old new kept path asked now d (by_layout l has by) clean was = l clean

pub refuses_map : (H : Held) (m : State → Order Bytes) (path : Bytes) (now : ℕ) (P Q P' Q' : Type 0) (r : Result Served GetFault) → (P → P') → (Q → Q') → Refuses H m path now P Q r → Refuses H m path now P' Q' r
refuses_map H m path now P Q P' Q' (Ok s) f g h = tt
refuses_map H m path now P Q P' Q' (Err (gets.Denied d)) f g (unread u h) = unread (f u) h
refuses_map H m path now P Q P' Q' (Err (gets.Denied d)) f g (by_layout l has by) = by_layout (g l) has by
refuses_map H m path now P Q P' Q' (Err (gets.Load fault)) f g h = tt
refuses_map H m path now P Q P' Q' (Err gets.OutOfMemory) f g h = tt

module _ (kept : Held) (old new : database.State) (path : Bytes) (asked : Option Bytes) (now : ℕ) where
  abbrev pub RefusedAt : Result Served GetFault → Type 0
  RefusedAt r = Refuses kept (λ U. grants U path asked now) path now (IsTrue old.is_open → IsTrue new.is_open) (HasCleanDisk new → IsTrue new.is_open) r

  abbrev pub AnsweredAt : Result Served GetFault → Type 0
  AnsweredAt r = HasCleanDisk new → IsTrue new.is_open → (U : State) → StandsAt (seen kept old) U → Serves U (grants U path asked now) r

  unserved_reply : (S : State) → StandsAt (seen kept old) S → (fault : GetFault) (r : Result Answer StoreFault) → IsGetFault fault r → RefusedAt (Err fault) → AnsweredAt (Err fault)
      → IfOk r (λ reply. Replies (HasCleanDisk new) S (Target path asked) now S (reply_view reply))
  unserved_reply S at (gets.Denied d) r is h answer =
      subst (λ (x : Result Answer StoreFault). IfOk x (λ reply. Replies (HasCleanDisk new) S (Target path asked) now S (reply_view reply))) (sym is)
      (denied_reply (HasCleanDisk new) kept S path asked now d at.state h (λ clean there. answer clean (there clean) S at))
  unserved_reply S at (gets.Load loads.Missing) r is h answer = subst (λ (x : Result Answer StoreFault). IfOk x (λ reply. Replies (HasCleanDisk new) S (Target path asked) now S (reply_view reply))) (sym is) tt
  unserved_reply S at (gets.Load loads.Database) r is h answer = subst (λ (x : Result Answer StoreFault). IfOk x (λ reply. Replies (HasCleanDisk new) S (Target path asked) now S (reply_view reply))) (sym is) tt
  unserved_reply S at (gets.Load loads.OutOfMemory) r is h answer = subst (λ (x : Result Answer StoreFault). IfOk x (λ reply. Replies (HasCleanDisk new) S (Target path asked) now S (reply_view reply))) (sym is) tt
  unserved_reply S at gets.OutOfMemory r is h answer = subst (λ (x : Result Answer StoreFault). IfOk x (λ reply. Replies (HasCleanDisk new) S (Target path asked) now S (reply_view reply))) (sym is) tt

  stays_open : (fault : GetFault) (r : Result Answer StoreFault) → IsGetFault fault r → RefusedAt (Err fault) → HasCleanDisk new → IsTrue old.is_open → OnOk r (IsTrue new.is_open)
  stays_open (gets.Denied d) r is h clean was = subst (λ (x : Result Answer StoreFault). OnOk x (IsTrue new.is_open)) (sym is) (leaves_open old new kept path asked now d h clean was)
  stays_open (gets.Load loads.Missing) r is h clean was = subst (λ (x : Result Answer StoreFault). OnOk x (IsTrue new.is_open)) (sym is) tt
  stays_open (gets.Load loads.Database) r is h clean was = subst (λ (x : Result Answer StoreFault). OnOk x (IsTrue new.is_open)) (sym is) tt
  stays_open (gets.Load loads.OutOfMemory) r is h clean was = subst (λ (x : Result Answer StoreFault). OnOk x (IsTrue new.is_open)) (sym is) tt
  stays_open gets.OutOfMemory r is h clean was = subst (λ (x : Result Answer StoreFault). OnOk x (IsTrue new.is_open)) (sym is) tt

  -- nothing was served
  pub unserved : (left : Held) (fault : GetFault) (r : Result Answer StoreFault) → Resting kept old → left ≡ kept → ReadsOnly old new → RefusedAt (Err fault) → AnsweredAt (Err fault) → IsGetFault fault r
      → DoesAt kept left old new (Target path asked) now r
  unserved left fault r rests same reads refused answer is S at = (
    S,
    stands_on kept left old new same reads S at,
    record {
      step = unserved_reply S at fault r is refused answer;
      kept = on_err (S ≡ S) r refl;
      sound = no_damage fault r is;
      clean = λ clean. omega (arith, clean, reads.survives.clean);
      live = λ clean was. stays_open fault r is refused clean was;
      outlives = outlives_by old new (λ _. ⊥) reads.survives;
      crash = λ clean was trees may. elim (reads.survives.crash clean trees may) [
        | inl before ↦ inl (rests (omega (arith, clean, reads.survives.clean)) was S at trees before)
        | inr none ↦ absurd none
      ];
    },
  )
