-- Where a store stands, from what it keeps.
use Rattle.std.proofs.Common.{◌≡◌, ◌⊎◌, ◌∙◌, inl, inr, ℕ, Result, Ok, Err, arith, refl, subst, sym}
use Rattle.std.specs.Prelude.{IfOk, IsTrue, OnOk}
use Rattle.std.proofs.Math.Logic.{∥∥₁_map}
use Rattle.sqlite.specs.State as database
use Rattle.sqlite.specs.State.{HasCleanDisk}
use Rattle.sqlite_trees.specs.Tree.{Trees}
use Rattle.trust_rules.specs.State.{State}
use Rattle.trust_rules.specs.Held.{Held, OfEachState}
use Rattle.trust_rules.specs.Runs.{Command}
use Rattle.table_rows.specs.Tables.{HoldsWhole, IsStore}
use Rattle.table_rows.specs.declared.faults.StoreFault.{StoreFault}
use Rattle.table_rows.specs.declared.faults.StoreFault.TheVariants.{Damaged, Database, OutOfMemory}
use Rattle.store.specs.Applies.{Applies, HoldsReply, Makes}
use Rattle.store.specs.Standing.{IsStateOf, Keeps, StandsAt, seen}
use Rattle.store.specs.StateRows.{rows_of}
use Rattle.store.specs.Views.{reply_view}
use Rattle.store.specs.declared.command.Reply.{Reply as Answer}
use Rattle.store.specs.steps.Doing.{DoesAt}
use Rattle.store.specs.steps.Loading.{ReadsOnly}
use Rattle.store.proofs.Applying.{replies_step}

-- a store stands at a state of which it keeps what is held, and whose rows its tables hold
pub stands_at : (kept : Held) (db : database.State) (S : State) → IsStateOf kept S → (HasCleanDisk db → IsTrue db.is_open → IsStore db (rows_of S)) → StandsAt (seen kept db) S
stands_at kept db S of rows = record {
  state = of;
  rows = λ clean there. let is = rows clean there in record { schema = is.schema; settled = is.settled; holds = is.holds };
}

pub store_at : (kept : Held) (db : database.State) (S : State) → StandsAt (seen kept db) S → HasCleanDisk db → IsTrue db.is_open → IsStore db (rows_of S)
store_at kept db S at clean there = let is = at.rows clean there in record { is_open = there; schema = is.schema; settled = is.settled; holds = is.holds }

-- what is so of each state that a store may keep, from what is so of each that what it holds may be
pub each : (H kept : Held) (P : State → Type 0) → H ≡ kept → OfEachState H P → (S : State) → IsStateOf kept S → P S
each H kept P same told S of = told S of.valid (of.held ∙ sym same)

-- reading leaves a store where it stands
pub stands_on : (kept left : Held) (old new : database.State) → left ≡ kept → ReadsOnly old new → (S : State) → StandsAt (seen kept old) S → StandsAt (seen left new) S
stands_on kept left old new same reads S at =
    stands_at left new S (subst (λ k. IsStateOf k S) (sym same) at.state)
    (λ clean there. reads.kept clean there (rows_of S) (store_at kept old S at (omega (arith, clean, reads.survives.clean)) (reads.was_open clean there)))

pub reads_keep : (kept left : Held) (old new : database.State) → left ≡ kept → ReadsOnly old new → Keeps (seen kept old) (seen left new)
reads_keep kept left old new same reads = record {
  state = λ S at. (S, stands_on kept left old new same reads S at, refl);
  clean = λ clean. omega (arith, clean, reads.survives.clean);
}

pub reads_nothing : (db : database.State) → ReadsOnly db db
reads_nothing db = record {
  was_open = λ clean there. there;
  kept = λ clean there t is. is;
  survives = record {
    clean = omega arith;
    shield = λ shielded. shielded;
    counts = omega arith;
    limit = refl;
    closes = λ clean there. inl there;
    crash = λ clean trees may. inl may;
  };
}

-- a call that read, or made no call of the database
pub reads_if : {K : Type 0} (shows : K → database.State) (old new : K) → (new ≡ old) ⊎ ReadsOnly (shows old) (shows new) → ReadsOnly (shows old) (shows new)
reads_if shows old new (inl same) = subst (λ k. ReadsOnly (shows old) (shows k)) (sym same) (reads_nothing (shows old))
reads_if shows old new (inr reads) = reads

makes : (kept left : Held) (old new : database.State) (c : Command) (now : ℕ) (r : Result Answer StoreFault) → DoesAt kept left old new c now r
    → (HasCleanDisk new → OnOk r (IsTrue old.is_open)) → (S : State) × StandsAt (seen kept old) S → Makes (seen kept old) (seen left new) c now r
makes kept left old new c now (Ok reply) does there (S, at) =
    let (T, to, here) = does S at in (
      (λ U at. let (V, to, done) = does U at in (V, to, done.step)),
      record { clean = here.clean; is_open = λ clean. (there clean, here.live clean (there clean)) },
    )
makes kept left old new c now (Err OutOfMemory) does there (S, at) =
    let (T, to, here) = does S at in record { state = λ U at. let (V, to, done) = does U at in (V, to, done.kept); clean = here.clean }
makes kept left old new c now (Err Database) does there (S, at) =
    let (T, to, here) = does S at in record { state = λ U at. let (V, to, done) = does U at in (V, to, done.kept); clean = here.clean }
makes kept left old new c now (Err Damaged) does there (S, at) = let (T, to, here) = does S at in here.sound refl

-- what a call does to what is kept, as it is said to callers
pub applies : (kept left : Held) (old new : database.State) (c : Command) (now : ℕ) (r : Result Answer StoreFault) → DoesAt kept left old new c now r
    → (HasCleanDisk new → OnOk r (IsTrue old.is_open)) → (S : State) × StandsAt (seen kept old) S
    → (HasCleanDisk new → IsTrue new.is_open → (T : State) → StandsAt (seen left new) T → (trees : Trees) → new.may_leave trees → HoldsWhole trees (rows_of T))
    → Applies kept left old new c now r
applies kept left old new c now r does there stands rests = record {
  makes = makes kept left old new c now r does there stands;
  stays = let (T, to, here) = does stands.0 stands.1 in here.outlives.stays;
  crash = λ clean was U at trees may. let (V, to, done) = does U at in done.crash clean was trees may;
  durable = λ clean is T at trees may. rests clean is T at trees may;
}

-- what a call that replied leaves for the next open
pub replied : (kept left : Held) (old new : database.State) (c : Command) (now : ℕ) (r : Result Answer StoreFault) → Applies kept left old new c now r → HasCleanDisk new
    → (U : State) → StandsAt (seen kept old) U → (trees : Trees) → ∥ new.may_leave trees ∥₁ → IfOk r (λ reply. ∥ HoldsReply U c now (reply_view reply) trees ∥₁)
replied kept left old new c now (Ok reply) applies clean U at trees may =
    let (V, to, steps) = applies.makes.0 U at in
    ∥∥₁_map may (λ may. (V, replies_step _ U c now V (reply_view reply) clean steps, applies.durable clean (applies.makes.1.is_open clean).1 V to trees may))
replied kept left old new c now (Err fault) applies clean U at trees may = tt
