-- What the next opening answers over trees that were left.
use Rattle.std.proofs.Common.{◌≡◌, ◌⊎◌, ◌∙◌, inl, inr, ℕ, arith, Bool, true, false, Ok, Err, Result, refl, sym, ap, subst, if◌then◌else◌, ◌==◌, [], codes, option_and_then, slice_get}
use Rattle.std.specs.Prelude.{IsTrue}
use Rattle.std.proofs.Math.Logic.{∥∥₁_elim, ∥∥₁_map}
use Rattle.std.proofs.lemmas.Bool.{true≢false}
use Rattle.sqlite.specs.Effect.{Database, IsDatabase}
use Rattle.sqlite.specs.State as database
use Rattle.sqlite.specs.State.{HasCleanDisk, IsLive, Survives}
use Rattle.sqlite_trees.specs.Tree.{Trees}
use Rattle.repository_rows.specs.Contents.{Contents}
use Rattle.trust_rules.proofs.RowsOfOneState.{one_state}
use Rattle.trust_rules.proofs.ShapedOnce.{Shapes}
use Rattle.trust_rules.specs.Runs.{Command, Reply, Steps}
use Rattle.trust_rules.specs.State.{State, IsState}
use Rattle.sql_tables.proofs.Listed.{same_tables}
use Rattle.sql_tables.specs.Opening.{IsSettled}
use Rattle.sql_tables.specs.Schema.{is_there}
use Rattle.sqlite.specs.Table.{Table}
use Rattle.sqlite_schema.specs.Names.{same_name}
use Rattle.std.specs.List.{position_from}
use Rattle.table_rows.specs.Schema.{held, rows_at}
use Rattle.table_rows.specs.Tables.{HoldsWhole, IsStore, StandsFor}
use Rattle.table_rows.specs.declared.faults.StoreFault.{StoreFault}
use Rattle.table_rows.specs.declared.faults.StoreFault.TheVariants as faults
use Rattle.store.proofs.Fitting.{one_stands, state_fits, state_rises}
use Rattle.store.specs.Applies.{HoldsReply, HoldsStep, IsEither}
use Rattle.store.specs.StateRows.{Begins, HoldsNoState, LeavesStanding, Recovers, Reopens, RestsAt, TreesStand, rows_of}

-- ---- all six tables

pub whole_stands : (trees : Trees) (t : Contents) → HoldsWhole trees t → TreesStand trees t
whole_stands trees t (db, same, sound, six, holds) = (db, same, sound, ((6, inr (inr (refl, six))), inl holds))

pub store_whole : (s : database.State) (t : Contents) → IsTrue s.is_open → IsLive s → IsStore s t → (trees : Trees) → trees ≡ s.committed.trees → HoldsWhole trees t
store_whole s t there live is trees left =
    let same : trees ≡ s.now.trees = left ∙ sym (ap (λ (d : Database). d.trees) is.settled) in
    (s.now, sym same, (live there).0, is.schema, is.holds)

-- ---- trees tell their state

-- what is held hangs on the tables and the trees alone
held_alike : (d e : Database) → d.schema.tables ≡ e.schema.tables → d.trees ≡ e.trees → held d.schema d.trees ≡ held e.schema e.trees
held_alike d e tables trees = λ i tree.
    if tree == 8 then rows_at (trees i) (option_and_then (slice_get (tables i)) (position_from (λ (t : Table). same_name t.name (codes "root2")) 0 (tables i)))
    else (if is_there (tables i) tree then trees i tree else [])

-- two readings of the same trees
alike : (d e : Database) → IsDatabase d → IsDatabase e → d.trees ≡ e.trees → held d.schema d.trees ≡ held e.schema e.trees
alike d e one two same = held_alike d e (same_tables d e one two same) same

module _ (law : Shapes) where
  pub stands_once : (trees : Trees) (U V : State) → IsState U → IsState V → TreesStand trees (rows_of U) → TreesStand trees (rows_of V) → V ≡ U
  stands_once trees U V valid valid' (d, d_is, d_sound, d_stands) (e, e_is, e_sound, e_stands) =
      let there = subst (λ (x : Trees). StandsFor x (rows_of U)) (alike d e d_sound e_sound (d_is ∙ sym e_is)) d_stands.1 in
      one_state law V U valid' valid
      (one_stands (held e.schema e.trees) (rows_of V) (rows_of U) (state_fits law V valid') (state_fits law U valid) (state_rises law V valid') (state_rises law U valid) e_stands.1 there)

  pub never_damaged : (trees : Trees) (U : State) → IsState U → TreesStand trees (rows_of U) → HoldsNoState trees → ⊥
  never_damaged trees U valid (d, d_is, d_sound, d_stands) (e, e_is, e_sound, begins, none) =
      none U valid (begins, subst (λ (x : Trees). StandsFor x (rows_of U)) (alike d e d_sound e_sound (d_is ∙ sym e_is)) d_stands.1)

-- a connection that is shut is the one that was there, since one that was made anew is open
pub shut_standing : (mid : database.State) (U : State) (in_transaction : Bool) → (in_transaction ≡ true → HasCleanDisk mid → IsTrue mid.is_open) → (in_transaction ≡ false → RestsAt mid U)
    → HasCleanDisk mid → mid.is_open ≡ false → (trees : Trees) → mid.may_leave trees → TreesStand trees (rows_of U)
shut_standing mid U true anew rests clean gone trees may = absurd (true≢false (sym (anew refl clean) ∙ gone))
shut_standing mid U false anew rests clean gone trees may = (rests refl).left gone trees may

-- ---- what the next opening answers

module _ (once : (trees : Trees) (U V : State) → IsState U → IsState V → TreesStand trees (rows_of U) → TreesStand trees (rows_of V) → V ≡ U)
    (sound : (trees : Trees) (U : State) → IsState U → TreesStand trees (rows_of U) → HoldsNoState trees → ⊥) where
  abbrev Found : (State → Type 0) → Trees → Type 0
  Found IsFound trees = (U : State) × IsState U × TreesStand trees (rows_of U) × IsFound U

  pub reopens : (IsFound : State → Type 0) (trees : Trees) → ∥ Found IsFound trees ∥₁ → Reopens trees IsFound
  reopens IsFound trees found (Ok V) opens = (
    (λ same. let k : ◌≡◌ {A = Result State StoreFault} (Ok V) (Err faults.Damaged) = same in cc),
    ∥∥₁_map found (λ it. subst IsFound (sym (once trees it.0 V it.1 opens.0 it.2 opens.1)) it.3),
  )
  reopens IsFound trees found (Err faults.Damaged) opens = absurd (∥∥₁_elim found (λ x y. absurd x) (λ it. sound trees it.0 it.1 it.2 opens))
  reopens IsFound trees found (Err faults.Database) opens = ((λ same. let k : ◌≡◌ {A = Result State StoreFault} (Err faults.Database) (Err faults.Damaged) = same in cc), tt)
  reopens IsFound trees found (Err faults.OutOfMemory) opens = ((λ same. let k : ◌≡◌ {A = Result State StoreFault} (Err faults.OutOfMemory) (Err faults.Damaged) = same in cc), tt)

  pub recovers : (trees : Trees) (U : State) → IsState U → HoldsWhole trees (rows_of U) → Recovers trees U
  recovers trees U valid whole = record { whole = whole; reopens = reopens (λ V. V ≡ U) trees ∣ (U, valid, whole_stands trees (rows_of U) whole, refl) ∣₁ }

  -- after a command, or in it
  pub reopens_either : (steps : (S T : State) (c : Command) (now : ℕ) (reply : Reply) → IsState S → Steps S c now (T, reply) → IsState T) (U : State) (c : Command) (now : ℕ) (trees : Trees)
      → IsState U → ∥ HoldsWhole trees (rows_of U) ⊎ HoldsStep U c now trees ∥₁ → Reopens trees (IsEither U c now)
  reopens_either steps U c now trees valid left = reopens (IsEither U c now) trees (∥∥₁_map left of)
    where
      of : HoldsWhole trees (rows_of U) ⊎ HoldsStep U c now trees → Found (IsEither U c now) trees
      of (inl before) = (U, valid, whole_stands trees (rows_of U) before, inl refl)
      of (inr (T, reply, step, after)) = (T, steps U T c now reply valid step, whole_stands trees (rows_of T) after, inr (reply, step))

  pub reopens_reply : (steps : (S T : State) (c : Command) (now : ℕ) (reply : Reply) → IsState S → Steps S c now (T, reply) → IsState T) (U : State) (c : Command) (now : ℕ) (reply : Reply) (trees : Trees)
      → IsState U → ∥ HoldsReply U c now reply trees ∥₁ → Reopens trees (λ V. Steps U c now (V, reply))
  reopens_reply steps U c now reply trees valid left = reopens (λ V. Steps U c now (V, reply)) trees (∥∥₁_map left of)
    where
      of : HoldsReply U c now reply trees → Found (λ V. Steps U c now (V, reply)) trees
      of (T, step, after) = (T, steps U T c now reply valid step, whole_stands trees (rows_of T) after, step)

  -- after an opening, or in it: what stood for a state stands for it
  pub stands_still : (s : database.State) (U : State) (trees : Trees) → (IsTrue s.is_open → (d : Trees) → s.may_leave d → d ≡ s.committed.trees) → IsSettled s → IsLive s
      → RestsAt s U → s.may_leave trees ⊎ Begins s trees → TreesStand trees (rows_of U)
  stands_still s U trees committed settled live rests (inl may) = at_rest s.is_open refl
    where
      at_rest : (b : _) → s.is_open ≡ b → TreesStand trees (rows_of U)
      at_rest true is = subst (λ (d : Trees). TreesStand d (rows_of U)) (sym (committed is trees may)) (rests.committed is)
      at_rest false is = rests.left is trees may
  stands_still s U trees committed settled live rests (inr (there, (V, valid, stands, whole))) =
      let found : TreesStand s.committed.trees (rows_of V) = (s.now, ap (λ (d : Database). d.trees) (settled there), (live there).0, stands) in
      let same : U ≡ V = once s.committed.trees V U valid rests.valid found (rests.committed there) in
      subst (λ (W : State). TreesStand trees (rows_of W)) (sym same) (whole_stands trees (rows_of V) whole)

  pub reopens_same : (s : database.State) (U : State) (trees : Trees) → (IsTrue s.is_open → (d : Trees) → s.may_leave d → d ≡ s.committed.trees) → IsSettled s → IsLive s
      → RestsAt s U → ∥ s.may_leave trees ⊎ Begins s trees ∥₁ → Reopens trees (λ V. V ≡ U)
  reopens_same s U trees committed settled live rests left =
      reopens (λ V. V ≡ U) trees (∥∥₁_map left (λ it. (U, rests.valid, stands_still s U trees committed settled live rests it, refl)))

  -- the same over a connection that was made anew of what was committed, or is the one that was there
  pub stays_standing : (old mid new : database.State) (U : State) → RestsAt old U → (IsTrue mid.is_open → (d : Trees) → mid.may_leave d → d ≡ mid.committed.trees) → IsLive mid
      → (HasCleanDisk mid → IsSettled mid) → (HasCleanDisk mid → IsTrue mid.is_open → mid.now.trees ≡ old.committed.trees) → (HasCleanDisk mid → IsTrue mid.is_open → IsTrue old.is_open)
      → (HasCleanDisk mid → mid.is_open ≡ false → (trees : Trees) → mid.may_leave trees → TreesStand trees (rows_of U)) → Survives mid new (Begins mid) → LeavesStanding new U
  stays_standing old mid new U rests committed live settled same was_open shut survives clean trees may =
      let early : HasCleanDisk mid = omega (arith, clean, survives.clean) in
      stands_still mid U trees committed (settled early) live
      (record {
        valid = rests.valid;
        committed = λ there. subst (λ (d : Trees). TreesStand d (rows_of U)) (sym (same early there) ∙ ap (λ (d : Database). d.trees) (settled early there)) (rests.committed (was_open early there));
        left = λ gone. shut early gone;
      })
      (survives.crash clean trees may)
