-- What an opening and a look at the connection leave.
use Rattle.std.proofs.Common.{◌≡◌, ◌≢◌, ◌⊎◌, inl, inr, ℕ, [], IsTrue, IfOk, OnOk, Result, Ok, Err, Bool, true, false, sym, subst, arith, ◌∙◌}
use Rattle.sqlite.specs.Effect.{Database}
use Rattle.sqlite.specs.State.{State, HasCleanDisk, IsUnchanged, Survives}
use Rattle.sqlite.proofs.StateLemmas.{survives_then}
use Rattle.sqlite_trees.specs.Tree.{Trees}
use Rattle.table_rows.specs.Schema.{HasSix, IsFree, held}
use Rattle.repository_tables.specs.Migration.{IsEarlier}
use Rattle.table_rows.specs.Reading.{HoldsAs}
use Rattle.table_rows.specs.Schema.{HasSome}
use Rattle.table_rows.proofs.Beginnings.{none_held, root2_absent, six_after, some_after}
use Rattle.repository_rows.specs.Contents.{Contents, no_rows}
use Rattle.table_rows.specs.Tables.{AreBare, HoldsFirst, HoldsTables, HoldsWhole, IsStore, StandsFor}

pub loaded_store : (old new : State) (t : Contents) → IsUnchanged old new → old.now ≡ old.committed → HasSix old.now.schema → HoldsTables (held old.now.schema old.now.trees) t → IsStore new t
loaded_store old new t same settled schema holds = record {
  is_open = same.0.is_open;
  schema = six_after same.0.now_is schema;
  settled = same.0.now_is ∙ settled ∙ sym same.0.committed_is;
  holds = subst (λ (d : Database). HoldsTables (held d.schema d.trees) t) (sym same.0.now_is) holds;
}

-- ---- one answer, of which two facts are known

pub both_ok : {A E : Type 0} (P : A → Type 0) (H Q : Type 0) (r : Result A E) → IfOk r P → (H → OnOk r Q) → IfOk r (λ a. P a × (H → Q))
both_ok P H Q (Ok a) p q = (p, q)
both_ok P H Q (Err e) p q = tt

-- ---- what was read is a store, or an earlier one

-- the tables that were asked are as they were
abbrev Asked : State → Contents → Bool → Type 0
Asked s t is_first = HoldsAs is_first (held s.now.schema s.now.trees) t

pub stands_as : (is_first : Bool) (trees : Trees) (t : Contents) → HoldsAs is_first trees t → StandsFor trees t
stands_as true trees t holds = inr (inl holds)
stands_as false trees t holds = inl holds

pub late_store : (count : ℕ) (old new : State) (t : Contents) (is_first : Bool) → IsUnchanged old new → old.now ≡ old.committed → HasSome count old.now.schema → Asked old t is_first → is_first ≡ false → count ≢ 5
    → IsStore new t
late_store count old new t true same settled some holds late not_five = absurd (let f = late in cc)
late_store count old new t false same settled (inl first) holds late not_five = absurd (not_five first.0)
late_store count old new t false same settled (inr all) holds late not_five = loaded_store old new t same settled all.1 holds

pub early_store : (count : ℕ) (old new : State) (t : Contents) (is_first : Bool) → IsUnchanged old new → old.now ≡ old.committed → HasSome count old.now.schema → Asked old t is_first → (is_first ≡ true) ⊎ (count ≡ 5)
    → IsEarlier new t
early_store count old new t is_first same settled some holds early = record {
  is_open = same.0.is_open;
  schema = subst (λ (d : Database). IsFree d.schema ⊎ HasSix d.schema) (sym same.0.now_is) (schema_is some);
  settled = same.0.now_is ∙ settled ∙ sym same.0.committed_is;
  holds = subst (λ (d : Database). HoldsFirst (held d.schema d.trees) t ⊎ HoldsTables (held d.schema d.trees) t) (sym same.0.now_is) (either is_first holds);
  lacks = subst (λ (d : Database). held d.schema d.trees 8 ≡ []) (sym same.0.now_is) (lacks is_first early holds);
}
  where
    schema_is : HasSome count old.now.schema → IsFree old.now.schema ⊎ HasSix old.now.schema
    schema_is (inl first) = inl first.1
    schema_is (inr all) = inr all.1

    either : (b : Bool) → Asked old t b → HoldsFirst (held old.now.schema old.now.trees) t ⊎ HoldsTables (held old.now.schema old.now.trees) t
    either true h = inl h
    either false h = inr h

    absent : HasSome count old.now.schema → count ≡ 5 → held old.now.schema old.now.trees 8 ≡ []
    absent (inl first) is = root2_absent old.now.schema old.now.trees first.1
    absent (inr all) is = absurd (omega (arith, all.0, is))

    lacks : (b : Bool) → (b ≡ true) ⊎ (count ≡ 5) → Asked old t b → held old.now.schema old.now.trees 8 ≡ []
    lacks true e h = none_held _ h.root2
    lacks false (inl set) h = absurd (let f = set in cc)
    lacks false (inr is) h = absent some is

-- ---- the row of `schema` is put after a look at the tables

abbrev pub Begins : ℕ → State → Trees → Type 0
Begins count s trees = HasSome count s.now.schema → IsTrue s.is_open × AreBare (held s.now.schema s.now.trees) × HoldsWhole trees no_rows

pub began : (count : ℕ) (old mid end : State) (is_bare : Bool) → (HasCleanDisk mid → HasSome count old.now.schema → IsUnchanged old mid)
    → (HasCleanDisk mid → HasSome count old.now.schema → is_bare ≡ true → AreBare (held old.now.schema old.now.trees)) → Survives old mid (λ _. ⊥)
    → Survives mid end (λ trees. (is_bare ≡ true) × IsTrue mid.is_open × (HasSome count mid.now.schema → AreBare (held mid.now.schema mid.now.trees) → HoldsWhole trees no_rows)) → Survives old end (Begins count old)
began count old mid end is_bare unchanged empty quiet writes =
    let Q = λ (trees : Trees). (is_bare ≡ true) × IsTrue mid.is_open × (HasSome count mid.now.schema → AreBare (held mid.now.schema mid.now.trees) → HoldsWhole trees no_rows) in
    survives_then old mid end (λ _. ⊥) Q (Begins count old) (λ _ db none. absurd none)
    (λ clean db h schema.
    let early : HasCleanDisk mid = omega (arith, clean, writes.clean) in
    let same : IsUnchanged old mid = unchanged early schema in
    let bare = empty early schema h.0 in
    (same.0.was_open, bare, h.2 (some_after count same.0.now_is schema) (subst (λ (d : Database). AreBare (held d.schema d.trees)) (sym same.0.now_is) bare)))
    quiet writes
