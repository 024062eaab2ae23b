-- What a look at the rows leaves.
use Rattle.std.proofs.Common.{◌≡◌, ◌⊎◌, inl, inr, IsErrAnd, IsTrue, OnOk, Result, Ok, Err, sym, subst, ◌∙◌}
use Rattle.sqlite.specs.Effect.{Database}
use Rattle.sqlite.specs.State.{State, IsUnchanged, IsRolledBack, Survives}
use Rattle.sqlite.proofs.StateLemmas.{survives_then}
use Rattle.repository_rows.specs.Contents.{Contents}
use Rattle.table_rows.specs.Schema.{held}
use Rattle.table_rows.specs.Tables.{HoldsTables, IsStore}
use Rattle.table_rows.proofs.Beginnings.{six_after}

store_same : (old new : State) (t : Contents) → IsUnchanged old new → IsStore old t → IsStore new t
store_same old new t same is = record {
  is_open = same.0.is_open;
  schema = six_after same.0.now_is is.schema;
  settled = same.0.now_is ∙ is.settled ∙ sym same.0.committed_is;
  holds = subst (λ (d : Database). HoldsTables (held d.schema d.trees) t) (sym same.0.now_is) is.holds;
}

store_back : (old new : State) (t : Contents) → IsTrue new.is_open → IsRolledBack old new → IsStore old t → IsStore new t
store_back old new t stays back is =
    let both = back.undone stays in
    let now : new.now ≡ old.now = both.0 ∙ sym is.settled in
    record {
      is_open = stays;
      schema = six_after now is.schema;
      settled = both.0 ∙ sym both.1;
      holds = subst (λ (d : Database). HoldsTables (held d.schema d.trees) t) (sym now) is.holds;
    }

-- two steps that change nothing
pub unchanged_then : (a b c : State) → IsUnchanged a b → IsUnchanged b c → IsUnchanged a c
unchanged_then a b c one two = (
  record { was_open = one.0.was_open; is_open = two.0.is_open; now_is = two.0.now_is ∙ one.0.now_is; committed_is = two.0.committed_is ∙ one.0.committed_is; mode = two.0.mode ∙ one.0.mode },
  record { changes = two.1.changes ∙ one.1.changes; last_rowid = two.1.last_rowid ∙ one.1.last_rowid },
  two.2 ∙ one.2,
)

-- two steps that commit nothing
pub quiet_then : (a b c : State) → Survives a b (λ _. ⊥) → Survives b c (λ _. ⊥) → Survives a c (λ _. ⊥)
quiet_then a b c one two = survives_then a b c (λ _. ⊥) (λ _. ⊥) (λ _. ⊥) (λ _ db none. none) (λ _ db none. none) one two

-- a fault that a `?` hands on says nothing of Ok
pub on_fault : {A E : Type 0} (P : E → Type 0) (Q : Type 0) (r : Result A E) → IsErrAnd r P → OnOk r Q
on_fault P Q (Ok v) is = absurd is
on_fault P Q (Err e) is = tt

-- ---- one look at `schema`

pub looked : (old new : State) (t : Contents) → IsTrue new.is_open → IsUnchanged old new ⊎ IsRolledBack old new → IsStore old t → IsStore new t
looked old new t stays (inl same) is = store_same old new t same is
looked old new t stays (inr back) is = store_back old new t stays back is
