-- Connections that calls leave open.
use Rattle.std.proofs.Common.{inl, inr, arith}
use Rattle.sqlite.specs.State.{State, HasCleanDisk, Survives}
use Rattle.sqlite_trees.specs.Tree.{Trees}
use Rattle.sql_tables.specs.Outliving.{Outlives}

-- no call of the database was made
pub untouched : (s : State) → Outlives s s
untouched s = record { counts = omega arith; stays = λ clean was. inl was }

-- one call after another
pub outlives_then : (old mid new : State) → (HasCleanDisk new → HasCleanDisk mid) → Outlives old mid → Outlives mid new → Outlives old new
outlives_then old mid new tidy one two = record {
  counts = omega (arith, one.counts, two.counts);
  stays = λ clean was. elim (one.stays (tidy clean) was) [
    | inl there ↦ elim (two.stays clean there) [ inl still ↦ inl still | inr fault ↦ inr (omega (arith, one.counts, fault)) ]
    | inr fault ↦ inr (omega (arith, two.counts, fault))
  ];
}

pub outlives_by : (old new : State) (Commits : Trees → Type 0) → Survives old new Commits → Outlives old new
outlives_by old new Commits survives = record { counts = survives.counts; stays = survives.closes }
