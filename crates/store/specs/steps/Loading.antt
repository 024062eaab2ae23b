-- What asking for the bytes of a target file does to a connection.
use Rattle.std.specs.Prelude.{◌≡◌, List, ℕ, IsTrue}
use Rattle.std.proofs.Common.{arith}
use Rattle.sha2.specs.Sha256.{sha256}
use Rattle.sqlite.specs.Order.{Row}
use Rattle.sqlite.specs.State as database
use Rattle.sqlite.specs.State.{HasCleanDisk, Survives}
use Rattle.sqlite.proofs.StateLemmas.{survives_then}
use Rattle.sqlite_rules.specs.Lists.{Has}
use Rattle.repository_rows.specs.Contents.{Contents}
use Rattle.table_rows.specs.Rows.{blob_cells}
use Rattle.table_rows.specs.Tables.{IsStore, blob_row}

-- it writes nothing
pub record ReadsOnly (old new : database.State) : Type 0 where
  pub was_open : HasCleanDisk new → IsTrue new.is_open → IsTrue old.is_open
  pub kept : HasCleanDisk new → IsTrue new.is_open → (t : Contents) → IsStore old t → IsStore new t
  pub survives : Survives old new (λ _. ⊥)

-- reading twice is reading
pub reads_on : (a b c : database.State) → ReadsOnly a b → ReadsOnly b c → ReadsOnly a c
reads_on a b c one two = record {
  was_open = λ clean there. one.was_open (mid clean) (two.was_open clean there);
  kept = λ clean there t is. two.kept clean there t (one.kept (mid clean) (two.was_open clean there) t is);
  survives = survives_then a b c (λ _. ⊥) (λ _. ⊥) (λ _. ⊥) (λ _ db none. none) (λ _ db none. none) one.survives two.survives;
}
  where
    mid : HasCleanDisk c → HasCleanDisk b
    mid clean = omega (arith, clean, two.survives.clean)

-- the table of target files has a row of this digest and these bytes, which have it
pub record HasFile (s : database.State) (digest bytes : List ℕ) : Type 0 where
  pub row : Row
  pub there : Has (s.now.trees 5) row
  pub cells : blob_cells row ≡ blob_row (digest, bytes)
  pub digest_is : sha256 bytes ≡ digest
