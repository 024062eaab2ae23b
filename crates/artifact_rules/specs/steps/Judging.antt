-- What one rule comes to, by what is left in the queue.
use Rattle.std.specs.Prelude.{◌≡◌, ℕ, List, Some, slice_get}
use Rattle.document_parts.specs.Rules.{ArtifactRule, disallow, require}
use Rattle.artifact_rules.specs.steps.Queue.{FirstLeft, NoneLeft, Queue}
use Rattle.artifact_rules.specs.declared.faults.RuleFault.{RuleFault}
use Rattle.artifact_rules.specs.declared.faults.RuleFault.TheVariants.{Disallowed, Required, OutOfMemory}

abbrev pub IsPassed : Queue → ℕ → ArtifactRule → Type 0
IsPassed queue at (disallow pattern) = NoneLeft queue at (disallow pattern)
IsPassed queue at (require path) = (i : ℕ) × FirstLeft queue at (require path) i
IsPassed queue at r = Unit {0}

-- the first path that a DISALLOW matches and that is left
pub record IsForbidden (queue : Queue) (at : ℕ) (r : ArtifactRule) (path : List ℕ) : Type 0 where
  pub pattern : List ℕ
  pub place : ℕ
  pub taken : ℕ
  pub rule : r ≡ disallow pattern
  pub first : FirstLeft queue at r place
  pub path_at : slice_get queue place ≡ Some (path, taken)

abbrev pub IsFaultAt : Queue → ℕ → ArtifactRule → RuleFault → Type 0
IsFaultAt queue at r (Disallowed j path) = (j ≡ at) × IsForbidden queue at r path.now
IsFaultAt queue at r (Required j path) = (j ≡ at) × (r ≡ require path.now) × NoneLeft queue at r
IsFaultAt queue at r OutOfMemory = ⊥
