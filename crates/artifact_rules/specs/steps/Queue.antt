-- The paths of a side in order, each with the place of the first rule that takes it.
use Rattle.std.specs.Prelude.{◌≡◌, ℕ, ◌<◌, ◌≤◌, List, length, map, Some, slice_get}
use Rattle.std.specs.List.{AllZip}
use Rattle.path_patterns.specs.Matching.{MatchesFlat}
use Rattle.document_parts.specs.Links.{Artifacts, Link}
use Rattle.document_parts.specs.Rules.{Side, ArtifactRule, disallow, require}
use Rattle.artifact_rules.specs.Rules.{Takes}
use Rattle.artifact_rules.specs.declared.queue.Queued.{Queued}

-- paths with places
abbrev pub Queue : Type 0
Queue = List (List ℕ × ℕ)

abbrev pub queue_view : List Queued → Queue
queue_view queue = map (λ q. (q.path.now, q.taken)) queue

module _ (side : Side) (link : Link) (links : List Link) (rules : List ArtifactRule) where
  -- rule number n is the first that takes the path; n is their number where none does
  pub record IsTaken (path : List ℕ) (n : ℕ) : Type 0 where
    pub most : n ≤ length rules
    pub before : (i : ℕ) (r : ArtifactRule) → i < n → slice_get rules i ≡ Some r → Takes side link links r path → ⊥
    pub by : (r : ArtifactRule) → slice_get rules n ≡ Some r → Takes side link links r path

  abbrev pub IsQueue : Artifacts → Queue → Type 0
  IsQueue rows queue = AllZip (λ row q. (q.0 ≡ row.0) × IsTaken row.0 q.1) rows queue

-- a path that fails a DISALLOW, or that a REQUIRE names
abbrev pub IsAsked : ArtifactRule → List ℕ → Type 0
IsAsked (disallow pattern) path = MatchesFlat pattern path
IsAsked (require required) path = required ≡ path
IsAsked r path = ⊥

-- it is left at rule number j
abbrev pub IsLeft : ℕ → ArtifactRule → List ℕ × ℕ → Type 0
IsLeft j r q = (j ≤ q.1) × IsAsked r q.0

abbrev pub NoneLeft : Queue → ℕ → ArtifactRule → Type 0
NoneLeft queue j r = (i : ℕ) (q : List ℕ × ℕ) → slice_get queue i ≡ Some q → IsLeft j r q → ⊥

pub record FirstLeft (queue : Queue) (j : ℕ) (r : ArtifactRule) (i : ℕ) : Type 0 where
  pub below : i < length queue
  pub left : (q : List ℕ × ℕ) → slice_get queue i ≡ Some q → IsLeft j r q
  pub before : (k : ℕ) (q : List ℕ × ℕ) → k < i → slice_get queue k ≡ Some q → IsLeft j r q → ⊥
