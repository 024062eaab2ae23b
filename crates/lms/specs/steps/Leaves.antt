-- The hashes of the first leaves of a tree.
use Rattle.std.specs.Prelude.{◌≡◌, ℕ, ◌+◌, List, length, map}
use Rattle.lms.specs.declared.OtsType.{OtsType}
use Rattle.lms.specs.Chains.{below}
use Rattle.lms.specs.Keys.{node_hash}

module _ (ots : OtsType) (identifier secret : List ℕ) (leaves : ℕ) where
  -- T of the first n leaves, whose nodes begin at the number `leaves`
  abbrev pub leaf_nodes : ℕ → List (List ℕ)
  leaf_nodes n = map (λ q. node_hash ots identifier secret leaves 0 (leaves + q)) (below n)

  -- these are T of the first leaves
  abbrev pub IsKnown : List (List ℕ) → Type 0
  IsKnown known = known ≡ leaf_nodes (length known)
