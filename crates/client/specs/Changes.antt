-- What a call makes of a store.
use Rattle.trust_rules.specs.State.{State}
use Rattle.store.specs.Standing.{IsClean, Moves, Standing}

-- For each state at which the store stood there is one at which it stands then, and this is so related to the first. Where a wrong answer
-- of the disk was taken as true before, that is so still.
pub record Changes (A B : Standing) (Between : State → State → Type 0) : Type 0 where
  pub moves : Moves A B Between
  pub clean : IsClean B → IsClean A
