-- What a server does to its repository, as long as that is open.
use Rattle.std.specs.Prelude.{ℕ, List, Option, Bool}
use Rattle.store.specs.Standing.{Keeps, Standing}
use Rattle.http_serve.specs.Serving.{Line, ServesBy}

-- From the one standing to the other lists of connections were served, one after the other, and between them it was asked whether the
-- database is open, which keeps what stands. Nothing else was done.
pub data ServedOver (reads_only : Bool) : Standing → Standing → Type 0 where
  none : {A : Standing} → ServedOver reads_only A A
  asked : {A B C : Standing} → ServedOver reads_only A B → Keeps B C → ServedOver reads_only A C
  served : {A B C : Standing} (lines : List Line) (helds : List (Option (List ℕ))) (count : ℕ) → ServedOver reads_only A B
      → ServesBy reads_only lines helds B C count → ServedOver reads_only A C
