-- What a command changes, and what its answer says.
use Rattle.std.specs.Prelude.{◌≡◌, Bool, false, not, List, [], ◌∷◌, ◌++◌, map, filter, cond, Option, Some, None, Ok, Err, bytes_eq}
use Rattle.document_parts.specs.Documents.{Root, Timestamp, Snapshot}
use Rattle.metadata.specs.File.{Bytes, File}
use Rattle.denials.specs.Orders.{Order}
use Rattle.delegations.specs.Delegation.{before}
use Rattle.delegations.specs.Rows.{Place, Rows, same_place, with_row, with_rows}
use Rattle.trust_rules.specs.State.{Trusted, State, kept_root}

-- what goes: rows of the shelf by their places, blobs by their digests
pub record Gone : Type 0 where
  pub rows : List Place
  pub blobs : List Bytes

abbrev pub nothing_gone : Gone
nothing_gone = record { rows = []; blobs = [] }

-- what goes of what was there; new roots in order; whether a rotation empties timestamp, snapshot and shelf; what is put there after that;
-- new blobs
pub record Effects : Type 0 where
  pub roots : List (File Root)
  pub emptied : Bool
  pub timestamp : Option (File Timestamp)
  pub snapshot : Option (File Snapshot)
  pub rows : Rows
  pub blobs : List (Bytes × Bytes)
  pub gone : Gone

abbrev pub no_effects : Effects
no_effects = record { roots = []; emptied = false; timestamp = None; snapshot = None; rows = []; blobs = []; gone = nothing_gone }

abbrev pub last_or : {A : Type 0} → Option A → List A → Option A
last_or before [] = before
last_or before (x ∷ xs) = last_or (Some x) xs

-- what is new, or what was there unless it was emptied
abbrev pub renewed : {A : Type 0} → Bool → Option A → Option A → Option A
renewed emptied old (Some new) = Some new
renewed emptied old None = cond emptied None old

abbrev pub with_blobs : List (Bytes × Bytes) → List (Bytes × Bytes) → List (Bytes × Bytes)
with_blobs blobs [] = blobs
with_blobs blobs (b ∷ bs) = with_blobs (with_row before blobs b.0 b.1) bs

-- the rows without those of these keys, one after the other
abbrev pub without : {K A : Type 0} → (K → K → Bool) → List (K × A) → List K → List (K × A)
without same rows [] = rows
without same rows (key ∷ keys) = without same (filter (λ row. not (same row.0 key)) rows) keys

abbrev pub brought : Trusted → Effects → Trusted
brought T E = record {
  roots = T.roots ++ map kept_root E.roots;
  root = last_or T.root E.roots;
  timestamp = renewed E.emptied T.timestamp E.timestamp;
  snapshot = renewed E.emptied T.snapshot E.snapshot;
  shelf = with_rows (cond E.emptied [] (without same_place T.shelf E.gone.rows)) E.rows;
}

-- the state with the changes made
abbrev pub applied : State → Effects → State
applied S E = record { trusted = brought S.trusted E; blobs = with_blobs (without bytes_eq S.blobs E.gone.blobs) E.blobs }

-- an order on what is trusted, as one on the whole state
abbrev pub on_state : State → Order Trusted → Order State
on_state S m (Ok T) = m (Ok T.trusted) × (T.blobs ≡ S.blobs)
on_state S m (Err s) = m (Err s)
