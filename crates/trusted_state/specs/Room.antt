-- What a state is to its callers: what it trusts and holds, how much more can be put there without memory, and what is known of the
-- signatures on its shelf.
use Rattle.std.specs.Prelude.{ℕ, ◌-◌, max, min, length, Vec, vec_len, vec_capacity}
use Rattle.std.specs.declared.alloc.Global.{Global}
use Rattle.delegations.specs.Verdicts.{Table}
use Rattle.trust_rules.specs.State.{State}
use Rattle.trust_rules.specs.Effects as changes
use Rattle.trust_rules.specs.Held.{Held}
use Rattle.state_parts.specs.Views.{blob_views, held_view}
use Rattle.state_parts.specs.declared.effects.Blob.{Blob}
use Rattle.state_parts.specs.declared.parts.BlobLength.{BlobLength}
use Rattle.state_parts.specs.declared.parts.Trusted as code

pub record WithRoom : Type 0 where
  pub state : State
  pub room : ℕ
  pub verdicts : Table

-- the same of a state whose blobs' bytes are elsewhere
pub record WithPlaces : Type 0 where
  pub held : Held
  pub room : ℕ
  pub verdicts : Table

-- the least number of free places: for roots, for shelf rows, for blobs
abbrev pub places_in : code.Trusted → Vec BlobLength Global → ℕ
places_in t blobs =
    min (vec_capacity t.earlier - vec_len t.earlier) (min (vec_capacity t.shelf - vec_len t.shelf) (vec_capacity blobs - vec_len blobs))

abbrev pub with_places : code.Trusted → Vec BlobLength Global → Table → WithPlaces
with_places t blobs table = record { held = held_view t blobs.items; room = places_in t blobs; verdicts = table }

-- the state of these blobs
abbrev pub state_with : WithPlaces → Vec Blob Global → State
state_with held blobs = record { trusted = held.held.trusted; blobs = blob_views blobs.items }

abbrev pub with_room : WithPlaces → Vec Blob Global → WithRoom
with_room held blobs = record {
  state = state_with held blobs;
  room = min held.room (vec_capacity blobs - vec_len blobs);
  verdicts = held.verdicts;
}

-- the most places that changes need: for roots, for shelf rows, for blobs
abbrev pub places : changes.Effects → ℕ
places E = max (length E.roots) (max (length E.rows) (length E.blobs))
