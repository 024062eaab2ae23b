-- What the files of all rows have to be, to be those of a state.
use Rattle.std.specs.Prelude.{◌≡◌, ◌≤◌, List, [], ◌∷◌, map, length, None, All, IfSome}
use Rattle.document_parts.specs.Documents.{Root}
use Rattle.metadata.specs.File.{Bytes, File, IsFileOf, root_form, timestamp_form, snapshot_form, targets_form}
use Rattle.delegations.specs.Delegation.{before}
use Rattle.delegations.specs.Rows.{Rows, Rises, place_before}
use Rattle.trust_rules.specs.State.{State, FollowsRoot, kept_root, MeetsTop, IsBlob, IsShelfRow}
use Rattle.limits.specs.Limits.{most_held}
use Rattle.trust_rules.specs.Effects as changes

-- what a state says of its blobs alone
pub record AreBlobs (blobs : List (Bytes × Bytes)) : Type 0 where
  pub each : All IsBlob blobs
  pub in_order : Rises before blobs
  pub few : length blobs ≤ most_held

-- what a state says of its shelf alone
pub record AreShelfRows (rows : Rows) : Type 0 where
  pub each : All IsShelfRow rows
  pub in_order : Rises place_before rows
  pub few : length rows ≤ most_held

abbrev pub RowsAreRead : Rows → Type 0
RowsAreRead rows = All (λ row. IsFileOf targets_form row.1) rows

-- each root after the first follows the one before it
abbrev pub FollowOn : File Root → List (File Root) → Type 0
FollowOn old [] = Unit {0}
FollowOn old (new ∷ more) = FollowsRoot old new × FollowOn new more

abbrev pub IsChain : List (File Root) → Type 0
IsChain [] = Unit {0}
IsChain (root ∷ more) = MeetsTop root root.body.root root × FollowOn root more

-- the state of which these are all the files: the roots, the timestamp, the snapshot, the shelf, the blobs
abbrev pub laid : changes.Effects → State
laid E = record {
  trusted = record {
    roots = map kept_root E.roots;
    root = changes.last_or None E.roots;
    timestamp = E.timestamp;
    snapshot = E.snapshot;
    shelf = E.rows;
  };
  blobs = E.blobs;
}

-- each document is that of its file
pub record AreRead (E : changes.Effects) : Type 0 where
  pub roots : All (IsFileOf root_form) E.roots
  pub timestamp : IfSome E.timestamp (IsFileOf timestamp_form)
  pub snapshot : IfSome E.snapshot (IsFileOf snapshot_form)
  pub rows : RowsAreRead E.rows

-- no file but roots
pub record IsBare (E : changes.Effects) : Type 0 where
  pub timestamp : E.timestamp ≡ None
  pub snapshot : E.snapshot ≡ None
  pub rows : E.rows ≡ []
  pub blobs : E.blobs ≡ []
