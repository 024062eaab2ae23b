-- A batch that is sent again: what its documents are, and what is answered then.
use Rattle.std.specs.Prelude.{◌≡◌, List, [], ◌∷◌, ◌++◌, map, Option, Some, None}
use Rattle.metadata.specs.File.{Bytes, Name}
use Rattle.trust_rules.specs.Offers.{Offer, RootOffer, TimestampOffer, SnapshotOffer, TargetsOffer}

-- one document that is offered as this, or none
abbrev pub at_most_one : Offer → Option Bytes → List (Offer × Bytes)
at_most_one o None = []
at_most_one o (Some b) = (o, b) ∷ []

-- documents of targets metadata, each with its role
abbrev pub of_roles : List (Name × Bytes) → List (Offer × Bytes)
of_roles documents = map (λ d. (TargetsOffer d.0, d.1)) documents

-- at most one root, then at most one timestamp, then at most one snapshot, then documents of targets metadata. These may be of distinct
-- roles, but need not
pub record IsInOrder (os : List (Offer × Bytes)) : Type 0 where
  pub root : Option Bytes
  pub timestamp : Option Bytes
  pub snapshot : Option Bytes
  pub targets : List (Name × Bytes)
  pub are : os ≡ at_most_one RootOffer root ++ (at_most_one TimestampOffer timestamp ++ (at_most_one SnapshotOffer snapshot ++ of_roles targets))
