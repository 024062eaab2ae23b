-- What a client fetches, and what it makes of the answer. (TUF 1.0, sections 5.3 to 5.7)
use Rattle.std.specs.Prelude.{ℕ, ◌++◌, min, codes, Some}
use Rattle.metadata.specs.File.{Bytes, Name}
use Rattle.denials.specs.Orders.{Denial, RoleMissing, BlobMissing}
use Rattle.limits.specs.Limits.{blob_limit, file_limit}
use Rattle.path_patterns.specs.Grammar.{IsName}
use Rattle.path_patterns.specs.Names.{IsNameOf, dotted}
use Rattle.trust_rules.specs.Offers.{Offer, RootOffer, TimestampOffer, SnapshotOffer, TargetsOffer}
use Rattle.trust_rules.specs.Runs.{Command, OfferOne, PutBlob}

-- the name at the source, the most bytes, and the command that is made with the answer
pub record Wanted : Type 0 where
  pub name : Bytes
  pub limit : ℕ
  pub command : Bytes → Command

abbrev pub document : Bytes → Offer → Wanted
document file offer = record { name = codes "metadata/" ++ file; limit = file_limit; command = λ b. OfferOne offer b }

abbrev pub wanted_root : ℕ → Wanted
wanted_root version = document (dotted version (codes "root")) RootOffer

abbrev pub wanted_timestamp : Wanted
wanted_timestamp = document (codes "timestamp.json") TimestampOffer

abbrev pub wanted_snapshot : ℕ → Wanted
wanted_snapshot version = document (dotted version (codes "snapshot")) SnapshotOffer

abbrev pub wanted_row : Name → ℕ → Wanted
wanted_row role version = document (dotted version role) (TargetsOffer role)

-- a blob under its consistent name
abbrev pub wanted_blob : Bytes → Bytes → ℕ → Wanted
wanted_blob text digest len = record { name = codes "targets/" ++ text; limit = min len blob_limit; command = λ b. PutBlob digest b }

-- a denial says that this file is missing
pub data Misses : Denial → Wanted → Type 0 where
  role : {role : Name} {version : ℕ} → IsName role → Misses (RoleMissing role version) (wanted_row role version)
  blob : {text path digest : Bytes} {len : ℕ} → IsNameOf text path (Some digest) → Misses (BlobMissing path digest len) (wanted_blob text digest len)
