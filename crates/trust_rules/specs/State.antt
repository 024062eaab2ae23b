-- What a repository trusts.
use Rattle.std.specs.Prelude.{◌≡◌, ℕ, suc, ◌+◌, ◌-◌, ◌≤◌, List, [], ◌∷◌, ◌++◌, map, length, Option, Some, None, bytes_eq, option_map, unwrap_or, codes, All, IsTrue, IfSome, IfNone, IsSomeAnd, is_some}
use Rattle.path_patterns.specs.Names.{dotted}
use Rattle.std.specs.List.{AllByRecursion}
use Rattle.keys_roles.specs.Plain.{RoleRule, look_up}
use Rattle.document_parts.specs.Bodies.{IsListable}
use Rattle.document_parts.specs.Documents.{Profile, second_profile, Root, Timestamp, Snapshot, Targets, MetaFile}
use Rattle.metadata.specs.File.{IsFileOf, root_form, timestamp_form, snapshot_form, targets_form, Bytes, File}
use Rattle.delegations.specs.Delegation.{before}
use Rattle.delegations.specs.Rows.{Place, place_before, value_at, Rises, Rows, HasLength, HasHash, named_row}
use Rattle.sha2.specs.Sha256.{sha256}
use Rattle.keys_roles.specs.Rules.{Meets}
use Rattle.path_patterns.specs.Grammar.{IsName}
use Rattle.limits.specs.Limits.{blob_limit, most_held}

-- the roots in order, of each its profile and its bytes, with the document of the last, the current timestamp and snapshot, targets documents by role and version
pub record Trusted : Type 0 where
  pub roots : List (Profile × Bytes)
  pub root : Option (File Root)
  pub timestamp : Option (File Timestamp)
  pub snapshot : Option (File Snapshot)
  pub shelf : Rows

-- what is trusted, and the blobs by digest
pub record State : Type 0 where
  pub trusted : Trusted
  pub blobs : List (Bytes × Bytes)

abbrev pub nothing_trusted : Trusted
nothing_trusted = record { roots = []; root = None; timestamp = None; snapshot = None; shelf = [] }

abbrev pub nothing : State
nothing = record { trusted = nothing_trusted; blobs = [] }

abbrev pub blob_at : List (Bytes × Bytes) → Bytes → Option Bytes
blob_at blobs digest = value_at bytes_eq blobs digest

-- the entry names this file of this version
abbrev pub IsNamedBy : {A : Type 0} → MetaFile → ℕ → File A → Type 0
IsNamedBy e version file = (e.version ≡ version) × HasLength e file.bytes × HasHash e file.bytes

abbrev pub NamesSnapshot : File Timestamp → File Snapshot → Type 0
NamesSnapshot stamp snap = IsNamedBy stamp.body.snapshot snap.body.version snap

-- the snapshot version that the timestamp names, if there is a timestamp and it does not name the held snapshot
abbrev pub IsSnapshotDue : Trusted → Option ℕ → Type 0
IsSnapshotDue T (Some v) =
    IsSomeAnd T.timestamp (λ stamp. (v ≡ stamp.body.snapshot.version) × IfSome T.snapshot (λ snap. ¬ NamesSnapshot stamp snap))
IsSnapshotDue T None = IfSome T.timestamp (λ stamp. IsSomeAnd T.snapshot (NamesSnapshot stamp))

-- a root as it is kept: its profile and its bytes
abbrev pub kept_root : File Root → Profile × Bytes
kept_root root = (root.body.profile, root.bytes)

-- the profile never falls
abbrev pub KeepsProfile : Root → Root → Type 0
KeepsProfile old new = old.profile ≡ second_profile → new.profile ≡ second_profile

-- each root after the first is one version on, keeps the profile, and meets its predecessor's root rule and its own; the first meets its own
abbrev pub MeetsTop : {A : Type 0} → File Root → RoleRule → File A → Type 0
MeetsTop root rule file = Meets rule root.body.keys file.signed file.entries

pub record FollowsRoot (old new : File Root) : Type 0 where
  pub next : new.body.version ≡ old.body.version + 1
  pub profile : KeepsProfile old.body new.body
  pub by_old : MeetsTop old old.body.root new
  pub by_new : MeetsTop new new.body.root new

pub data IsRootChain : List (Profile × Bytes) → File Root → Type 0 where
  first : {b : Bytes} {root : File Root} → IsFileOf root_form root → root.bytes ≡ b → MeetsTop root root.body.root root → IsRootChain ((root.body.profile, b) ∷ []) root
  then : {bs : List (Profile × Bytes)} {old new : File Root} → IsRootChain bs old → IsFileOf root_form new → FollowsRoot old new → IsRootChain (bs ++ kept_root new ∷ []) new

pub record IsShelfRow (row : Place × File Targets) : Type 0 where
  pub document : IsFileOf targets_form row.1
  pub version : row.1.body.version ≡ row.0.1
  pub role : IsName row.0.0
  pub listable : IsListable row.0.0

pub record IsBlob (row : Bytes × Bytes) : Type 0 where
  pub digest : sha256 row.1 ≡ row.0
  pub short : length row.1 ≤ blob_limit

-- what is held meets the rules of the last root
pub record IsHeldUnder (T : Trusted) (root : File Root) : Type 0 where
  pub chain : IsRootChain T.roots root
  pub timestamp : IfSome T.timestamp (λ t. IsFileOf timestamp_form t × MeetsTop root root.body.timestamp t)
  pub snapshot : IfSome T.snapshot (λ s. IsFileOf snapshot_form s × MeetsTop root root.body.snapshot s)

pub record IsTrusted (T : Trusted) : Type 0 where
  pub held : IfSome T.root (IsHeldUnder T)
  pub none : IfNone T.root (T ≡ nothing_trusted)
  pub rows : All IsShelfRow T.shelf
  pub in_order : Rises place_before T.shelf
  pub few_roots : length T.roots ≤ most_held
  pub few_rows : length T.shelf ≤ most_held

pub record IsState (S : State) : Type 0 where
  pub trusted : IsTrusted S.trusted
  pub none : IfNone S.trusted.root (S.blobs ≡ [])
  pub blobs : All IsBlob S.blobs
  pub in_order : Rises before S.blobs
  pub few_blobs : length S.blobs ≤ most_held

-- each role that the snapshot lists has its document on the shelf
abbrev pub HoldsAll : Rows → File Snapshot → Type 0
HoldsAll shelf snap = AllByRecursion (λ m. IsTrue (is_some (named_row shelf m.0 m.1))) snap.body.meta

-- timestamp and snapshot are both absent, or the first names the second and each listed role has its document
abbrev pub AreCoherent : Option (File Timestamp) → Option (File Snapshot) → Rows → Type 0
AreCoherent None None shelf = Unit {0}
AreCoherent (Some stamp) (Some snap) shelf = NamesSnapshot stamp snap × HoldsAll shelf snap
AreCoherent _ _ shelf = ⊥

abbrev pub IsCoherent : Trusted → Type 0
IsCoherent T = AreCoherent T.timestamp T.snapshot T.shelf

-- the version of root number k: roots rise by one up to the last
abbrev pub root_version : Trusted → ℕ → ℕ
root_version T k = unwrap_or (option_map (λ root. root.body.version) T.root) 0 + k + 1 - length T.roots

-- the metadata files under their names
abbrev pub root_files : Trusted → ℕ → List (Profile × Bytes) → List (Bytes × Bytes)
root_files T k [] = []
root_files T k (b ∷ bs) = (dotted (root_version T k) (codes "root"), b.1) ∷ root_files T (suc k) bs

abbrev pub one_file : {A : Type 0} → Option (File A) → (A → Bytes) → List (Bytes × Bytes)
one_file None name = []
one_file (Some file) name = (name file.body, file.bytes) ∷ []

abbrev pub metadata_files : Trusted → List (Bytes × Bytes)
metadata_files T =
    one_file T.timestamp (λ t. codes "timestamp.json") ++ (root_files T 0 T.roots
    ++ (one_file T.snapshot (λ s. dotted s.version (codes "snapshot")) ++ map (λ row. (dotted row.0.1 row.0.0, row.1.bytes)) T.shelf))

abbrev pub metadata_of : Trusted → Bytes → Option Bytes
metadata_of T name = look_up (metadata_files T) name
