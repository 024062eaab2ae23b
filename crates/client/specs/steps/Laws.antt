-- What the laws of the machine and of the crates below it say, as the proof of agreement cites them.
use Rattle.std.specs.Prelude.{◌≡◌, ◌≢◌, ◌<◌, ◌≤◌, ◌+◌, ◌++◌, [], ◌∷◌, ℕ, List, Option, Some, None, Ok, Err, IfSome, IsNone, IsSome, length, codes, nat_eq, option_map, option_and_then, if◌then◌else◌}
use Rattle.std.specs.List.{AllByRecursion}
use Rattle.limits.specs.Limits.{blob_limit, most_held}
use Rattle.sha2.specs.Sha256.{sha256}
use Rattle.path_patterns.specs.Grammar.{IsName, IsTargetPath}
use Rattle.path_patterns.specs.Names.{IsNameOf, IsDigest, dotted}
use Rattle.document_parts.specs.Documents.{MetaFile, Profile, Root, Snapshot, Targets, Timestamp}
use Rattle.document_parts.specs.Bodies.{IsListable}
use Rattle.metadata.specs.File.{Bytes, Name, File, IsFileOf, root_form, snapshot_form, targets_form, timestamp_form}
use Rattle.document_parts.specs.Parts.{last_number}
use Rattle.denials.specs.Orders.{RoleMissing, BlobMissing, Denied, Judged, Same}
use Rattle.delegations.specs.Delegation.{before}
use Rattle.delegations.specs.Missed.{IsMissed}
use Rattle.delegations.specs.Rows.{HasHash, HasLength, entry_of, place_before, row_at, with_row}
use Rattle.delegations.specs.Search.{Shelf, Vouched, search, shelf_of}
use Rattle.trust_rules.specs.State.{Trusted, State, FollowsRoot, MeetsTop, NamesSnapshot, blob_at, IsRootChain, IsTrusted, IsState, kept_root, metadata_of}
use Rattle.trust_rules.specs.Offers.{AfterRoot, NoDrop, NoRollback, Offer, RootOffer, SnapshotOffer, TargetsOffer, TimestampOffer, offer, put_blob}
use Rattle.trust_rules.specs.Grants.{Listed, grants, listed}
use Rattle.trust_rules.specs.Misses.{IsPart, IsThere, MissesRole, MissesBlob, IsProperListing}
use Rattle.trust_rules.specs.Runs.{Command, Reply, Steps}

-- of roots
pub record RootLaws : Type 0 where
  pub next : (roots more : List (Profile × Bytes)) (b : Profile × Bytes) (old last : File Root) → IsRootChain roots old → IsRootChain (roots ++ b ∷ more) last
      → (new : File Root) × (kept_root new ≡ b) × IsFileOf root_form new × FollowsRoot old new × IsRootChain (roots ++ b ∷ []) new
  pub named : (T : Trusted) (roots more : List (Profile × Bytes)) (b : Profile × Bytes) (old : File Root) → IsTrusted T → IsRootChain roots old → T.roots ≡ roots ++ b ∷ more
      → metadata_of T (dotted (old.body.version + 1) (codes "root")) ≡ Some b.1
  pub newest : (T : Trusted) (root : File Root) → IsTrusted T → T.root ≡ Some root → root.body.version < last_number
      → metadata_of T (dotted (root.body.version + 1) (codes "root")) ≡ None
  pub taken : (T : Trusted) (old new : File Root) (now : ℕ) (j : Judged Trusted) → T.root ≡ Some old → IsFileOf root_form old → IsFileOf root_form new → FollowsRoot old new
      → length T.roots < most_held → offer T RootOffer new.bytes now j → AfterRoot T old new j
  pub chain : (roots : List (Profile × Bytes)) (r q : File Root) → IsRootChain roots r → IsRootChain roots q → r ≡ q

-- of commands
pub record StepLaws : Type 0 where
  pub valid : (S T : State) (c : Command) (now : ℕ) (reply : Reply) → IsState S → Steps S c now (T, reply) → IsState T
  pub offers : (T : Trusted) (o : Offer) (b : Bytes) (now : ℕ) (r q : Judged Trusted) → offer T o b now r → offer T o b now q → r ≡ q
  pub puts : (S : State) (digest b : Bytes) (r q : Judged State) → put_blob S digest b r → put_blob S digest b q → r ≡ q

-- of names and of what is accepted
pub record NewLaws : Type 0 where
  pub once : (n m : ℕ) (a b : Bytes) → n ≤ last_number → m ≤ last_number → dotted n a ≡ dotted m b → (n ≡ m) × (a ≡ b)
  pub stamp_named : (T : Trusted) → IsTrusted T → metadata_of T (codes "timestamp.json") ≡ option_map (λ t. t.bytes) T.timestamp
  pub snapshot_named : (T : Trusted) (n : ℕ) → IsTrusted T → n ≤ last_number
      → metadata_of T (dotted n (codes "snapshot")) ≡ option_and_then (λ s. if nat_eq s.body.version n then Some s.bytes else None) T.snapshot
  pub role_named : (T : Trusted) (n : ℕ) (role : Name) → IsTrusted T → n ≤ last_number → IsListable role
      → metadata_of T (dotted n role) ≡ option_map (λ f. f.bytes) (row_at T.shelf role n)
  pub timestamps : (T : Trusted) (root : File Root) (now : ℕ) → T.root ≡ Some root → now < root.body.expires
      → (new : File Timestamp) → IsFileOf timestamp_form new → MeetsTop root root.body.timestamp new
      → IfSome T.timestamp (λ old. (old.body.version < new.body.version) × (old.body.snapshot.version ≤ new.body.snapshot.version)) → now < new.body.expires
      → offer T TimestampOffer new.bytes now (Ok (record T { timestamp = Some new }))
  pub snapshots : (T : Trusted) (root : File Root) (now : ℕ) → T.root ≡ Some root → now < root.body.expires
      → (stamp : File Timestamp) → T.timestamp ≡ Some stamp → now < stamp.body.expires
      → (new : File Snapshot) → IsFileOf snapshot_form new → NamesSnapshot stamp new → MeetsTop root root.body.snapshot new
      → IfSome T.snapshot (λ old. NoRollback old.body new.body × NoDrop old.body new.body) → now < new.body.expires
      → (option_map (λ old. old.bytes) T.snapshot ≢ Some new.bytes) → offer T SnapshotOffer new.bytes now (Ok (record T { snapshot = Some new }))
  pub targets : (T : Trusted) (root : File Root) (now : ℕ) → T.root ≡ Some root → now < root.body.expires
      → (stamp : File Timestamp) → T.timestamp ≡ Some stamp → now < stamp.body.expires
      → (snap : File Snapshot) → T.snapshot ≡ Some snap → NamesSnapshot stamp snap → now < snap.body.expires
      → (role : Name) (entry : MetaFile) (new : File Targets) → IsFileOf targets_form new → entry_of snap role ≡ Some entry
      → HasLength entry new.bytes → HasHash entry new.bytes → new.body.version ≡ entry.version → Vouched (shelf_of root snap T.shelf) role new now
      → now < new.body.expires → IsNone (row_at T.shelf role entry.version) → length T.shelf < most_held
      → offer T (TargetsOffer role) new.bytes now (Ok (record T { shelf = with_row place_before T.shelf (role, entry.version) new }))
  pub blobs : (S : State) (root : File Root) (b : Bytes) → S.trusted.root ≡ Some root → length b ≤ blob_limit → IsNone (blob_at S.blobs (sha256 b))
      → length S.blobs < most_held → put_blob S (sha256 b) b (Ok (record S { blobs = with_row before S.blobs (sha256 b) b }))

-- of requests for targets
pub record GrantLaws : Type 0 where
  pub once : (S : State) (path : Bytes) (asked : Option Bytes) (now : ℕ) (r q : Judged Bytes) → grants S path asked now r → grants S path asked now q → r ≡ q
  pub granted : (S : State) (path b : Bytes) (asked : Option Bytes) (now : ℕ) → grants S path asked now (Ok b)
      → (at : Listed) × listed S.trusted path now (Ok at) × (blob_at S.blobs at.listing.digest ≡ Some b) × (length b ≡ at.listing.len)
      × IfSome asked (λ digest. at.listing.digest ≡ digest)
  pub listed_once : (T : Trusted) (path : Bytes) (now : ℕ) (r q : Judged Listed) → listed T path now r → listed T path now q → r ≡ q
  pub put : (T U : Trusted) (snap : File Snapshot) (role : Name) (b : Bytes) (now : ℕ) → T.snapshot ≡ Some snap → offer T (TargetsOffer role) b now (Ok U)
      → (entry : MetaFile) × (new : File Targets) × (entry_of snap role ≡ Some entry) × IsFileOf targets_form new × (new.bytes ≡ b)
      × (U ≡ record T { shelf = with_row place_before T.shelf (role, entry.version) new })
  pub put_same : (T : Trusted) (snap : File Snapshot) (role : Name) (b : Bytes) (now : ℕ) → T.snapshot ≡ Some snap → offer T (TargetsOffer role) b now (Err Same)
      → (entry : MetaFile) × (entry_of snap role ≡ Some entry) × IsSome (row_at T.shelf role entry.version)
  pub same : (D S : State) (path : Bytes) (asked : Option Bytes) (now : ℕ) (j : Judged Bytes) → IsPart D S → IsThere j → grants D path asked now j → grants S path asked now j
  pub roles : (D S : State) (path : Bytes) (now : ℕ) (role : Name) (version : ℕ) → IsPart D S
      → grants D path None now (Err (Denied (RoleMissing role version))) → MissesRole D S path now role version
  pub blobs : (D S : State) (path at digest : Bytes) (now len : ℕ) → IsState S → IsPart D S
      → grants D path None now (Err (Denied (BlobMissing at digest len))) → MissesBlob D S path now at digest len
  pub proper : (S : State) (path : Bytes) (now : ℕ) (at : Listed) → IsState S → listed S.trusted path now (Ok at) → IsProperListing at.listing
  pub missed : (V : Shelf) (path : Bytes) (now : ℕ) (role : Name) (version : ℕ) → search V path now (Err (Denied (RoleMissing role version))) → IsMissed V path now role version
  pub names : (f : File Snapshot) → IsFileOf snapshot_form f → AllByRecursion (λ e. IsName e.0 × IsListable e.0) f.body.meta
  pub asks_once : (text p q : List ℕ) (d e : Option (List ℕ)) → IsNameOf text p d → IsNameOf text q e → (p ≡ q) × (d ≡ e)
  pub asked_by_some : (path digest : List ℕ) → IsTargetPath path → IsDigest digest → (text : List ℕ) × IsNameOf text path (Some digest)
