-- The trust machine: what each command is judged by, and what it leaves.
use Rattle.std.specs.Prelude.{◌≡◌, ℕ, suc, ◌+◌, ◌<◌, ◌≤◌, List, [], ◌∷◌, ◌++◌, length, filter, Bool, false, Option, Some, None, Result, Ok, Err, IfSome, IsNone, IsSome, option_map, bytes_eq, codes, if◌then◌else◌}
use Rattle.std.specs.List.{AllByRecursion, list_any}
use Rattle.keys_roles.specs.Plain.{look_up}
use Rattle.keys_roles.specs.Rules.{SameRule}
use Rattle.document_parts.specs.Documents.{Root, Timestamp, Snapshot, Targets, MetaFile}
use Rattle.sha2.specs.Sha256.{sha256}
use Rattle.metadata.specs.File.{Bytes, Name, File, root_form, timestamp_form, snapshot_form, targets_form}
use Rattle.denials.specs.Numbers as no
use Rattle.denials.specs.Orders.{Denial, Plain, Denied, Same, Judged, Order, give, check, need, same_if, judged, ◌>>=◌, ◌>>◌}
use Rattle.metadata.specs.Shaped.{shaped}
use Rattle.delegations.specs.Delegation.{before}
use Rattle.delegations.specs.Rows.{Place, Rows, same_place, row_at, with_row, place_before, entry_of, HasLength, HasHash}
use Rattle.trust_rules.specs.State.{Trusted, State, KeepsProfile, kept_root, nothing_trusted, blob_at, NamesSnapshot, MeetsTop, IsCoherent}
use Rattle.limits.specs.Limits.{most_held, blob_limit}
use Rattle.delegations.specs.Search.{shelf_of, Vouched}

-- no rotation: timestamp and snapshot role both keep their rules
abbrev pub KeepsRoles : Root → Root → Type 0
KeepsRoles old new = SameRule old.timestamp old.keys new.timestamp new.keys × SameRule old.snapshot old.keys new.snapshot new.keys

-- the state with one more root. A rotation deletes timestamp, snapshot and every shelf row
abbrev pub with_root : Trusted → File Root → Trusted
with_root T new = record T { roots = T.roots ++ kept_root new ∷ []; root = Some new }

abbrev pub emptied : Trusted → Trusted
emptied T = record T { timestamp = None; snapshot = None; shelf = [] }

pub data AfterRoot (T : Trusted) (old new : File Root) : Judged Trusted → Type 0 where
  kept : KeepsRoles old.body new.body → AfterRoot T old new (Ok (with_root T new))
  rotated : ¬ KeepsRoles old.body new.body → AfterRoot T old new (Ok (emptied (with_root T new)))

abbrev pub after_root : Trusted → File Root → File Root → Order Trusted
after_root T old new = AfterRoot T old new

pub data Offer : Type 0 where
  RootOffer : Offer
  TimestampOffer : Offer
  SnapshotOffer : Offer
  TargetsOffer : Name → Offer

-- what is offered under a role's name: three roles have documents of their own, and every other has targets metadata
abbrev pub offer_of : Name → Offer
offer_of role =
    if bytes_eq role (codes "root") then RootOffer
    else if bytes_eq role (codes "timestamp") then TimestampOffer
    else if bytes_eq role (codes "snapshot") then SnapshotOffer
    else TargetsOffer role

-- no name that both list has a lower version in the new one, and the new one lists each name of the old one
abbrev pub NoRollback : Snapshot → Snapshot → Type 0
NoRollback old new = AllByRecursion (λ m. IfSome (look_up new.meta m.0) (λ e. m.1.version ≤ e.version)) old.meta

abbrev pub NoDrop : Snapshot → Snapshot → Type 0
NoDrop old new = AllByRecursion (λ m. IsSome (look_up new.meta m.0)) old.meta

-- what a batch has done so far, and how it ends: the first denial with its index
pub record Batched : Type 0 where
  pub trusted : Trusted
  pub accepted : ℕ
  pub same : ℕ

abbrev pub BatchOrder : Type 1
BatchOrder = Result Batched (Denial × ℕ) → Type 0

-- the end of a batch: what is trusted is coherent, or the batch is denied
pub data Ended (B : Batched) (i : ℕ) : Result Batched (Denial × ℕ) → Type 0 where
  coherent : IsCoherent B.trusted → Ended B i (Ok B)
  incoherent : ¬ IsCoherent B.trusted → Ended B i (Err (Plain no.incoherent, i))

abbrev pub init : State → Bytes → Order State
init S b = do
  check no.root_exists (IsNone S.trusted.root)
  new ← shaped root_form b
  check no.new_threshold (MeetsTop new new.body.root new)
  give (record { trusted = with_root nothing_trusted new; blobs = [] })

-- what a new root is judged by beside the trusted one
abbrev pub renew_root : Trusted → File Root → File Root → Order Trusted
renew_root T old new = do
  check no.root_version (new.body.version ≡ old.body.version + 1)
  check no.profile_lowered (KeepsProfile old.body new.body)
  check no.old_threshold (MeetsTop old old.body.root new)
  check no.new_threshold (MeetsTop new new.body.root new)
  check no.full (length T.roots < most_held)
  after_root T old new

abbrev pub offer_root : Trusted → Bytes → Order Trusted
offer_root T b = do
  old ← need no.no_root T.root
  same_if (b ≡ old.bytes)
  new ← shaped root_form b
  renew_root T old new

-- the held timestamp, where root and timestamp are live
abbrev pub live_timestamp : Option (File Timestamp) → File Root → ℕ → Order (File Timestamp)
live_timestamp timestamp root now = do
  check no.root_expired (now < root.body.expires)
  stamp ← need no.no_timestamp timestamp
  check no.timestamp_expired (now < stamp.body.expires)
  give stamp

-- the held snapshot, where the live timestamp names it and it is live
abbrev pub live_snapshot : Option (File Timestamp) → Option (File Snapshot) → File Root → ℕ → Order (File Snapshot)
live_snapshot timestamp snapshot root now = do
  stamp ← live_timestamp timestamp root now
  snap ← need no.no_snapshot snapshot
  check no.snapshot_stale (NamesSnapshot stamp snap)
  check no.snapshot_expired (now < snap.body.expires)
  give snap

-- what a new timestamp is judged by beside the held one, where there is one
abbrev pub after_timestamp : Option (File Timestamp) → File Timestamp → Order (Unit {0})
after_timestamp None new = give tt
after_timestamp (Some old) new = do
  check no.timestamp_rollback (old.body.version ≤ new.body.version)
  same_if (old.body.version ≡ new.body.version)
  check no.named_snapshot_rollback (old.body.snapshot.version ≤ new.body.snapshot.version)

-- what a new timestamp is judged by
abbrev pub renew_timestamp : Trusted → File Root → File Timestamp → ℕ → Order Trusted
renew_timestamp T root new now = do
  check no.root_expired (now < root.body.expires)
  check no.timestamp_threshold (MeetsTop root root.body.timestamp new)
  after_timestamp T.timestamp new
  check no.timestamp_expired (now < new.body.expires)
  give (record T { timestamp = Some new })

abbrev pub offer_timestamp : Trusted → Bytes → ℕ → Order Trusted
offer_timestamp T b now = do
  root ← need no.no_root T.root
  new ← shaped timestamp_form b
  renew_timestamp T root new now

-- what a new snapshot is judged by beside the held one, where there is one
abbrev pub after_snapshot : Option (File Snapshot) → File Snapshot → Order (Unit {0})
after_snapshot None new = give tt
after_snapshot (Some old) new = do
  check no.snapshot_rollback (NoRollback old.body new.body)
  check no.role_dropped (NoDrop old.body new.body)

-- the timestamp names a new snapshot, which is signed
abbrev pub named_snapshot : File Timestamp → File Root → File Snapshot → Order (Unit {0})
named_snapshot stamp root new = do
  check no.snapshot_length (HasLength stamp.body.snapshot new.bytes)
  check no.snapshot_hash (HasHash stamp.body.snapshot new.bytes)
  check no.snapshot_threshold (MeetsTop root root.body.snapshot new)
  check no.snapshot_version (stamp.body.snapshot.version ≡ new.body.version)

-- what a new snapshot is judged by
abbrev pub renew_snapshot : Trusted → File Root → File Snapshot → ℕ → Order Trusted
renew_snapshot T root new now = do
  stamp ← live_timestamp T.timestamp root now
  named_snapshot stamp root new
  after_snapshot T.snapshot new
  check no.snapshot_expired (now < new.body.expires)
  same_if (option_map (λ old. old.bytes) T.snapshot ≡ Some new.bytes)
  give (record T { snapshot = Some new })

abbrev pub offer_snapshot : Trusted → Bytes → ℕ → Order Trusted
offer_snapshot T b now = do
  root ← need no.no_root T.root
  new ← shaped snapshot_form b
  renew_snapshot T root new now

-- the snapshot's entry names a new targets document
abbrev pub named_targets : MetaFile → File Targets → Order (Unit {0})
named_targets entry new = do
  check no.role_length (HasLength entry new.bytes)
  check no.role_hash (HasHash entry new.bytes)
  check no.role_version (new.body.version ≡ entry.version)

-- a place on the shelf for a new targets document
abbrev pub placed : Trusted → Name → ℕ → File Targets → Order Trusted
placed T role version new = do
  same_if (option_map (λ old. old.bytes) (row_at T.shelf role version) ≡ Some new.bytes)
  check no.version_taken (IsNone (row_at T.shelf role version))
  check no.full (length T.shelf < most_held)
  give (record T { shelf = with_row place_before T.shelf (role, version) new })

-- what a new targets document of a role is judged by
abbrev pub renew_targets : Trusted → File Root → Name → File Targets → ℕ → Order Trusted
renew_targets T root role new now = do
  snap ← live_snapshot T.timestamp T.snapshot root now
  entry ← need no.role_unlisted (entry_of snap role)
  named_targets entry new
  check no.role_threshold (Vouched (shelf_of root snap T.shelf) role new now)
  check no.role_expired (now < new.body.expires)
  placed T role entry.version new

abbrev pub offer_targets : Trusted → Name → Bytes → ℕ → Order Trusted
offer_targets T role b now = do
  root ← need no.no_root T.root
  new ← shaped targets_form b
  renew_targets T root role new now

abbrev pub offer : Trusted → Offer → Bytes → ℕ → Order Trusted
offer T RootOffer b now = offer_root T b
offer T TimestampOffer b now = offer_timestamp T b now
offer T SnapshotOffer b now = offer_snapshot T b now
offer T (TargetsOffer role) b now = offer_targets T role b now

abbrev pub put_blob : State → Bytes → Bytes → Order State
put_blob S digest b = do
  root ← need no.no_root S.trusted.root
  check no.blob_length (length b ≤ blob_limit)
  check no.digest_mismatch (sha256 b ≡ digest)
  same_if (IsSome (blob_at S.blobs digest))
  check no.full (length S.blobs < most_held)
  give (record S { blobs = with_row before S.blobs digest b })

-- pruning keeps the rows at the versions that the snapshot lists, and the blobs that these rows list

-- the snapshot, if there is one, lists the role at this version
abbrev pub is_listed : Option (File Snapshot) → Place → Bool
is_listed None place = false
is_listed (Some snap) place = list_any (λ m. same_place (m.0, m.1.version) place) snap.body.meta

abbrev pub kept_rows : Trusted → Rows
kept_rows T = filter (λ row. is_listed T.snapshot row.0) T.shelf

-- a document among these rows lists a file with this digest
abbrev pub is_wanted : Rows → Bytes → Bool
is_wanted rows digest = list_any (λ row. list_any (λ l. bytes_eq digest l.digest) row.1.body.targets) rows

abbrev pub kept_blobs : {A : Type 0} → Rows → List (Bytes × A) → List (Bytes × A)
kept_blobs rows blobs = filter (λ b. is_wanted rows b.0) blobs

abbrev pub pruned : State → State
pruned S = record { trusted = record S.trusted { shelf = kept_rows S.trusted }; blobs = kept_blobs (kept_rows S.trusted) S.blobs }

abbrev pub prune : State → Order State
prune S = do
  check no.no_root (IsSome S.trusted.root)
  give (pruned S)

-- a batch after one offer
abbrev pub going_on : Batched → ℕ → (Batched → BatchOrder) → Judged Trusted → BatchOrder
going_on B i go (Ok T) = go (record { trusted = T; accepted = suc B.accepted; same = B.same })
going_on B i go (Err Same) = go (record B { same = suc B.same })
going_on B i go (Err (Denied d)) = λ r. r ≡ Err (d, i)

abbrev pub batch_from : Batched → ℕ → List (Offer × Bytes) → ℕ → BatchOrder
batch_from B i [] now = Ended B i
batch_from B i (o ∷ os) now = judged (offer B.trusted o.0 o.1 now) (going_on B i (λ C. batch_from C (suc i) os now))

abbrev pub batch : Trusted → List (Offer × Bytes) → ℕ → BatchOrder
batch T os now = batch_from (record { trusted = T; accepted = 0; same = 0 }) 0 os now
