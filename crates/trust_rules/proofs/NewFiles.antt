-- New files that a state accepts: each order of checks, read backwards.
use Rattle.std.proofs.Common.{◌≡◌, ◌≢◌, ℕ, ◌<◌, ◌≤◌, Option, Some, None, option_map, Ok, length, true, false, refl, subst, arith}
use Rattle.std.specs.Prelude.{IfSome, IsNone, IsSome}
use Rattle.delegations.specs.Rows.{entry_of, place_before, row_at, with_row, HasHash, HasLength}
use Rattle.delegations.specs.Delegation.{before}
use Rattle.delegations.specs.Search.{Vouched, shelf_of}
use Rattle.denials.specs.Orders.{pass, holds, differs, given, need}
use Rattle.limits.specs.Limits.{blob_limit, most_held}
use Rattle.trust_rules.specs.Offers.{NoDrop, NoRollback, SnapshotOffer, TargetsOffer, TimestampOffer, after_snapshot, after_timestamp, live_snapshot, live_timestamp, offer, put_blob}
use Rattle.trust_rules.specs.State.{MeetsTop, NamesSnapshot, State, Trusted, blob_at}
use Rattle.document_parts.specs.Documents.{MetaFile, Root, Snapshot, Targets, Timestamp}
use Rattle.metadata.specs.File.{Bytes, File, IsFileOf, Name, snapshot_form, targets_form, timestamp_form}
use Rattle.metadata.specs.Shaped.{reads}
use Rattle.sha2.specs.Sha256.{sha256}

needed_is : {A : Type 0} (n : ℕ) (o : Option A) (a : A) → o ≡ Some a → need n o (Ok a)
needed_is n (Some b) a e = let same : b ≡ a = cc in subst (λ x. need n (Some b) (Ok x)) same given
needed_is n None a e = let k : None ≡ Some a = e in cc

missing : {A : Type 0} (f : A → Bytes) (o : Option A) (b : Bytes) → IsNone o → option_map f o ≡ Some b → ⊥
missing f None b none e = let k : None ≡ Some b = e in cc
missing f (Some a) b none e = let k : true ≡ false = none in cc

module _ (T : Trusted) (root : File Root) (now : ℕ) (trusts : T.root ≡ Some root) (live : now < root.body.expires) where
  after_stamp : (o : Option (File Timestamp)) (new : File Timestamp)
      → IfSome o (λ old. (old.body.version < new.body.version) × (old.body.snapshot.version ≤ new.body.snapshot.version)) → after_timestamp o new (Ok tt)
  after_stamp None new h = given
  after_stamp (Some old) new h = pass (holds (omega (arith, h.0))) (pass (differs (λ e. omega (arith, h.0))) (holds h.1))

  pub new_timestamp : (new : File Timestamp) → IsFileOf timestamp_form new → MeetsTop root root.body.timestamp new
      → IfSome T.timestamp (λ old. (old.body.version < new.body.version) × (old.body.snapshot.version ≤ new.body.snapshot.version)) → now < new.body.expires
      → offer T TimestampOffer new.bytes now (Ok (record T { timestamp = Some new }))
  new_timestamp new doc meets newer fresh =
      pass (needed_is _ T.root root trusts) (pass (reads doc refl)
      (pass (holds live) (pass (holds meets) (pass (after_stamp T.timestamp new newer) (pass (holds fresh) given)))))

  module _ (stamp : File Timestamp) (stamped : T.timestamp ≡ Some stamp) (still : now < stamp.body.expires) where
    live_stamp : live_timestamp T.timestamp root now (Ok stamp)
    live_stamp = pass (holds live) (pass (needed_is _ T.timestamp stamp stamped) (pass (holds still) given))

    after_snap : (o : Option (File Snapshot)) (new : File Snapshot) → IfSome o (λ old. NoRollback old.body new.body × NoDrop old.body new.body)
        → after_snapshot o new (Ok tt)
    after_snap None new h = given
    after_snap (Some old) new h = pass (holds h.0) (holds h.1)

    pub new_snapshot : (new : File Snapshot) → IsFileOf snapshot_form new → NamesSnapshot stamp new → MeetsTop root root.body.snapshot new
        → IfSome T.snapshot (λ old. NoRollback old.body new.body × NoDrop old.body new.body) → now < new.body.expires
        → (option_map (λ old. old.bytes) T.snapshot ≢ Some new.bytes) → offer T SnapshotOffer new.bytes now (Ok (record T { snapshot = Some new }))
    new_snapshot new doc names meets kept fresh other =
        pass (needed_is _ T.root root trusts) (pass (reads doc refl)
        (pass live_stamp (pass (pass (holds names.1) (pass (holds names.2) (pass (holds meets) (holds names.0))))
        (pass (after_snap T.snapshot new kept) (pass (holds fresh) (pass (differs other) given))))))

    module _ (snap : File Snapshot) (held : T.snapshot ≡ Some snap) (names : NamesSnapshot stamp snap) (lives : now < snap.body.expires) where
      live_snap : live_snapshot T.timestamp T.snapshot root now (Ok snap)
      live_snap = pass live_stamp (pass (needed_is _ T.snapshot snap held) (pass (holds names) (pass (holds lives) given)))

      pub new_targets : (role : Name) (entry : MetaFile) (new : File Targets) → IsFileOf targets_form new → entry_of snap role ≡ Some entry
          → HasLength entry new.bytes → HasHash entry new.bytes → new.body.version ≡ entry.version → Vouched (shelf_of root snap T.shelf) role new now
          → now < new.body.expires → IsNone (row_at T.shelf role entry.version) → length T.shelf < most_held
          → offer T (TargetsOffer role) new.bytes now (Ok (record T { shelf = with_row place_before T.shelf (role, entry.version) new }))
      new_targets role entry new doc listed long hashed version vouched fresh free room =
          pass (needed_is _ T.root root trusts) (pass (reads doc refl)
          (pass live_snap (pass (needed_is _ (entry_of snap role) entry listed)
          (pass (pass (holds long) (pass (holds hashed) (holds version)))
          (pass (holds vouched) (pass (holds fresh)
          (pass (differs (missing (λ old. old.bytes) (row_at T.shelf role entry.version) new.bytes free)) (pass (holds free) (pass (holds room) given)))))))))

pub new_blob : (S : State) (root : File Root) (b : Bytes) → S.trusted.root ≡ Some root → length b ≤ blob_limit → IsNone (blob_at S.blobs (sha256 b))
    → length S.blobs < most_held → put_blob S (sha256 b) b (Ok (record S { blobs = with_row before S.blobs (sha256 b) b }))
new_blob S root b trusts short free room =
    pass (needed_is _ S.trusted.root root trusts) (pass (holds short) (pass (holds refl)
    (pass (differs (λ some. none_and_some (blob_at S.blobs (sha256 b)) free some)) (pass (holds room) given))))
  where
    none_and_some : (o : Option Bytes) → IsNone o → IsSome o → ⊥
    none_and_some None none some = let k : false ≡ true = some in cc
    none_and_some (Some a) none some = let k : true ≡ false = none in cc
