-- The timestamp and the snapshot of an update from an honest source, after its roots: it ends in want; or both states deny every
-- target; or the client has the server's timestamp and snapshot, and beside them what it had.
use Rattle.std.proofs.Common.{◌≡◌, ◌≢◌, ◌⊎◌, inl, inr, ℕ, ◌<◌, ◌≤◌, Bool, true, false, List, [], ◌∷◌, Option, Some, None, option_map, Result, Ok, Err, refl, sym, ap, ◌∙◌, subst, arith}
use Rattle.path_patterns.specs.Names.{dotted}
use Rattle.std.specs.Prelude.{codes, IfSome, IsSome, IsSomeAnd, nat_eq, option_and_then, if◌then◌else◌}
use Rattle.std.specs.List.{AllByRecursion}
use Rattle.std.proofs.lemmas.Bool.{cases_lt, eq-eqb}
use Rattle.path_patterns.specs.Grammar.{IsTargetPath}
use Rattle.keys_roles.specs.Plain.{look_up}
use Rattle.document_parts.specs.Documents.{MetaFile, Root, Snapshot, Timestamp}
use Rattle.metadata.specs.File.{Bytes, File, Name, IsFileOf, snapshot_form, timestamp_form}
use Rattle.document_parts.specs.Parts.{last_number}
use Rattle.metadata.specs.Shaped.{reads}
use Rattle.denials.specs.Numbers as no
use Rattle.denials.specs.Orders.{Denial, Denied, Judged, Plain, Same, ◌>>◌, check, decide, fails, give, given, holds, need, pass, same, same_if, stopped}
use Rattle.delegations.specs.Rows.{entry_of}
use Rattle.trust_rules.proofs.ShapedOnce.{Shapes, file-once, snapshot-tells, timestamp-tells}
use Rattle.trust_rules.specs.State.{AreCoherent, HoldsAll, IsCoherent, IsHeldUnder, IsSnapshotDue, IsState, MeetsTop, NamesSnapshot, State, Trusted, metadata_of}
use Rattle.trust_rules.specs.Offers.{NoDrop, NoRollback, Offer, after_snapshot, after_timestamp, SnapshotOffer, TimestampOffer, live_snapshot, live_timestamp, offer}
use Rattle.trust_rules.specs.Grants.{grants}
use Rattle.trust_rules.specs.Runs.{with_trusted}
use Rattle.fetch.specs.Source.{Gives}
use Rattle.client.specs.Answering.{IsHonest}
use Rattle.client.specs.Behind.{IsBare, IsOlder, IsOlderSnapshot, IsOlderTimestamp}
use Rattle.client.specs.Session as session
use Rattle.client.specs.Session.{Takes, TakesSnapshot, TakesTimestamp}
use Rattle.client.specs.Views as views
use Rattle.client.specs.Views.{Fault}
use Rattle.client.specs.Wanted.{wanted_snapshot, wanted_timestamp}
use Rattle.client.proofs.HonestTakes.{EndsAs, arrives, arrives_valid, as_made, document_arrives, no_document}
use Rattle.client.specs.Several.{IsWanting}
use Rattle.client.proofs.HonestTakes as takes
use Rattle.client.specs.steps.Laws.{NewLaws, StepLaws}
use Rattle.client.proofs.RootsFollow.{held_by}

-- ---- denials of both

abbrev pub IsDenied : State → Bytes → ℕ → Type 0
IsDenied S path now = (n : ℕ) × grants S path None now (Err (Denied (Plain n)))

abbrev pub Denies : State → State → Bytes → ℕ → Type 0
Denies S D path now = IsDenied S path now × IsDenied D path now

there : {A : Type 0} (n : ℕ) (o : Option A) (a : A) → o ≡ Some a → need n o (Ok a)
there n o a e = subst (λ p. need n p (Ok a)) (sym e) given

gone : {A : Type 0} (n : ℕ) (o : Option A) → o ≡ None → need {A = A} n o (Err (Denied (Plain n)))
gone n o e = subst (λ p. need n p (Err (Denied (Plain n)))) (sym e) stopped

module _ (path : Bytes) (is : IsTargetPath path) (now : ℕ) (X : State) (root : File Root) (trusts : X.trusted.root ≡ Some root) where
  denied_by : (n : ℕ) → live_snapshot X.trusted.timestamp X.trusted.snapshot root now (Err (Denied (Plain n))) → IsDenied X path now
  denied_by n l = (n, decide (pass (holds is) (pass (there no.no_root X.trusted.root root trusts) (decide l))))

  pub root_dead : (now < root.body.expires → ⊥) → IsDenied X path now
  root_dead dead = denied_by no.root_expired (decide (decide (fails dead)))

  pub no_stamp : now < root.body.expires → X.trusted.timestamp ≡ None → IsDenied X path now
  no_stamp live e = denied_by no.no_timestamp (decide (pass (holds live) (decide (gone no.no_timestamp X.trusted.timestamp e))))

  module _ (live : now < root.body.expires) (stamp : File Timestamp) (stamped : X.trusted.timestamp ≡ Some stamp) where
    pub stamp_dead : (now < stamp.body.expires → ⊥) → IsDenied X path now
    stamp_dead dead = denied_by no.timestamp_expired (decide (pass (holds live) (pass (there no.no_timestamp X.trusted.timestamp stamp stamped) (decide (fails dead)))))

    module _ (lives : now < stamp.body.expires) where
      stamp_lives : live_timestamp X.trusted.timestamp root now (Ok stamp)
      stamp_lives = pass (holds live) (pass (there no.no_timestamp X.trusted.timestamp stamp stamped) (pass (holds lives) given))

      pub no_snap : X.trusted.snapshot ≡ None → IsDenied X path now
      no_snap e = denied_by no.no_snapshot (pass stamp_lives (decide (gone no.no_snapshot X.trusted.snapshot e)))

      pub snap_dead : (snap : File Snapshot) → X.trusted.snapshot ≡ Some snap → NamesSnapshot stamp snap → (now < snap.body.expires → ⊥) → IsDenied X path now
      snap_dead snap e names dead = denied_by no.snapshot_expired (pass stamp_lives (pass (there no.no_snapshot X.trusted.snapshot snap e) (pass (holds names) (decide (fails dead)))))

-- ---- what a server has

pub record Server (S : Trusted) (root : File Root) (stamp : File Timestamp) (snap : File Snapshot) : Type 0 where
  pub timestamp : S.timestamp ≡ Some stamp
  pub snapshot : S.snapshot ≡ Some snap
  pub names : NamesSnapshot stamp snap
  pub all : HoldsAll S.shelf snap
  pub stamp_read : IsFileOf timestamp_form stamp
  pub snap_read : IsFileOf snapshot_form snap
  pub stamp_meets : MeetsTop root root.body.timestamp stamp
  pub snap_meets : MeetsTop root root.body.snapshot snap

pub server_of : (S : Trusted) (root : File Root) (stamp : File Timestamp) (snap : File Snapshot) → IsHeldUnder S root → IsCoherent S → S.timestamp ≡ Some stamp → S.snapshot ≡ Some snap
    → Server S root stamp snap
server_of S root stamp snap held coherent ts sn =
    let both : AreCoherent (Some stamp) (Some snap) S.shelf = subst (λ (o : Option (File Snapshot)). AreCoherent (Some stamp) o S.shelf) sn (subst (λ (o : Option (File Timestamp)). AreCoherent o S.snapshot S.shelf) ts coherent) in
    let t = subst (λ (o : Option (File Timestamp)). IfSome o (λ x. IsFileOf timestamp_form x × MeetsTop root root.body.timestamp x)) ts held.timestamp in
    let s = subst (λ (o : Option (File Snapshot)). IfSome o (λ x. IsFileOf snapshot_form x × MeetsTop root root.body.snapshot x)) sn held.snapshot in
    record { timestamp = ts; snapshot = sn; names = both.0; all = both.1; stamp_read = t.0; snap_read = s.0; stamp_meets = t.1; snap_meets = s.1 }

-- a coherent server with a timestamp has a snapshot
pub has_snapshot : (S : Trusted) (stamp : File Timestamp) → IsCoherent S → S.timestamp ≡ Some stamp → (snap : File Snapshot) × (S.snapshot ≡ Some snap)
has_snapshot S stamp coherent ts = by S.snapshot refl
  where
    by : (o : Option (File Snapshot)) → S.snapshot ≡ o → (snap : File Snapshot) × (S.snapshot ≡ Some snap)
    by (Some snap) e = (snap, e)
    by None e = absurd (subst (λ (o : Option (File Snapshot)). AreCoherent (Some stamp) o S.shelf) e (subst (λ (o : Option (File Timestamp)). AreCoherent o S.snapshot S.shelf) ts coherent))

-- ---- rollbacks

older_rows : (new : Snapshot) (rows : List (Name × MetaFile)) → AllByRecursion (λ m. IsSomeAnd (look_up new.meta m.0) (λ entry. m.1.version ≤ entry.version)) rows
    → AllByRecursion (λ m. IfSome (look_up new.meta m.0) (λ e. m.1.version ≤ e.version)) rows × AllByRecursion (λ m. IsSome (look_up new.meta m.0)) rows
older_rows new [] h = (tt, tt)
older_rows new (m ∷ rows) h = let more = older_rows new rows h.1 in let one = by (look_up new.meta m.0) h.0 in ((one.0, more.0), (one.1, more.1))
  where
    by : (o : Option MetaFile) → IsSomeAnd o (λ entry. m.1.version ≤ entry.version) → IfSome o (λ e. m.1.version ≤ e.version) × IsSome o
    by None k = absurd k
    by (Some entry) k = (k, refl)

pub some_ap : {A : Type 0} (a b : A) → Some a ≡ Some b → a ≡ b
some_ap a b e = cc

-- how an update goes on after its roots
abbrev pub IsCalm : Result (Unit {0}) Fault → Type 0
IsCalm (Ok u) = Unit {0}
IsCalm (Err (views.Denied d)) = Unit {0}
IsCalm (Err fault) = ⊥

-- the client with the server's timestamp and snapshot
abbrev pub with_both : State → File Timestamp → File Snapshot → State
with_both D stamp snap = with_trusted D (record D.trusted { timestamp = Some stamp; snapshot = Some snap })

abbrev pub with_stamp : State → File Timestamp → State
with_stamp D stamp = with_trusted D (record D.trusted { timestamp = Some stamp })

calm_ok : (r : Result (Unit {0}) Fault) → r ≡ Ok tt → IsCalm r
calm_ok r e = subst IsCalm (sym e) tt

calm_denied : (r : Result (Unit {0}) Fault) (d : Denial) → r ≡ Err (views.Denied d) → IsCalm r
calm_denied r d e = subst IsCalm (sym e) tt

not_true : ◌≡◌ {A = Bool} false true → ⊥
not_true e = cc

module _ (law : NewLaws) (step_law : StepLaws) (shapes : Shapes) (S : State) (sure : IsState S) (root : File Root) (trusts : S.trusted.root ≡ Some root) (now : ℕ)
    {Src : Type 0} (from : Gives Src) (Is : Src → Type 0) (honest : IsHonest from Is S now) where
  -- the end of an offer whose judgement is known
  abbrev Ends : State → State → Result Bool Fault → Judged Trusted → Type 0
  Ends C D r k = IsWanting r ⊎ (EndsAs (with_trusted C) C D (as_made r) k × ((there : Bool) → r ≡ Ok there → there ≡ true))

  ends : (o : Offer) (b : Bytes) (C D : State) (r : Result Bool Fault) (k : Judged Trusted) → takes.Document now o b C D r → offer C.trusted o b now k → Ends C D r k
  ends o b C D r k (inl want) h = inl want
  ends o b C D r k (inr (j, g, e, right)) h = inr (subst (λ (x : Judged Trusted). EndsAs (with_trusted C) C D (as_made r) x) (step_law.offers C.trusted o b now j k g h) e, right)

  module _ (live : now < root.body.expires) (stamp : File Timestamp) (snap : File Snapshot) (has : Server S.trusted root stamp snap) where
    stamp_there : metadata_of S.trusted (codes "timestamp.json") ≡ Some stamp.bytes
    stamp_there = law.stamp_named S.trusted sure.trusted ∙ ap (option_map (λ (t : File Timestamp). t.bytes)) has.timestamp

    take_stamp : (C D : State) (s t : Src) (r : Result Bool Fault) (k : Judged Trusted) → Is s → IsState C → Takes from now wanted_timestamp s C t D r → offer C.trusted TimestampOffer stamp.bytes now k
        → Ends C D r k × Is t × IsState D
    take_stamp C D s t r k is valid h g =
        let a = arrives from Is S now honest wanted_timestamp s t C D r is h in (
          ends TimestampOffer stamp.bytes C D r k (document_arrives S now (codes "timestamp.json") TimestampOffer stamp.bytes stamp_there has.stamp_read.read.file.file.short C D r a.0) g,
          a.1,
          arrives_valid step_law now _ _ C D r valid a.0,
        )

    snap_there : (v : ℕ) → v ≡ stamp.body.snapshot.version → metadata_of S.trusted (dotted v (codes "snapshot")) ≡ Some snap.bytes
    snap_there v e =
        let low : snap.body.version ≤ last_number = has.snap_read.read.body.head.1.2.2 in
        let n : stamp.body.snapshot.version ≡ snap.body.version = has.names.0 in
        let small : v ≤ last_number = omega (arith, low, n, e) in
        let same : nat_eq snap.body.version v ≡ true = eq-eqb snap.body.version v (sym n ∙ sym e) in
        law.snapshot_named S.trusted v sure.trusted small
        ∙ (ap (option_and_then (λ (s : File Snapshot). if nat_eq s.body.version v then Some s.bytes else None)) has.snapshot
        ∙ ap (λ (x : Bool). if x then Some snap.bytes else None) same)

    take_snap : (C D : State) (v : ℕ) (s t : Src) (r : Result Bool Fault) (k : Judged Trusted) → v ≡ stamp.body.snapshot.version → Is s → IsState C → Takes from now (wanted_snapshot v) s C t D r
        → offer C.trusted SnapshotOffer snap.bytes now k → Ends C D r k × Is t × IsState D
    take_snap C D v s t r k e is valid h g =
        let a = arrives from Is S now honest (wanted_snapshot v) s t C D r is h in (
          ends SnapshotOffer snap.bytes C D r k (document_arrives S now (dotted v (codes "snapshot")) SnapshotOffer snap.bytes (snap_there v e) has.snap_read.read.file.file.short C D r a.0) g,
          a.1,
          arrives_valid step_law now _ _ C D r valid a.0,
        )

    pub same_stamp : (old : File Timestamp) → IsFileOf timestamp_form old → old.bytes ≡ stamp.bytes → old ≡ stamp
    same_stamp old read e = file-once shapes timestamp_form timestamp-tells old stamp read has.stamp_read e

    pub same_snap : (old : File Snapshot) → IsFileOf snapshot_form old → old.bytes ≡ snap.bytes → old ≡ snap
    same_snap old read e = file-once shapes snapshot_form snapshot-tells old snap read has.snap_read e

    module _ (D : State) (valid : IsState D) (known : D.trusted.root ≡ Some root) where
      pub stamp_of : (old : File Timestamp) → D.trusted.timestamp ≡ Some old → IsFileOf timestamp_form old
      stamp_of old e = (subst (λ (o : Option (File Timestamp)). IfSome o (λ x. IsFileOf timestamp_form x × MeetsTop root root.body.timestamp x)) e (held_by D.trusted root valid.trusted known).timestamp).0

      pub snap_of : (old : File Snapshot) → D.trusted.snapshot ≡ Some old → IsFileOf snapshot_form old
      snap_of old e = (subst (λ (o : Option (File Snapshot)). IfSome o (λ x. IsFileOf snapshot_form x × MeetsTop root root.body.snapshot x)) e (held_by D.trusted root valid.trusted known).snapshot).0

      -- the server's timestamp, where it is dead, is denied
      dead_stamp : (now < stamp.body.expires → ⊥) → D.trusted.timestamp ≡ None → offer D.trusted TimestampOffer stamp.bytes now (Err (Denied (Plain no.timestamp_expired)))
      dead_stamp dead e =
          pass (there no.no_root D.trusted.root root known) (pass (reads has.stamp_read refl) (pass (holds live) (pass (holds has.stamp_meets)
          (subst (λ (o : Option (File Timestamp)). (after_timestamp o stamp >> (check no.timestamp_expired (now < stamp.body.expires) >> give (record D.trusted { timestamp = Some stamp }))) (Err (Denied (Plain no.timestamp_expired))))
          (sym e) (pass given (decide (fails dead)))))))

      module _ (lives : now < stamp.body.expires) where
        -- a timestamp that is older is followed by the server's
        abbrev pub after : State
        after = with_stamp D stamp

        newer : IfSome D.trusted.timestamp (λ old. (old.body.version < stamp.body.version) × (old.body.snapshot.version ≤ stamp.body.snapshot.version)) → offer D.trusted TimestampOffer stamp.bytes now (Ok (record D.trusted { timestamp = Some stamp }))
        newer lower = law.timestamps D.trusted root now known live stamp has.stamp_read has.stamp_meets lower lives

        again : (old : File Timestamp) → D.trusted.timestamp ≡ Some old → old.bytes ≡ stamp.bytes → offer D.trusted TimestampOffer stamp.bytes now (Err Same)
        again old e bytes =
            pass (there no.no_root D.trusted.root root known) (pass (reads has.stamp_read refl) (pass (holds live) (pass (holds has.stamp_meets)
            (subst (λ (o : Option (File Timestamp)). (after_timestamp o stamp >> (check no.timestamp_expired (now < stamp.body.expires) >> give (record D.trusted { timestamp = Some stamp }))) (Err Same))
            (sym (e ∙ ap (λ (x : File Timestamp). Some x) (same_stamp old (stamp_of old e) bytes))) (decide (pass (holds (omega arith)) (decide (same refl))))))))

        -- so it is taken, or there is want
        abbrev pub Stamped : State → Result Bool Fault → Type 0
        Stamped E r = IsWanting r ⊎ ((E ≡ after) × (as_made r ≡ Ok tt) × ((there : Bool) → r ≡ Ok there → there ≡ true))

        pub stamped : (E : State) (s t : Src) (r : Result Bool Fault) → Is s → IfSome D.trusted.timestamp (IsOlderTimestamp stamp) → Takes from now wanted_timestamp s D t E r → Stamped E r × Is t × IsState E
        stamped E s t r is older h = by D.trusted.timestamp refl older
          where
            new : Ends D E r (Ok (record D.trusted { timestamp = Some stamp })) → Stamped E r
            new (inl want) = inl want
            new (inr (e, right)) = inr (e.0, e.1, right)

            old_same : (old : File Timestamp) → D.trusted.timestamp ≡ Some stamp → Ends D E r (Err Same) → Stamped E r
            old_same old e (inl want) = inl want
            old_same old e (inr (k, right)) = inr (k.0 ∙ ap (λ (o : Option (File Timestamp)). with_trusted D (record D.trusted { timestamp = o })) e, k.1, right)

            by : (o : Option (File Timestamp)) → D.trusted.timestamp ≡ o → IfSome o (IsOlderTimestamp stamp) → Stamped E r × Is t × IsState E
            by None e h2 =
                let a = take_stamp D E s t r _ is valid h (newer (subst (λ (o : Option (File Timestamp)). IfSome o (λ old. (old.body.version < stamp.body.version) × (old.body.snapshot.version ≤ stamp.body.snapshot.version))) (sym e) tt)) in
                (new a.0, a.1, a.2)
            by (Some old) e (inl bytes) =
                let a = take_stamp D E s t r _ is valid h (again old e bytes) in
                (old_same old (e ∙ ap (λ (x : File Timestamp). Some x) (same_stamp old (stamp_of old e) bytes)) a.0, a.1, a.2)
            by (Some old) e (inr lower) =
                let a = take_stamp D E s t r _ is valid h (newer (subst (λ (o : Option (File Timestamp)). IfSome o (λ old. (old.body.version < stamp.body.version) × (old.body.snapshot.version ≤ stamp.body.snapshot.version))) (sym e) lower)) in
                (new a.0, a.1, a.2)

        -- the snapshot of a client that has the server's timestamp
        module _ (ready : IsState after) where
          dead_snap : (now < snap.body.expires → ⊥) → D.trusted.snapshot ≡ None → offer after.trusted SnapshotOffer snap.bytes now (Err (Denied (Plain no.snapshot_expired)))
          dead_snap dead e =
              pass (there no.no_root D.trusted.root root known) (pass (reads has.snap_read refl)
              (pass (pass (holds live) (pass given (pass (holds lives) given)))
              (pass (pass (holds has.names.1) (pass (holds has.names.2) (pass (holds has.snap_meets) (holds has.names.0))))
              (subst (λ (o : Option (File Snapshot)). (after_snapshot o snap >> (check no.snapshot_expired (now < snap.body.expires)
              >> (same_if (option_map (λ old. old.bytes) D.trusted.snapshot ≡ Some snap.bytes) >> give (record after.trusted { snapshot = Some snap })))) (Err (Denied (Plain no.snapshot_expired))))
              (sym e) (pass given (decide (fails dead)))))))

          newer_snap : now < snap.body.expires → IfSome D.trusted.snapshot (λ old. NoRollback old.body snap.body × NoDrop old.body snap.body) → (option_map (λ old. old.bytes) D.trusted.snapshot ≢ Some snap.bytes)
              → offer after.trusted SnapshotOffer snap.bytes now (Ok (record after.trusted { snapshot = Some snap }))
          newer_snap fresh keeps other = law.snapshots after.trusted root now known live stamp refl lives snap has.snap_read has.names has.snap_meets keeps fresh other

          -- it is taken, or there is want
          abbrev pub Snapped : Src → State → Result (Unit {0}) Fault → Type 0
          Snapped t E r = IsWanting r ⊎ ((E ≡ with_both D stamp snap) × (r ≡ Ok tt) × Is t)

          due_there : (E : State) (v : ℕ) (s t : Src) (r : Result Bool Fault) → v ≡ stamp.body.snapshot.version → Is s → Takes from now (wanted_snapshot v) s after t E r
              → offer after.trusted SnapshotOffer snap.bytes now (Ok (record after.trusted { snapshot = Some snap })) → Snapped t E (as_made r)
          due_there E v s t (Ok b) e is h g = by (take_snap after E v s t (Ok b) _ e is ready h g)
            where
              by : Ends after E (Ok b) (Ok (record after.trusted { snapshot = Some snap })) × Is t × IsState E → Snapped t E (Ok tt)
              by (inl want, on, good) = absurd want
              by (inr (k, right), on, good) = inr (k.0, refl, on)
          due_there E v s t (Err fault) e is h g = by (take_snap after E v s t (Err fault) _ e is ready h g)
            where
              by : Ends after E (Err fault) (Ok (record after.trusted { snapshot = Some snap })) × Is t × IsState E → Snapped t E (Err fault)
              by (inl want, on, good) = inl want
              by (inr (k, right), on, good) = inr (k.0, k.1, on)

          -- no snapshot is held
          none_held : now < snap.body.expires → D.trusted.snapshot ≡ None → offer after.trusted SnapshotOffer snap.bytes now (Ok (record after.trusted { snapshot = Some snap }))
          none_held fresh e = newer_snap fresh
              (subst (λ (o : Option (File Snapshot)). IfSome o (λ old. NoRollback old.body snap.body × NoDrop old.body snap.body)) (sym e) tt)
              (λ k. no_none (subst (λ (o : Option (File Snapshot)). option_map (λ (old : File Snapshot). old.bytes) o ≡ Some snap.bytes) e k))
            where
              no_none : ◌≡◌ {A = Option Bytes} None (Some snap.bytes) → ⊥
              no_none k = cc

          old_held : now < snap.body.expires → (old : File Snapshot) → D.trusted.snapshot ≡ Some old → ¬ NamesSnapshot stamp old
              → AllByRecursion (λ m. IsSomeAnd (entry_of snap m.0) (λ entry. m.1.version ≤ entry.version)) old.body.meta
              → offer after.trusted SnapshotOffer snap.bytes now (Ok (record after.trusted { snapshot = Some snap }))
          old_held fresh old e other rows = newer_snap fresh
              (subst (λ (o : Option (File Snapshot)). IfSome o (λ old. NoRollback old.body snap.body × NoDrop old.body snap.body)) (sym e) (older_rows snap.body old.body.meta rows))
              (λ k. other (subst (λ (s : File Snapshot). NamesSnapshot stamp s) (sym (same_snap old (snap_of old e) (some_ap old.bytes snap.bytes (subst (λ (o : Option (File Snapshot)). option_map (λ (old : File Snapshot). old.bytes) o ≡ Some snap.bytes) e k)))) has.names))

          pub snapped : now < snap.body.expires → IfSome D.trusted.snapshot (IsOlderSnapshot stamp snap) → (E : State) (s t : Src) (r : Result (Unit {0}) Fault) → Is s
              → TakesSnapshot from now s after t E r → Snapped t E r
          snapped fresh older E s t r is h = by D.trusted.snapshot refl older h
            where
              offered : offer after.trusted SnapshotOffer snap.bytes now (Ok (record after.trusted { snapshot = Some snap })) → (IsSnapshotDue after.trusted None → ⊥)
                  → (E : State) (r : Result (Unit {0}) Fault) (t : Src) → TakesSnapshot from now s after t E r → Snapped t E r
              offered g due E _ _ (session.held k) = absurd (due k)
              offered g due E _ t (session.due {there = there} v k h) = due_there E v s t (Ok there) k.0 is h g
              offered g due E _ t (session.fails {fault = fault} v k h) = due_there E v s t (Err fault) k.0 is h g

              kept : D.trusted.snapshot ≡ Some snap → (E : State) (r : Result (Unit {0}) Fault) (t : Src) → TakesSnapshot from now s after t E r → Snapped t E r
              kept e _ _ _ (session.held k) = inr (ap (λ (o : Option (File Snapshot)). with_trusted D (record D.trusted { timestamp = Some stamp; snapshot = o })) e, refl, is)
              kept e E _ t (session.due v k h) = absurd (subst (λ (o : Option (File Snapshot)). IfSome o (λ x. ¬ NamesSnapshot stamp x)) e k.1 has.names)
              kept e E _ t (session.fails v k h) = absurd (subst (λ (o : Option (File Snapshot)). IfSome o (λ x. ¬ NamesSnapshot stamp x)) e k.1 has.names)

              by : (o : Option (File Snapshot)) → D.trusted.snapshot ≡ o → IfSome o (IsOlderSnapshot stamp snap) → TakesSnapshot from now s after t E r → Snapped t E r
              by None e k h = offered (none_held fresh e) (λ due. subst (λ (o : Option (File Snapshot)). IsSomeAnd o (NamesSnapshot stamp)) e due) E r t h
              by (Some old) e (inl bytes) h = kept (e ∙ ap (λ (x : File Snapshot). Some x) (same_snap old (snap_of old e) bytes)) E r t h
              by (Some old) e (inr lower) h =
                  offered (old_held fresh old e lower.0 lower.1) (λ due. lower.0 (subst (λ (o : Option (File Snapshot)). IsSomeAnd o (NamesSnapshot stamp)) e due)) E r t h

          -- a snapshot that is dead leaves the client without one
          dead_snapped : (now < snap.body.expires → ⊥) → D.trusted.snapshot ≡ None → (E : State) (s t : Src) (r : Result (Unit {0}) Fault) → Is s → TakesSnapshot from now s after t E r
              → IsWanting r ⊎ ((E ≡ after) × IsCalm r × Is t)
          dead_snapped dead e E s t _ is (session.held k) = absurd (subst (λ (o : Option (File Snapshot)). IsSomeAnd o (NamesSnapshot stamp)) e k)
          dead_snapped dead e E s t _ is (session.due {there = there} v k h) = by (take_snap after E v s t (Ok there) _ k.0 is ready h (dead_snap dead e))
            where
              by : Ends after E (Ok there) (Err (Denied (Plain no.snapshot_expired))) × Is t × IsState E → IsWanting {A = Unit {0}} (Ok tt) ⊎ ((E ≡ after) × IsCalm (Ok tt) × Is t)
              by (inl want, on, good) = absurd want
              by (inr (k, right), on, good) = inr (k.0, tt, on)
          dead_snapped dead e E s t _ is (session.fails {fault = fault} v k h) = by (take_snap after E v s t (Err fault) _ k.0 is ready h (dead_snap dead e))
            where
              by : Ends after E (Err fault) (Err (Denied (Plain no.snapshot_expired))) × Is t × IsState E → IsWanting {A = Unit {0}} (Err fault) ⊎ ((E ≡ after) × IsCalm (Err fault) × Is t)
              by (inl want, on, good) = inl want
              by (inr (k, right), on, good) = inr (k.0, calm_denied (Err fault) (Plain no.snapshot_expired) k.1, on)

  -- ---- the whole

  pub takes_valid : (w : _) (s t : Src) (C D : State) (r : Result Bool Fault) → Is s → IsState C → Takes from now w s C t D r → IsState D
  takes_valid w s t C D r is valid h = arrives_valid step_law now _ _ C D r valid (arrives from Is S now honest w s t C D r is h).0

  pub on : (w : _) (s t : Src) (C D : State) (r : Result Bool Fault) → Is s → Takes from now w s C t D r → Is t
  on w s t C D r is h = (arrives from Is S now honest w s t C D r is h).1

  snapshot_valid : (s t : Src) (C D : State) (r : Result (Unit {0}) Fault) → Is s → IsState C → TakesSnapshot from now s C t D r → IsState D
  snapshot_valid s _ C _ _ is valid (session.held e) = valid
  snapshot_valid s t C D _ is valid (session.due v e h) = takes_valid _ s t C D _ is valid h
  snapshot_valid s t C D _ is valid (session.fails v e h) = takes_valid _ s t C D _ is valid h

  pub timestamp_valid : (s t : Src) (C D : State) (r : Result (Unit {0}) Fault) → Is s → IsState C → TakesTimestamp from now s C t D r → IsState D
  timestamp_valid s t C D _ is valid (session.none h) = takes_valid _ s t C D _ is valid h
  timestamp_valid s t C D _ is valid (session.fails h) = takes_valid _ s t C D _ is valid h
  timestamp_valid s u C E _ is valid (session.then {t = t} {D = D} {r = r} h more) = snapshot_valid t u D E r (on _ s t C D _ is h) (takes_valid _ s t C D _ is valid h) more

  -- the client is as up to date as the server, which is live
  pub record Ready (D E : State) : Type 0 where
    pub stamp : File Timestamp
    pub snap : File Snapshot
    pub has : Server S.trusted root stamp snap
    pub root_lives : now < root.body.expires
    pub stamp_lives : now < stamp.body.expires
    pub snap_lives : now < snap.body.expires
    pub is : E ≡ with_both D stamp snap

  module _ (path : Bytes) (is_path : IsTargetPath path) (D : State) (valid : IsState D) (known : D.trusted.root ≡ Some root) where
    abbrev pub Brought : Src → State → Result (Unit {0}) Fault → Type 0
    Brought t E r = IsWanting r ⊎ (Is t × IsCalm r × (Denies S E path now ⊎ Ready D E))

    -- a timestamp that is denied, or is not there, leaves the client as it was
    unstamped : (s t : Src) (E : State) (r : Result (Unit {0}) Fault) → Is s
        → ((q : Result Bool Fault) (u : Src) (X : State) → Takes from now wanted_timestamp s D u X q → IsWanting q ⊎ ((X ≡ D) × (q ≢ Ok true) × IsCalm (as_made q)))
        → TakesTimestamp from now s D t E r → IsWanting r ⊎ (Is t × IsCalm r × (E ≡ D))
    unstamped s t E _ is each (session.none h) = by (each (Ok false) t E h)
      where
        by : IsWanting {A = Bool} (Ok false) ⊎ ((E ≡ D) × (◌≢◌ {A = Result Bool Fault} (Ok false) (Ok true)) × IsCalm (Ok tt)) → IsWanting {A = Unit {0}} (Ok tt) ⊎ (Is t × IsCalm (Ok tt) × (E ≡ D))
        by (inl want) = absurd want
        by (inr (e, n, c)) = inr (on _ s t D E _ is h, c, e)
    unstamped s t E _ is each (session.fails {fault = fault} h) = by (each (Err fault) t E h)
      where
        by : IsWanting {A = Bool} (Err fault) ⊎ ((E ≡ D) × (◌≢◌ {A = Result Bool Fault} (Err fault) (Ok true)) × IsCalm (Err fault)) → IsWanting {A = Unit {0}} (Err fault) ⊎ (Is t × IsCalm (Err fault) × (E ≡ D))
        by (inl want) = inl want
        by (inr (e, n, c)) = inr (on _ s t D E _ is h, c, e)
    unstamped s u E r is each (session.then {t = t} {D = X} h more) = absurd (by (each (Ok true) t X h))
      where
        by : IsWanting {A = Bool} (Ok true) ⊎ ((X ≡ D) × (◌≢◌ {A = Result Bool Fault} (Ok true) (Ok true)) × IsCalm (Ok tt)) → ⊥
        by (inl want) = want
        by (inr (e, n, c)) = n refl

    not_ok : (q : Result Bool Fault) (d : Denial) → as_made q ≡ Err (views.Denied d) → q ≢ Ok true
    not_ok (Ok b) d e k = let p : ◌≡◌ {A = Result (Unit {0}) Fault} (Ok tt) (Err (views.Denied d)) = e in cc
    not_ok (Err fault) d e k = cc

    both_deny : (E : State) → IsDenied S path now → IsDenied D path now → E ≡ D → Denies S E path now
    both_deny E s d e = (s, subst (λ (X : State). IsDenied X path now) (sym e) d)

    -- the server has no timestamp
    no_timestamp : S.trusted.timestamp ≡ None → (q : Result Bool Fault) (s u : Src) (X : State) → Is s → Takes from now wanted_timestamp s D u X q → IsWanting q ⊎ ((X ≡ D) × (q ≢ Ok true) × IsCalm (as_made q))
    no_timestamp e q s u X is h = by (no_document S now (codes "timestamp.json") TimestampOffer
        (law.stamp_named S.trusted sure.trusted ∙ ap (option_map (λ (t : File Timestamp). t.bytes)) e) D X q (arrives from Is S now honest wanted_timestamp s u D X q is h).0)
      where
        by : IsWanting q ⊎ ((q ≡ Ok false) × (X ≡ D)) → IsWanting q ⊎ ((X ≡ D) × (q ≢ Ok true) × IsCalm (as_made q))
        by (inl want) = inl want
        by (inr (k, f)) = inr (f, (λ o. not_true (ok_ap (sym k ∙ o))), subst (λ (x : Result Bool Fault). IsCalm (as_made x)) (sym k) tt)
          where
            ok_ap : ◌≡◌ {A = Result Bool Fault} (Ok false) (Ok true) → false ≡ true
            ok_ap e = cc

    -- the server's timestamp is denied
    denied_stamp : (stamp : File Timestamp) → S.trusted.timestamp ≡ Some stamp → IsFileOf timestamp_form stamp → (d : Denial) → offer D.trusted TimestampOffer stamp.bytes now (Err (Denied d))
        → (q : Result Bool Fault) (s u : Src) (X : State) → Is s → Takes from now wanted_timestamp s D u X q → IsWanting q ⊎ ((X ≡ D) × (q ≢ Ok true) × IsCalm (as_made q))
    denied_stamp stamp held read d g q s u X is h =
        let a = arrives from Is S now honest wanted_timestamp s u D X q is h in
        by (ends TimestampOffer stamp.bytes D X q (Err (Denied d)) (document_arrives S now (codes "timestamp.json") TimestampOffer stamp.bytes
        (law.stamp_named S.trusted sure.trusted ∙ ap (option_map (λ (t : File Timestamp). t.bytes)) held) read.read.file.file.short D X q a.0) g)
      where
        by : Ends D X q (Err (Denied d)) → IsWanting q ⊎ ((X ≡ D) × (q ≢ Ok true) × IsCalm (as_made q))
        by (inl want) = inl want
        by (inr (k, right)) = inr (k.0, not_ok q d k.1, calm_denied (as_made q) d k.1)

    dead_root : (now < root.body.expires → ⊥) → (stamp : File Timestamp) → IsFileOf timestamp_form stamp → offer D.trusted TimestampOffer stamp.bytes now (Err (Denied (Plain no.root_expired)))
    dead_root dead stamp read = pass (there no.no_root D.trusted.root root known) (pass (reads read refl) (decide (fails dead)))

    stamp_read : (stamp : File Timestamp) → S.trusted.timestamp ≡ Some stamp → IsFileOf timestamp_form stamp
    stamp_read stamp e = (subst (λ (o : Option (File Timestamp)). IfSome o (λ x. IsFileOf timestamp_form x × MeetsTop root root.body.timestamp x)) e (held_by S.trusted root sure.trusted trusts).timestamp).0

    deny : (t : Src) (E : State) (r : Result (Unit {0}) Fault) → IsDenied S path now → IsDenied D path now → IsWanting r ⊎ (Is t × IsCalm r × (E ≡ D)) → Brought t E r
    deny t E r s d (inl want) = inl want
    deny t E r s d (inr (is, calm, e)) = inr (is, calm, inl (both_deny E s d e))

    bare_stamp : IsBare D.trusted ⊎ IsOlder D.trusted S.trusted now → (S.trusted.timestamp ≡ None) ⊎ ((stamp : File Timestamp) × (S.trusted.timestamp ≡ Some stamp) × (now < stamp.body.expires → ⊥)) → D.trusted.timestamp ≡ None
    bare_stamp (inl bare) _ = bare.timestamp
    bare_stamp (inr older) (inl e) = let k : Some older.stamp ≡ None = sym older.timestamp_held ∙ e in absurd cc
    bare_stamp (inr older) (inr (stamp, e, dead)) =
        absurd (dead (subst (λ (x : File Timestamp). now < x.body.expires) (some_ap older.stamp stamp (sym older.timestamp_held ∙ e)) older.timestamp_live))

    bare_snap : IsBare D.trusted ⊎ IsOlder D.trusted S.trusted now → (snap : File Snapshot) → S.trusted.snapshot ≡ Some snap → (now < snap.body.expires → ⊥) → D.trusted.snapshot ≡ None
    bare_snap (inl bare) snap e dead = bare.snapshot
    bare_snap (inr older) snap e dead =
        absurd (dead (subst (λ (x : File Snapshot). now < x.body.expires) (some_ap older.snap snap (sym older.snapshot_held ∙ e)) older.snapshot_live))

    older_stamp : IsBare D.trusted ⊎ IsOlder D.trusted S.trusted now → (stamp : File Timestamp) → S.trusted.timestamp ≡ Some stamp → IfSome D.trusted.timestamp (IsOlderTimestamp stamp)
    older_stamp (inl bare) stamp e = subst (λ (o : Option (File Timestamp)). IfSome o (IsOlderTimestamp stamp)) (sym bare.timestamp) tt
    older_stamp (inr older) stamp e = subst (λ (x : File Timestamp). IfSome D.trusted.timestamp (IsOlderTimestamp x)) (some_ap older.stamp stamp (sym older.timestamp_held ∙ e)) older.timestamp_older

    older_snap : IsBare D.trusted ⊎ IsOlder D.trusted S.trusted now → (stamp : File Timestamp) (snap : File Snapshot) → S.trusted.timestamp ≡ Some stamp → S.trusted.snapshot ≡ Some snap
        → IfSome D.trusted.snapshot (IsOlderSnapshot stamp snap)
    older_snap (inl bare) stamp snap e f = subst (λ (o : Option (File Snapshot)). IfSome o (IsOlderSnapshot stamp snap)) (sym bare.snapshot) tt
    older_snap (inr older) stamp snap e f =
        subst (λ (x : File Snapshot). IfSome D.trusted.snapshot (IsOlderSnapshot stamp x)) (some_ap older.snap snap (sym older.snapshot_held ∙ f))
        (subst (λ (x : File Timestamp). IfSome D.trusted.snapshot (IsOlderSnapshot x older.snap)) (some_ap older.stamp stamp (sym older.timestamp_held ∙ e)) older.snapshot_older)

    dead_of : (n : ℕ) → n ≤ now → now < n → ⊥
    dead_of n past below = omega (arith, past, below)

    -- a live root, timestamp and snapshot
    module _ (live : now < root.body.expires) (stamp : File Timestamp) (snap : File Snapshot) (has : Server S.trusted root stamp snap) (lives : now < stamp.body.expires)
        (old : IsBare D.trusted ⊎ IsOlder D.trusted S.trusted now) where
      behind_stamp : (s t : Src) (E : State) (r : Result (Unit {0}) Fault) → Is s → IsState (with_stamp D stamp) → TakesSnapshot from now s (with_stamp D stamp) t E r → Brought t E r
      behind_stamp s t E r is ready h = by (cases_lt now snap.body.expires)
        where
          fresh : now < snap.body.expires → Snapped live stamp snap has D valid known lives ready t E r → Brought t E r
          fresh f (inl want) = inl want
          fresh f (inr (e, ok, on)) = inr (on, calm_ok r ok, inr (record { stamp = stamp; snap = snap; has = has; root_lives = live; stamp_lives = lives; snap_lives = f; is = e }))

          stale : (now < snap.body.expires → ⊥) → IsWanting r ⊎ ((E ≡ with_stamp D stamp) × IsCalm r × Is t) → Brought t E r
          stale dead (inl want) = inl want
          stale dead (inr (e, calm, on)) = inr (
            on,
            calm,
            inl (
              snap_dead path is_path now S root trusts live stamp has.timestamp lives snap has.snapshot has.names dead,
              subst (λ (X : State). IsDenied X path now) (sym e) (no_snap path is_path now (with_stamp D stamp) root known live stamp refl lives (bare_snap old snap has.snapshot dead)),
            ),
          )

          by : (now < snap.body.expires) ⊎ (snap.body.expires ≤ now) → Brought t E r
          by (inl f) = fresh f (snapped live stamp snap has D valid known lives ready f (older_snap old stamp snap has.timestamp has.snapshot) E s t r is h)
          by (inr past) =
              let dead = dead_of snap.body.expires past in
              stale dead (dead_snapped live stamp snap has D valid known lives ready dead (bare_snap old snap has.snapshot dead) E s t r is h)

      all_live : (s t : Src) (E : State) (r : Result (Unit {0}) Fault) → Is s → TakesTimestamp from now s D t E r → Brought t E r
      all_live s t E _ is (session.none h) = by (stamped live stamp snap has D valid known lives E s t (Ok false) is (older_stamp old stamp has.timestamp) h).0
        where
          by : Stamped live stamp snap has D valid known lives E (Ok false) → Brought t E (Ok tt)
          by (inl want) = absurd want
          by (inr (e, ok, right)) = absurd (not_true (right false refl))
      all_live s t E _ is (session.fails {fault = fault} h) = by (stamped live stamp snap has D valid known lives E s t (Err fault) is (older_stamp old stamp has.timestamp) h).0
        where
          by : Stamped live stamp snap has D valid known lives E (Err fault) → Brought t E (Err fault)
          by (inl want) = inl want
          by (inr (e, ok, right)) = let k : ◌≡◌ {A = Result (Unit {0}) Fault} (Err fault) (Ok tt) = ok in absurd cc
      all_live s u E r is (session.then {t = t} {D = X} h more) =
          let a = stamped live stamp snap has D valid known lives X s t (Ok true) is (older_stamp old stamp has.timestamp) h in
          by a.0 a.1 a.2
        where
          by : Stamped live stamp snap has D valid known lives X (Ok true) → Is t → IsState X → Brought u E r
          by (inl want) on good = absurd want
          by (inr (e, ok, right)) on good =
              behind_stamp t u E r on (subst IsState e good) (subst (λ (Y : State). TakesSnapshot from now t Y u E r) e more)

    -- the timestamp and the snapshot of an update
    pub stamp_and_snapshot : IsCoherent S.trusted → IsBare D.trusted ⊎ IsOlder D.trusted S.trusted now → (s t : Src) (E : State) (r : Result (Unit {0}) Fault) → Is s
        → TakesTimestamp from now s D t E r → Brought t E r
    stamp_and_snapshot coherent old s t E r is h = by S.trusted.timestamp refl (cases_lt now root.body.expires)
      where
        some_stamp : (stamp : File Timestamp) (snap : File Snapshot) → now < root.body.expires → Server S.trusted root stamp snap → (now < stamp.body.expires) ⊎ (stamp.body.expires ≤ now) → Brought t E r
        some_stamp stamp snap live has (inl lives) = all_live live stamp snap has lives old s t E r is h
        some_stamp stamp snap live has (inr past) =
            let dead = dead_of stamp.body.expires past in
            let bare = bare_stamp old (inr (stamp, has.timestamp, dead)) in
            deny t E r (stamp_dead path is_path now S root trusts live stamp has.timestamp dead) (no_stamp path is_path now D root known live bare)
            (unstamped s t E r is (λ q u X k. denied_stamp stamp has.timestamp has.stamp_read (Plain no.timestamp_expired) (dead_stamp live stamp snap has D valid known dead bare) q s u X is k) h)

        by : (o : Option (File Timestamp)) → S.trusted.timestamp ≡ o → (now < root.body.expires) ⊎ (root.body.expires ≤ now) → Brought t E r
        by None e (inl live) =
            deny t E r (no_stamp path is_path now S root trusts live e) (no_stamp path is_path now D root known live (bare_stamp old (inl e)))
            (unstamped s t E r is (λ q u X k. no_timestamp e q s u X is k) h)
        by None e (inr past) =
            let dead = dead_of root.body.expires past in
            deny t E r (root_dead path is_path now S root trusts dead) (root_dead path is_path now D root known dead)
            (unstamped s t E r is (λ q u X k. no_timestamp e q s u X is k) h)
        by (Some stamp) e (inr past) =
            let dead = dead_of root.body.expires past in
            let read = stamp_read stamp e in
            deny t E r (root_dead path is_path now S root trusts dead) (root_dead path is_path now D root known dead)
            (unstamped s t E r is (λ q u X k. denied_stamp stamp e read (Plain no.root_expired) (dead_root dead stamp read) q s u X is k) h)
        by (Some stamp) e (inl live) =
            let snap = has_snapshot S.trusted stamp coherent e in
            some_stamp stamp snap.0 live (server_of S.trusted root stamp snap.0 (held_by S.trusted root sure.trusted trusts) coherent e snap.1) (cases_lt now stamp.body.expires)
