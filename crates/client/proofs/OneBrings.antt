-- An update by each of several sources, one of which is honest, brings a client level with its server, unless it is ahead.
use Rattle.std.proofs.Common.{◌≡◌, ◌≢◌, ◌⊎◌, inl, inr, ℕ, ◌<◌, ◌≤◌, Bool, true, false, List, [], ◌∷◌, ◌++◌, length, length-append, Option, Some, None, Result, Ok, Err, refl, sym, ap, ◌∙◌, subst, arith}
use Rattle.std.specs.Prelude.{IfSome, IsSomeAnd}
use Rattle.std.proofs.lemmas.List.{append-nil, append_assoc}
use Rattle.std.proofs.lemmas.Bool.{cases_lt}
use Rattle.path_patterns.specs.Grammar.{IsTargetPath}
use Rattle.document_parts.specs.Documents.{Profile, Root, Snapshot, Timestamp}
use Rattle.metadata.specs.File.{Bytes, File}
use Rattle.denials.specs.Orders.{Plain}
use Rattle.trust_rules.proofs.ShapedOnce.{Shapes}
use Rattle.trust_rules.specs.State.{IsCoherent, IsState, NamesSnapshot, State, Trusted}
use Rattle.fetch.specs.Source.{Gives}
use Rattle.client.specs.Answering.{IsHonest}
use Rattle.client.specs.Behind as roots_after
use Rattle.client.specs.Behind.{AfterRoots, Behind, IsBare, IsOlder, IsOlderSnapshot, IsOlderTimestamp}
use Rattle.client.specs.Session as session
use Rattle.client.specs.Session.{Takes, TakesRoots, TakesSnapshot, TakesTimestamp, Updates, max_roots}
use Rattle.client.specs.Wanted.{wanted_timestamp}
use Rattle.client.proofs.HonestTakes.{as_made}
use Rattle.client.specs.Several.{DeniesEach, IsHonestAt, IsLevel, IsWanting, OneBrings, Turns}
use Rattle.client.specs.Views.{Fault}
use Rattle.client.specs.steps.Laws.{NewLaws, RootLaws, StepLaws}
use Rattle.client.proofs.Growing.{Goes, Grows, IsFollowed, IsListedOn, IsNamed, goes_on, goes_self, listed_on, run_goes}
use Rattle.client.proofs.RootsFollow.{Followed, held_by, roots_follow, same_root, trusts_one}
use Rattle.client.proofs.Runs.{snapshot-runs, timestamp-runs, update-runs}
use Rattle.client.proofs.StampAndSnapshot.{IsDenied, Server, has_snapshot, no_stamp, root_dead, same_snap, same_stamp, server_of, snap_of, snapped, stamp_dead, stamp_of, stamped, with_both, with_stamp}
use Rattle.client.proofs.Turning.{From, Turned, find, from_turn, is_honest}

abbrev Roots : Type 0
Roots = List (Profile × Bytes)

not_empty : (xs front more : Roots) → xs ≡ front ++ more → front ≢ [] → xs ≢ []
not_empty xs [] more e some none = some refl
not_empty xs (c ∷ front) more e some none = let k : ◌≡◌ {A = Roots} [] (c ∷ (front ++ more)) = sym none ∙ e in cc

none_left : (xs : Roots) → length xs ≡ 0 → xs ≡ []
none_left [] e = refl
none_left (x ∷ xs) e = absurd (omega (arith, e))

long_as : (xs ys : Roots) → xs ≡ ys → length xs ≡ length ys
long_as xs ys e = ap length e

ok_false : ◌≡◌ {A = Bool} false true → ⊥
ok_false e = cc

err_ok : (fault : Fault) → ◌≡◌ {A = Result (Unit {0}) Fault} (Err fault) (Ok tt) → ⊥
err_ok fault e = cc

-- nothing is there where later nothing is
pub none_before : (X Y : Trusted) → Grows X Y → IsBare Y → IsBare X
none_before X Y g bare = record { timestamp = stamp X.timestamp refl g.timestamp; snapshot = snap X.snapshot refl g.snapshot; shelf = rows X.shelf refl }
  where
    stamp : (o : Option (File Timestamp)) → X.timestamp ≡ o → IfSome o (λ t. IsSomeAnd Y.timestamp (IsFollowed t)) → X.timestamp ≡ None
    stamp None e h = e
    stamp (Some t) e h = absurd (subst (λ (o : Option (File Timestamp)). IsSomeAnd o (IsFollowed t)) bare.timestamp h)

    snap : (o : Option (File Snapshot)) → X.snapshot ≡ o → IfSome o (λ s. IsSomeAnd Y.snapshot (IsListedOn s)) → X.snapshot ≡ None
    snap None e h = e
    snap (Some s) e h = absurd (subst (λ (o : Option (File Snapshot)). IsSomeAnd o (IsListedOn s)) bare.snapshot h)

    rows : (l : _) → X.shelf ≡ l → X.shelf ≡ []
    rows [] e = e
    rows (row ∷ more) e = let a = ap length e in let b = g.rows in let c = ap length bare.shelf in absurd (omega (arith, a, b, c))

module _ (roots_law : RootLaws) (news : NewLaws) (step : StepLaws) (shapes : Shapes) {Src : Type 0} (gives : Gives Src) (turns : Turns Src) (now : ℕ)
    (S : State) (sure : IsState S) (coherent : IsCoherent S.trusted) (place : ℕ) (honest : IsHonestAt gives turns place S now) where
  abbrev Is : Src → Type 0
  Is = From gives turns place S now

  sound : IsHonest gives Is S now
  sound = is_honest gives turns place S now honest

  abbrev Brought : State → Type 0
  Brought E = IsLevel E S ⊎ (DeniesEach S now × DeniesEach E now)

  -- the parts of an update
  abbrev Apart : Src → Src → State → State → Result (Unit {0}) Fault → Type 0
  Apart s t X Y q =
      ((fault : Fault) × (q ≡ Err fault) × TakesRoots gives now max_roots s X t Y (Err fault))
      ⊎ ((u : Src) × (D : State) × TakesRoots gives now max_roots s X u D (Ok tt) × TakesTimestamp gives now u D t Y q)

  apart : (s t : Src) (X Y : State) (q : Result (Unit {0}) Fault) → Updates gives now s X t Y q → Apart s t X Y q
  apart s t X Y _ (session.fails {fault = fault} h) = inl (fault, refl, h)
  apart s t X Y q (session.then {t = u} {D = D} h more) = inr (u, D, h, more)

  denies : (X : State) → ((path : Bytes) → IsTargetPath path → IsDenied X path now) → DeniesEach X now
  denies X f path is = let d = f path is in (Plain d.0, d.1)

  module _ (C E : State) (behind : Behind C S now) (still : Behind E S now) (X Y : State) (r : Result (Unit {0}) Fault) (good : IsState X) (last : IsState E)
      (up : Goes C.trusted X.trusted) (later : Goes Y.trusted E.trusted) (calm : IsWanting r → ⊥) where
    some : X.trusted.roots ≢ []
    some = not_empty X.trusted.roots C.trusted.roots up.more up.roots behind.rooted

    some_roots : S.trusted.roots ≢ []
    some_roots = not_empty S.trusted.roots C.trusted.roots behind.later behind.beginning behind.rooted

    its : (root : File Root) × (S.trusted.root ≡ Some root)
    its = trusts_one S.trusted sure.trusted some_roots

    module _ (mine : Goes X.trusted Y.trusted) where
      abbrev rest : Roots
      rest = mine.more ++ (later.more ++ still.later)

      within : S.trusted.roots ≡ X.trusted.roots ++ rest
      within =
          still.beginning
          ∙ (ap (λ (l : Roots). l ++ still.later) (later.roots ∙ ap (λ (l : Roots). l ++ later.more) mine.roots)
          ∙ (append_assoc (X.trusted.roots ++ mine.more) later.more still.later ∙ append_assoc X.trusted.roots mine.more (later.more ++ still.later)))

      few : length rest ≤ 64
      few =
          let a = long_as _ _ within in
          let b = length-append X.trusted.roots rest in
          let c = long_as _ _ behind.beginning in
          let d = length-append C.trusted.roots behind.later in
          let e = long_as _ _ up.roots in
          let f = length-append C.trusted.roots up.more in
          let g = behind.few in
          omega (arith, a, b, c, d, e, f, g)

    -- ---- behind the server's roots, which the client has
    module _ (D : State) (valid : IsState D) (all : D.trusted.roots ≡ S.trusted.roots) where
      -- whatever comes then, no further root is taken, since the client is still behind
      module _ (Z : State) (front : Roots) (before : Z.trusted.roots ≡ D.trusted.roots ++ front) (behind_it : Goes Z.trusted E.trusted) where
        lengths : (length front ≡ 0) × ((length behind_it.more ≡ 0) × (length still.later ≡ 0))
        lengths =
            let a = long_as _ _ all in
            let b = long_as _ _ before in
            let c = length-append D.trusted.roots front in
            let d = long_as _ _ behind_it.roots in
            let e = length-append Z.trusted.roots behind_it.more in
            let f = long_as _ _ still.beginning in
            let g = length-append E.trusted.roots still.later in
            (omega (arith, a, b, c, d, e, f, g), (omega (arith, a, b, c, d, e, f, g), omega (arith, a, b, c, d, e, f, g)))

        grew : Grows Z.trusted E.trusted
        grew = behind_it.grows (none_left behind_it.more lengths.1.0)

      module _ (whole : Goes D.trusted E.trusted) where
        ends : (length whole.more ≡ 0) × (length still.later ≡ 0)
        ends = (lengths D [] (sym (append-nil D.trusted.roots)) whole).1

        grown : Grows D.trusted E.trusted
        grown = grew D [] (sym (append-nil D.trusted.roots)) whole

        same_roots : E.trusted.roots ≡ S.trusted.roots
        same_roots = sym (still.beginning ∙ (ap (λ (l : Roots). E.trusted.roots ++ l) (none_left still.later ends.1) ∙ append-nil E.trusted.roots))

        known : D.trusted.root ≡ S.trusted.root
        known = same_root roots_law step S sure now D valid some_roots all

        root_there : D.trusted.root ≡ Some its.0
        root_there = known ∙ its.1

        root_left : E.trusted.root ≡ Some its.0
        root_left = grown.root ∙ root_there

        caught : IsBare E.trusted ⊎ IsOlder E.trusted S.trusted now
        caught = still.caught_up E.trusted (subst (λ (l : Roots). AfterRoots E.trusted l E.trusted) (sym (none_left still.later ends.1)) roots_after.none)

        -- the timestamp is taken, and then the snapshot that it names
        module _ (live : now < its.0.body.expires) (stamp : File Timestamp) (snap : File Snapshot) (has : Server S.trusted its.0 stamp snap) (lives : now < stamp.body.expires)
            (older : IfSome D.trusted.timestamp (IsOlderTimestamp stamp)) where
          abbrev Stamp : State → Result Bool Fault → Type 0
          Stamp Z q = IsWanting q ⊎ ((Z ≡ with_stamp D stamp) × (as_made q ≡ Ok tt) × ((there : Bool) → q ≡ Ok there → there ≡ true))

          stamp_takes : (Z : State) (u t : Src) (q : Result Bool Fault) → Is u → Takes gives now wanted_timestamp u D t Z q → Stamp Z q × Is t × IsState Z
          stamp_takes Z u t q is h = stamped news step shapes S sure its.0 its.1 now gives Is sound live stamp snap has D valid root_there lives Z u t q is older h

          abbrev Snaps : Src → Result (Unit {0}) Fault → Type 0
          Snaps t q = (v : Src) × Is v × IsState (with_stamp D stamp) × TakesSnapshot gives now v (with_stamp D stamp) t Y q

          took : (u t : Src) (q : Result (Unit {0}) Fault) → Is u → (IsWanting q → ⊥) → TakesTimestamp gives now u D t Y q → Snaps t q
          took u t _ is quiet (session.none h) = by (stamp_takes Y u t (Ok false) is h).0
            where
              by : Stamp Y (Ok false) → Snaps t (Ok tt)
              by (inl want) = absurd want
              by (inr (e, ok, right)) = absurd (ok_false (right false refl))
          took u t _ is quiet (session.fails {fault = fault} h) = by (stamp_takes Y u t (Err fault) is h).0
            where
              by : Stamp Y (Err fault) → Snaps t (Err fault)
              by (inl want) = absurd (quiet want)
              by (inr (e, ok, right)) = absurd (err_ok fault ok)
          took u t q is quiet (session.then {t = v} {D = Z} h more) = by (stamp_takes Z u v (Ok true) is h)
            where
              by : Stamp Z (Ok true) × Is v × IsState Z → Snaps t q
              by (inl want, on, good) = absurd want
              by (inr (e, ok, right), on, good) = (v, on, subst IsState e good, subst (λ (W : State). TakesSnapshot gives now v W t Y q) e more)

          -- the state behind it has the timestamp
          stamped_end : (t : Src) (q : Result (Unit {0}) Fault) → Snaps t q → IsSomeAnd E.trusted.timestamp (IsFollowed stamp)
          stamped_end t q (v, on, ready, h) =
              let run = run_goes step now (with_stamp D stamp) Y ready (snapshot-runs gives now v t (with_stamp D stamp) Y q h) in
              (grew (with_stamp D stamp) [] (sym (append-nil D.trusted.roots)) (goes_on (with_stamp D stamp).trusted Y.trusted E.trusted run.0 later)).timestamp

          module _ (fresh : now < snap.body.expires) (old_snap : IfSome D.trusted.snapshot (λ x. ¬ NamesSnapshot stamp x) → IfSome D.trusted.snapshot (IsOlderSnapshot stamp snap)) where
            -- the timestamp with a snapshot that it names
            abbrev Both : State → Type 0
            Both W = (W.trusted.timestamp ≡ Some stamp) × IsNamed (Some stamp) W.trusted.snapshot

            both_of : (W : State) → W ≡ with_both D stamp snap → Both W
            both_of W e = (ap (λ (V : State). V.trusted.timestamp) e, subst (λ (V : State). IsNamed (Some stamp) V.trusted.snapshot) (sym e) has.names)

            abbrev Snap : State → Src → Result (Unit {0}) Fault → Type 0
            Snap W t q = IsWanting q ⊎ ((W ≡ with_both D stamp snap) × (q ≡ Ok tt) × Is t)

            both_by : (W : State) (t : Src) (q : Result (Unit {0}) Fault) → (IsWanting q → ⊥) → Snap W t q → Both W
            both_by W t q quiet (inl want) = absurd (quiet want)
            both_by W t q quiet (inr k) = both_of W k.0

            snap_takes : (ready : IsState (with_stamp D stamp)) → IfSome D.trusted.snapshot (IsOlderSnapshot stamp snap) → (v t : Src) (W : State) (q : Result (Unit {0}) Fault) → Is v
                → TakesSnapshot gives now v (with_stamp D stamp) t W q → Snap W t q
            snap_takes ready old v t W q on h = snapped news step shapes S sure its.0 its.1 now gives Is sound live stamp snap has D valid root_there lives ready fresh old W v t q on h

            gets_both : (v t : Src) (W : State) (q : Result (Unit {0}) Fault) → Is v → IsState (with_stamp D stamp) → (IsWanting q → ⊥) → TakesSnapshot gives now v (with_stamp D stamp) t W q → Both W
            gets_both v _ _ _ on ready quiet (session.held k) = (refl, k)
            gets_both v t W _ on ready quiet (session.due version k h) = both_by W t (Ok tt) quiet (snap_takes ready (old_snap k.1) v t W (Ok tt) on (session.due version k h))
            gets_both v t W _ on ready quiet (session.fails {fault = fault} version k h) = both_by W t (Err fault) quiet (snap_takes ready (old_snap k.1) v t W (Err fault) on (session.fails version k h))

        -- ---- where the client that is left trusts nothing but roots
        module _ (bare : IsBare E.trusted) where
          mine_bare : IsBare D.trusted
          mine_bare = none_before D.trusted E.trusted grown bare

          no_stamp_older : (stamp : File Timestamp) → IfSome D.trusted.timestamp (IsOlderTimestamp stamp)
          no_stamp_older stamp = subst (λ (o : Option (File Timestamp)). IfSome o (IsOlderTimestamp stamp)) (sym mine_bare.timestamp) tt

          module _ (live : now < its.0.body.expires) where
            nothing_here : DeniesEach E now
            nothing_here = denies E (λ path is. no_stamp path is now E its.0 root_left live bare.timestamp)

            by_stamp : (stamp : File Timestamp) (snap : File Snapshot) → Server S.trusted its.0 stamp snap → (u t : Src) → Is u → TakesTimestamp gives now u D t Y r
                → (now < stamp.body.expires) ⊎ (stamp.body.expires ≤ now) → Brought E
            by_stamp stamp snap has u t on h (inl lives) =
                let snaps = took live stamp snap has lives (no_stamp_older stamp) u t r on calm h in
                let after = stamped_end live stamp snap has lives (no_stamp_older stamp) t r snaps in
                absurd (subst (λ (o : Option (File Timestamp)). IsSomeAnd o (IsFollowed stamp)) bare.timestamp after)
            by_stamp stamp snap has u t on h (inr past) =
                inr (denies S (λ path is. stamp_dead path is now S its.0 its.1 live stamp has.timestamp (λ below. omega (arith, past, below))), nothing_here)

            by_server : (o : Option (File Timestamp)) → S.trusted.timestamp ≡ o → (u t : Src) → Is u → TakesTimestamp gives now u D t Y r → Brought E
            by_server None e u t on h = inr (denies S (λ path is. no_stamp path is now S its.0 its.1 live e), nothing_here)
            by_server (Some stamp) e u t on h =
                let snap = has_snapshot S.trusted stamp coherent e in
                by_stamp stamp snap.0 (server_of S.trusted its.0 stamp snap.0 (held_by S.trusted its.0 sure.trusted its.1) coherent e snap.1) u t on h (cases_lt now stamp.body.expires)

        -- ---- where it is older than the server
        module _ (older : IsOlder E.trusted S.trusted now) (live : now < its.0.body.expires) where
          has : Server S.trusted its.0 older.stamp older.snap
          has = server_of S.trusted its.0 older.stamp older.snap (held_by S.trusted its.0 sure.trusted its.1) coherent older.timestamp_held older.snapshot_held

          stamp_is : (t : File Timestamp) → E.trusted.timestamp ≡ Some t → t.bytes ≡ older.stamp.bytes → t ≡ older.stamp
          stamp_is t e bytes = same_stamp news step shapes S sure its.0 its.1 now gives Is sound live older.stamp older.snap has t
              (stamp_of news step shapes S sure its.0 its.1 now gives Is sound live older.stamp older.snap has E last root_left t e) bytes

          snap_is : (z : File Snapshot) → E.trusted.snapshot ≡ Some z → z.bytes ≡ older.snap.bytes → z ≡ older.snap
          snap_is z e bytes = same_snap news step shapes S sure its.0 its.1 now gives Is sound live older.stamp older.snap has z
              (snap_of news step shapes S sure its.0 its.1 now gives Is sound live older.stamp older.snap has E last root_left z e) bytes

          -- so was the client before
          was_older : IfSome D.trusted.timestamp (IsOlderTimestamp older.stamp)
          was_older = by D.trusted.timestamp E.trusted.timestamp refl grown.timestamp older.timestamp_older
            where
              one : (t u : File Timestamp) → E.trusted.timestamp ≡ Some u → IsFollowed t u → IsOlderTimestamp older.stamp u → IsOlderTimestamp older.stamp t
              one t u e (inl same) h = subst (λ (x : File Timestamp). IsOlderTimestamp older.stamp x) same h
              one t u e (inr low) (inl bytes) =
                  let is = stamp_is u e bytes in
                  inr (subst (λ (x : File Timestamp). (t.body.version < x.body.version) × (t.body.snapshot.version ≤ x.body.snapshot.version)) is low)
              one t u e (inr low) (inr lower) =
                  let a = low.0 in let b = low.1 in let c = lower.0 in let d = lower.1 in inr (omega (arith, a, c), omega (arith, b, d))

              by : (o p : Option (File Timestamp)) → E.trusted.timestamp ≡ p → IfSome o (λ t. IsSomeAnd p (IsFollowed t)) → IfSome p (IsOlderTimestamp older.stamp) → IfSome o (IsOlderTimestamp older.stamp)
              by None p e h k = tt
              by (Some t) None e h k = absurd h
              by (Some t) (Some u) e h k = one t u e h k

          lists : (z : File Snapshot) → E.trusted.snapshot ≡ Some z → IsOlderSnapshot older.stamp older.snap z → IsListedOn z older.snap
          lists z e (inl bytes) = inl (sym (snap_is z e bytes))
          lists z e (inr lower) = inr lower.1

          was_listed : IfSome D.trusted.snapshot (λ x. ¬ NamesSnapshot older.stamp x) → IfSome D.trusted.snapshot (IsOlderSnapshot older.stamp older.snap)
          was_listed due = by D.trusted.snapshot E.trusted.snapshot refl due grown.snapshot older.snapshot_older
            where
              one : (s : File Snapshot) → (¬ NamesSnapshot older.stamp s) → IsListedOn s older.snap → IsOlderSnapshot older.stamp older.snap s
              one s other (inl same) = inl (ap (λ (x : File Snapshot). x.bytes) (sym same))
              one s other (inr on) = inr (other, on)

              by : (o p : Option (File Snapshot)) → E.trusted.snapshot ≡ p → IfSome o (λ x. ¬ NamesSnapshot older.stamp x) → IfSome o (λ s. IsSomeAnd p (IsListedOn s)) → IfSome p (IsOlderSnapshot older.stamp older.snap)
                  → IfSome o (IsOlderSnapshot older.stamp older.snap)
              by None p e other h k = tt
              by (Some s) None e other h k = absurd h
              by (Some s) (Some z) e other h k = one s other (listed_on s z older.snap h (lists z e k))

          -- and now it has both
          end_stamp : IsSomeAnd E.trusted.timestamp (IsFollowed older.stamp) → E.trusted.timestamp ≡ Some older.stamp
          end_stamp h = by E.trusted.timestamp refl h older.timestamp_older
            where
              one : (u : File Timestamp) → E.trusted.timestamp ≡ Some u → IsFollowed older.stamp u → IsOlderTimestamp older.stamp u → u ≡ older.stamp
              one u e (inl same) k = same
              one u e (inr low) (inl bytes) = stamp_is u e bytes
              one u e (inr low) (inr lower) = let a = low.0 in let b = lower.0 in absurd (omega (arith, a, b))

              by : (o : Option (File Timestamp)) → E.trusted.timestamp ≡ o → IsSomeAnd o (IsFollowed older.stamp) → IfSome o (IsOlderTimestamp older.stamp) → E.trusted.timestamp ≡ Some older.stamp
              by None e h k = absurd h
              by (Some u) e h k = e ∙ ap (λ (x : File Timestamp). Some x) (one u e h k)

          end_snap : IsNamed (Some older.stamp) E.trusted.snapshot → E.trusted.snapshot ≡ Some older.snap
          end_snap h = by E.trusted.snapshot refl h older.snapshot_older
            where
              one : (z : File Snapshot) → E.trusted.snapshot ≡ Some z → NamesSnapshot older.stamp z → IsOlderSnapshot older.stamp older.snap z → z ≡ older.snap
              one z e named (inl bytes) = snap_is z e bytes
              one z e named (inr lower) = absurd (lower.0 named)

              by : (o : Option (File Snapshot)) → E.trusted.snapshot ≡ o → IsSomeAnd o (NamesSnapshot older.stamp) → IfSome o (IsOlderSnapshot older.stamp older.snap) → E.trusted.snapshot ≡ Some older.snap
              by None e h k = absurd h
              by (Some z) e h k = e ∙ ap (λ (x : File Snapshot). Some x) (one z e h k)

          level : (mine : Goes D.trusted Y.trusted) → (Y.trusted.timestamp ≡ Some older.stamp) × IsNamed (Some older.stamp) Y.trusted.snapshot → IsLevel E S
          level mine (stamp, named) =
              let g = grew Y mine.more mine.roots later in
              let on : IsSomeAnd E.trusted.timestamp (IsFollowed older.stamp) = subst (λ (o : Option (File Timestamp)). IfSome o (λ t. IsSomeAnd E.trusted.timestamp (IsFollowed t))) stamp g.timestamp in
              let e = end_stamp on in
              let n = g.named (e ∙ sym stamp) (subst (λ (o : Option (File Timestamp)). IsNamed o Y.trusted.snapshot) (sym stamp) named) in
              let s = end_snap (subst (λ (o : Option (File Timestamp)). IsNamed o E.trusted.snapshot) stamp n) in
              record { roots = same_roots; root = root_left ∙ sym its.1; timestamp = e ∙ sym older.timestamp_held; snapshot = s ∙ sym older.snapshot_held }

          by_older : (mine : Goes D.trusted Y.trusted) (u t : Src) → Is u → TakesTimestamp gives now u D t Y r → Brought E
          by_older mine u t on h =
              let snaps = took live older.stamp older.snap has older.timestamp_live was_older u t r on calm h in
              inl (level mine (gets_both live older.stamp older.snap has older.timestamp_live was_older older.snapshot_live was_listed snaps.0 t Y r snaps.1 snaps.2 calm snaps.3))

        -- ---- the whole
        behind_roots : (mine : Goes D.trusted Y.trusted) (u t : Src) → Is u → TakesTimestamp gives now u D t Y r → Brought E
        behind_roots mine u t on h = by (cases_lt now its.0.body.expires) caught
          where
            by : (now < its.0.body.expires) ⊎ (its.0.body.expires ≤ now) → IsBare E.trusted ⊎ IsOlder E.trusted S.trusted now → Brought E
            by (inl live) (inl bare) = by_server bare live S.trusted.timestamp refl u t on h
            by (inl live) (inr older) = by_older older live mine u t on h
            by (inr past) k = inr (
              denies S (λ path is. root_dead path is now S its.0 its.1 (λ below. omega (arith, past, below))),
              denies E (λ path is. root_dead path is now E its.0 root_left (λ below. omega (arith, past, below))),
            )

    brought : (s t : Src) → Is s → Goes X.trusted Y.trusted → Updates gives now s X t Y r → Brought E
    brought s t is mine h = by (apart s t X Y r h)
      where
        by_roots : (u : Src) (D : State) → TakesTimestamp gives now u D t Y r → IsWanting {A = Unit {0}} (Ok tt) ⊎ ((◌≡◌ {A = Result (Unit {0}) Fault} (Ok tt) (Ok tt)) × Is u × Followed S X (rest mine) D) → Brought E
        by_roots u D more (inl want) = absurd want
        by_roots u D more (inr (k, on, f)) =
            let run = run_goes step now D Y f.valid (timestamp-runs gives now u t D Y r more) in
            behind_roots D f.valid f.roots (goes_on D.trusted Y.trusted E.trusted run.0 later) run.0 u t on more

        stopped : (fault : Fault) → r ≡ Err fault → IsWanting {A = Unit {0}} (Err fault) ⊎ ((◌≡◌ {A = Result (Unit {0}) Fault} (Err fault) (Ok tt)) × Is t × Followed S X (rest mine) Y) → Brought E
        stopped fault e (inl want) = absurd (calm (subst (λ (q : Result (Unit {0}) Fault). IsWanting q) (sym e) want))
        stopped fault e (inr (k, on, f)) = absurd (err_ok fault k)

        by : Apart s t X Y r → Brought E
        by (inl (fault, e, k)) = stopped fault e (roots_follow roots_law step S sure now gives Is sound max_roots (rest mine) s t X Y (Err fault) is good k (within mine) some (few mine))
        by (inr (u, D, k, more)) = by_roots u D more (roots_follow roots_law step S sure now gives Is sound max_roots (rest mine) s u X D (Ok tt) is good k (within mine) some (few mine))

-- the law
updates_go : StepLaws → {Src : Type 0} (gives : Gives Src) (now : ℕ) (s t : Src) (C D : State) (r : Result (Unit {0}) Fault) → IsState C → Updates gives now s C t D r → Goes C.trusted D.trusted × IsState D
updates_go step gives now s t C D r valid h = run_goes step now C D valid (update-runs gives now s t C D r h)

pub one_brings : RootLaws → NewLaws → StepLaws → Shapes → OneBrings
one_brings roots_law news step shapes Src gives turns tells count now s t C E r valid h S place inside honest sure coherent behind still =
    by (find turns tells (Updates gives now) IsWanting (λ C D. Goes C.trusted D.trusted) (λ C. goes_self C.trusted) (λ C D E. goes_on C.trusted D.trusted E.trusted) (updates_go step gives now)
    place 0 count _ r s t C E (omega arith) (omega (arith, inside)) valid h)
  where
    by : IsWanting r ⊎ Turned turns tells (Updates gives now) IsWanting (λ C D. Goes C.trusted D.trusted) (λ C. goes_self C.trusted) (λ C D E. goes_on C.trusted D.trusted E.trusted) (updates_go step gives now) place C E
        → IsWanting r ⊎ (IsLevel E S ⊎ (DeniesEach S now × DeniesEach E now))
    by (inl want) = inl want
    by (inr w) = inr (brought roots_law news step shapes gives turns now S sure coherent place honest C E behind still w.first w.last w.end w.valid w.later_valid w.up w.later w.goes_on
        w.begun w.left (from_turn gives turns place S now w.before w.begun w.turn) (updates_go step gives now w.begun w.left w.first w.last w.end w.valid w.call).0 w.call)
