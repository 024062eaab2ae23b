-- A document that was accepted, or was the same, is the same when it is offered again to what came of it.
use Rattle.std.proofs.Common.{◌≡◌, ◌≢◌, ℕ, ◌≤◌, le_refl, Bool, true, false, List, [], ◌∷◌, map, Option, Some, None, option_map, Ok, Err, refl, sym, ap, ◌∙◌, subst, bytes_eq, nat_eq}
use Rattle.std.specs.Prelude.{IfOk, IfSome, IsNone, IsSome}
use Rattle.std.specs.List.{AllByRecursion}
use Rattle.std.proofs.lemmas.Bool.{and_from, eq-eqb, false_from_ne_true}
use Rattle.std.proofs.lemmas.Slice.Eq.{bytes_eq-Decides}
use Rattle.keys_roles.specs.Plain.{look_up}
use Rattle.keys_roles.specs.Rules.{AreDistinct}
use Rattle.document_parts.specs.Documents.{MetaFile, Root, Snapshot, Targets, Timestamp}
use Rattle.metadata.specs.File.{Bytes, File, IsFileOf, Name, snapshot_form}
use Rattle.metadata.specs.Shaped.{reads}
use Rattle.denials.specs.Orders.{Judged, Order, Same, pass, decide, holds, same, given}
use Rattle.delegations.specs.Rows.{Place, Rows, place_before, row_at, same_place, value_at, with_row}
use Rattle.delegations.specs.Search.{shelf_of}
use Rattle.delegations.proofs.KeyOrder.{place_one}
use Rattle.delegations.proofs.Walk.{by_test}
use Rattle.trust_rules.specs.State.{Trusted}
use Rattle.trust_rules.specs.Offers.{AfterRoot, RootOffer, SnapshotOffer, TargetsOffer, TimestampOffer, after_root, after_snapshot, after_timestamp, kept, rotated, live_snapshot, live_timestamp, named_snapshot, named_targets, offer, renew_root}
use Rattle.trust_rules.proofs.GrantsEnd.{NeverSame, check-never, live-never, need-never, then-never}
use Rattle.trust_rules.proofs.LinesGive.{needed}
use Rattle.trust_rules.proofs.OrderLines as steps
use Rattle.trust_rules.proofs.VouchedAgain.{HasRows, vouched_still}

-- what an offer left: what was accepted, or what was there
pub data Left (m : Order Trusted) (T : Trusted) : Trusted → Type 0 where
  took : {U : Trusted} → m (Ok U) → Left m T U
  stood : m (Err Same) → Left m T T

-- ---- roots

newest : (T : Trusted) (old new : File Root) (j : Judged Trusted) → AfterRoot T old new j → IfOk j (λ U. U.root ≡ Some new)
newest T old new _ (kept h) = refl
newest T old new _ (rotated h) = refl

after-never : (T : Trusted) (old new : File Root) → NeverSame (after_root T old new)
after-never T old new h = elim h [ ]

renew-never : (T : Trusted) (old new : File Root) → NeverSame (renew_root T old new)
renew-never T old new =
    then-never _ _ (check-never _ _) (λ _. then-never _ _ (check-never _ _) (λ _. then-never _ _ (check-never _ _) (λ _. then-never _ _ (check-never _ _)
    (λ _. then-never _ _ (check-never _ _) (λ _. after-never T old new)))))

pub root_again : (T U V : Trusted) (b : Bytes) (now : ℕ) → Left (offer T RootOffer b now) T U → V.root ≡ U.root → offer V RootOffer b now (Err Same)
root_again T U V b now (took (pass {a = old} k (pass d (pass {a = new} (reads doc e) (pass v (pass q (pass o (pass n (pass f after))))))))) root =
    pass (steps.needed _ V.root new (root ∙ newest T old new (Ok U) after)) (decide (same (sym e)))
root_again T _ V b now (stood (pass {a = old} k (decide (same e)))) root = pass (steps.needed _ V.root old (root ∙ needed _ T.root old k)) (decide (same e))
root_again T _ V b now (stood (decide h)) root = absurd (need-never _ T.root h)
root_again T _ V b now (stood (pass k (pass d (decide r)))) root = elim r [ ]
root_again T _ V b now (stood (pass {a = old} k (pass d (pass {a = new} r m)))) root = absurd (renew-never T old new m)

-- ---- timestamps

-- the held timestamp itself
same_stamp : (new : File Timestamp) → after_timestamp (Some new) new (Err Same)
same_stamp new = pass (holds (le_refl new.body.version)) (decide (same refl))

pub timestamp_again : (T U V : Trusted) (b : Bytes) (now : ℕ) → Left (offer T TimestampOffer b now) T U → V.root ≡ U.root → V.timestamp ≡ U.timestamp
    → offer V TimestampOffer b now (Err Same)
timestamp_again T _ V b now (took (pass {a = root} k (pass {a = new} r (pass x (pass m (pass a (pass e given))))))) trusts stamped =
    pass (steps.needed _ V.root root (trusts ∙ needed _ T.root root k)) (pass r (pass x (pass m
    (decide (subst (λ (o : Option (File Timestamp)). after_timestamp o new (Err Same)) (sym stamped) (same_stamp new))))))
timestamp_again T _ V b now (stood (pass {a = root} k (pass {a = new} r (pass x (pass m (decide a)))))) trusts stamped =
    pass (steps.needed _ V.root root (trusts ∙ needed _ T.root root k)) (pass r (pass x (pass m
    (decide (subst (λ (o : Option (File Timestamp)). after_timestamp o new (Err Same)) (sym stamped) a)))))
timestamp_again T _ V b now (stood (decide h)) trusts stamped = absurd (need-never _ T.root h)
timestamp_again T _ V b now (stood (pass k (decide r))) trusts stamped = elim r [ ]
timestamp_again T _ V b now (stood (pass k (pass r (decide x)))) trusts stamped = elim x [ ]
timestamp_again T _ V b now (stood (pass k (pass r (pass x (decide m))))) trusts stamped = elim m [ ]
timestamp_again T _ V b now (stood (pass k (pass r (pass x (pass m (pass a (decide e))))))) trusts stamped = elim e [ ]
timestamp_again T _ V b now (stood (pass k (pass r (pass x (pass m (pass a (pass e g))))))) trusts stamped = elim g [ ]

-- and it leaves the root
pub timestamp_leaves : (T U : Trusted) (b : Bytes) (now : ℕ) → Left (offer T TimestampOffer b now) T U → U.root ≡ T.root
timestamp_leaves T _ b now (took (pass k (pass r (pass x (pass m (pass a (pass e given))))))) = refl
timestamp_leaves T _ b now (stood h) = refl

-- ---- snapshots

abbrev Own : List (Name × MetaFile) → Name × MetaFile → Type 0
Own rows m = look_up rows m.0 ≡ Some m.1

behind : (row : Name × MetaFile) (rows xs : List (Name × MetaFile)) → AllByRecursion (λ y. row.0 ≢ y) (map (λ e. e.0) xs) → AllByRecursion (Own rows) xs → AllByRecursion (Own (row ∷ rows)) xs
behind row rows [] apart own = tt
behind row rows (x ∷ xs) apart own =
    let other : bytes_eq row.0 x.0 ≡ false = false_from_ne_true (bytes_eq row.0 x.0) (λ t. apart.0 ((bytes_eq-Decides row.0 x.0).0 t)) in
    (rw other own.0, behind row rows xs apart.1 own.1)

-- in a list of distinct names each is found
each_own : (rows : List (Name × MetaFile)) → AreDistinct (map (λ e. e.0) rows) → AllByRecursion (Own rows) rows
each_own [] distinct = tt
each_own (row ∷ rows) distinct =
    let itself : bytes_eq row.0 row.0 ≡ true = (bytes_eq-Decides row.0 row.0).1 refl in
    (rw itself refl, behind row rows rows distinct.0 (each_own rows distinct.1))

no_rollback : (s : Snapshot) (xs : List (Name × MetaFile)) → AllByRecursion (Own s.meta) xs → AllByRecursion (λ m. IfSome (look_up s.meta m.0) (λ e. m.1.version ≤ e.version)) xs
no_rollback s [] own = tt
no_rollback s (x ∷ xs) own =
    (subst (λ (o : Option MetaFile). IfSome o (λ e. x.1.version ≤ e.version)) (sym own.0) (le_refl x.1.version), no_rollback s xs own.1)

no_drop : (s : Snapshot) (xs : List (Name × MetaFile)) → AllByRecursion (Own s.meta) xs → AllByRecursion (λ m. IsSome (look_up s.meta m.0)) xs
no_drop s [] own = tt
no_drop s (x ∷ xs) own = (subst (λ (o : Option MetaFile). IsSome o) (sym own.0) refl, no_drop s xs own.1)

-- a snapshot lists each name once
abbrev pub ListsOnce : Type 0
ListsOnce = (f : File Snapshot) → IsFileOf snapshot_form f → AreDistinct (map (λ e. e.0) f.body.meta)

live_stamp : (T V : Trusted) (root : File Root) (now : ℕ) (stamp : File Timestamp) → V.timestamp ≡ T.timestamp → live_timestamp T.timestamp root now (Ok stamp)
    → live_timestamp V.timestamp root now (Ok stamp)
live_stamp T V root now stamp e l = subst (λ (o : Option (File Timestamp)). live_timestamp o root now (Ok stamp)) (sym e) l

named-never : (stamp : File Timestamp) (root : File Root) (new : File Snapshot) → NeverSame (named_snapshot stamp root new)
named-never stamp root new = then-never _ _ (check-never _ _) (λ _. then-never _ _ (check-never _ _) (λ _. then-never _ _ (check-never _ _) (λ _. check-never _ _)))

stamp-never : (o : Option (File Timestamp)) (root : File Root) (now : ℕ) → NeverSame (live_timestamp o root now)
stamp-never o root now (decide h) = elim h [ ]
stamp-never o root now (pass x (decide h)) = absurd (need-never _ o h)
stamp-never o root now (pass x (pass k (decide h))) = elim h [ ]
stamp-never o root now (pass x (pass k (pass e h))) = elim h [ ]

snap-never : (o : Option (File Snapshot)) (new : File Snapshot) → NeverSame (after_snapshot o new)
snap-never None new h = elim h [ ]
snap-never (Some old) new (decide h) = elim h [ ]
snap-never (Some old) new (pass a h) = elim h [ ]

module _ (law : ListsOnce) where
  -- the held snapshot itself
  same_snap : (new : File Snapshot) → IsFileOf snapshot_form new → after_snapshot (Some new) new (Ok tt)
  same_snap new doc =
      let own = each_own new.body.meta (law new doc) in
      pass (holds (no_rollback new.body new.body.meta own)) (holds (no_drop new.body new.body.meta own))

  pub snapshot_again : (T U V : Trusted) (b : Bytes) (now : ℕ) → Left (offer T SnapshotOffer b now) T U → V.root ≡ U.root → V.timestamp ≡ U.timestamp → V.snapshot ≡ U.snapshot
      → offer V SnapshotOffer b now (Err Same)
  snapshot_again T _ V b now (took (pass {a = root} k (pass {a = new} (reads doc is) (pass {a = stamp} l (pass n (pass a (pass x (pass d given)))))))) trusts stamped held =
      pass (steps.needed _ V.root root (trusts ∙ needed _ T.root root k)) (pass (reads doc is) (pass (live_stamp T V root now stamp stamped l) (pass n
      (pass (subst (λ (o : Option (File Snapshot)). after_snapshot o new (Ok tt)) (sym held) (same_snap new doc)) (pass x
      (decide (same (ap (λ (o : Option (File Snapshot)). option_map (λ f. f.bytes) o) held))))))))
  snapshot_again T _ V b now (stood (pass {a = root} k (pass {a = new} r (pass {a = stamp} l (pass n (pass a (pass x (decide (same e))))))))) trusts stamped held =
      pass (steps.needed _ V.root root (trusts ∙ needed _ T.root root k)) (pass r (pass (live_stamp T V root now stamp stamped l) (pass n
      (pass (subst (λ (o : Option (File Snapshot)). after_snapshot o new (Ok tt)) (sym held) a) (pass x
      (decide (same (ap (λ (o : Option (File Snapshot)). option_map (λ f. f.bytes) o) held ∙ e))))))))
  snapshot_again T _ V b now (stood (decide h)) trusts stamped held = absurd (need-never _ T.root h)
  snapshot_again T _ V b now (stood (pass k (decide r))) trusts stamped held = elim r [ ]
  snapshot_again T _ V b now (stood (pass {a = root} k (pass r (decide l)))) trusts stamped held = absurd (stamp-never T.timestamp root now l)
  snapshot_again T _ V b now (stood (pass {a = root} k (pass {a = new} r (pass {a = stamp} l (decide n))))) trusts stamped held = absurd (named-never stamp root new n)
  snapshot_again T _ V b now (stood (pass k (pass {a = new} r (pass l (pass n (decide a)))))) trusts stamped held = absurd (snap-never T.snapshot new a)
  snapshot_again T _ V b now (stood (pass k (pass r (pass l (pass n (pass a (decide x))))))) trusts stamped held = elim x [ ]
  snapshot_again T _ V b now (stood (pass k (pass r (pass l (pass n (pass a (pass x (pass d g)))))))) trusts stamped held = elim g [ ]

-- and it leaves root and timestamp
pub snapshot_leaves : (T U : Trusted) (b : Bytes) (now : ℕ) → Left (offer T SnapshotOffer b now) T U → (U.root ≡ T.root) × (U.timestamp ≡ T.timestamp)
snapshot_leaves T _ b now (took (pass k (pass r (pass l (pass n (pass a (pass x (pass d given)))))))) = (refl, refl)
snapshot_leaves T _ b now (stood h) = (refl, refl)

-- ---- targets documents

none_some : {A : Type 0} (a : A) → ◌≡◌ {A = Option A} None (Some a) → ⊥
none_some a e = cc

-- what is put at a free place is there, and what was elsewhere is there still
module _ {K A : Type 0} (below same : K → K → Bool) where
  free_behind : (row : K × A) (rows : List (K × A)) (k : K) → value_at same (row ∷ rows) k ≡ None → value_at same rows k ≡ None
  free_behind row rows k free = by_test (same row.0 k)
      (λ s. absurd (none_some row.1 (sym (rw s at free))))
      (λ s. rw s at free)

  put_there : (rows : List (K × A)) (k : K) (v : A) → same k k ≡ true → value_at same rows k ≡ None → value_at same (with_row below rows k v) k ≡ Some v
  put_there [] k v itself free = rw itself refl
  put_there (row ∷ rows) k v itself free = by_test (below k row.0)
      (λ t. rw (t, itself) refl)
      (λ f. rw f (by_test (same row.0 k)
      (λ s. absurd (none_some row.1 (sym (rw s at free))))
      (λ s. rw s (put_there rows k v itself (free_behind row rows k free)))))

  kept_there : ((a b : K) → same a b ≡ true → a ≡ b) → (rows : List (K × A)) (k : K) (v : A) (q : K) (w : A) → value_at same rows k ≡ None → value_at same rows q ≡ Some w
      → value_at same (with_row below rows k v) q ≡ Some w
  kept_there one [] k v q w free there = absurd (none_some w there)
  kept_there one (row ∷ rows) k v q w free there =
      let other : same k q ≡ false = false_from_ne_true (same k q)
      (λ t. none_some w (sym free ∙ (ap (λ (x : K). value_at same (row ∷ rows) x) (one k q t) ∙ there))) in
      by_test (below k row.0)
      (λ t. rw (t, other) there)
      (λ f. rw f (by_test (same row.0 q)
      (λ s. rw s (rw s at there))
      (λ s. rw s (kept_there one rows k v q w (free_behind row rows k free) (rw s at there)))))

same_place_itself : (p : Place) → same_place p p ≡ true
same_place_itself p = and_from (bytes_eq p.0 p.0) (nat_eq p.1 p.1) ((bytes_eq-Decides p.0 p.0).1 refl) (eq-eqb p.1 p.1 refl)

-- the same but for the shelf, where each row is there still
pub record Holds (T U : Trusted) : Type 0 where
  pub root : U.root ≡ T.root
  pub timestamp : U.timestamp ≡ T.timestamp
  pub snapshot : U.snapshot ≡ T.snapshot
  pub rows : HasRows T.shelf U.shelf

pub holds_itself : (T : Trusted) → Holds T T
holds_itself T = record { root = refl; timestamp = refl; snapshot = refl; rows = λ role version file there. there }

pub holds_through : (T U V : Trusted) → Holds T U → Holds U V → Holds T V
holds_through T U V h k = record {
  root = k.root ∙ h.root;
  timestamp = k.timestamp ∙ h.timestamp;
  snapshot = k.snapshot ∙ h.snapshot;
  rows = λ role version file there. k.rows role version file (h.rows role version file there);
}

is_none : {A : Type 0} (o : Option A) → IsNone o → o ≡ None
is_none None h = refl
is_none (Some a) h = let k : ◌≡◌ {A = Bool} true false = h in absurd cc

pub targets_leave : (T U : Trusted) (role : Name) (b : Bytes) (now : ℕ) → Left (offer T (TargetsOffer role) b now) T U → Holds T U
targets_leave T _ role b now (took (pass k (pass {a = new} r (pass l (pass {a = entry} e (pass n (pass v (pass x (pass d (pass (holds free) (pass f given))))))))))) = record {
  root = refl;
  timestamp = refl;
  snapshot = refl;
  rows = λ other version file there. kept_there place_before same_place place_one T.shelf (role, entry.version) new (other, version) file (is_none _ free) there;
}
targets_leave T _ role b now (stood h) = holds_itself T

live_snap : (T V : Trusted) (root : File Root) (now : ℕ) (snap : File Snapshot) → V.timestamp ≡ T.timestamp → V.snapshot ≡ T.snapshot
    → live_snapshot T.timestamp T.snapshot root now (Ok snap) → live_snapshot V.timestamp V.snapshot root now (Ok snap)
live_snap T V root now snap e f l =
    subst (λ (o : Option (File Snapshot)). live_snapshot V.timestamp o root now (Ok snap)) (sym f)
    (subst (λ (o : Option (File Timestamp)). live_snapshot o T.snapshot root now (Ok snap)) (sym e) l)

the_bytes : (rows more : Rows) (role : Name) (version : ℕ) (b : Bytes) → HasRows rows more → option_map (λ f. f.bytes) (row_at rows role version) ≡ Some b
    → option_map (λ f. f.bytes) (row_at more role version) ≡ Some b
the_bytes rows more role version b has is = by_row (row_at rows role version) refl is
  where
    by_row : (o : Option (File Targets)) → row_at rows role version ≡ o → option_map (λ f. f.bytes) o ≡ Some b → option_map (λ f. f.bytes) (row_at more role version) ≡ Some b
    by_row None at e = let k : ◌≡◌ {A = Option Bytes} None (Some b) = e in absurd cc
    by_row (Some f) at e = ap (λ (o : Option (File Targets)). option_map (λ f. f.bytes) o) (has role version f at) ∙ e

named_targets-never : (entry : MetaFile) (new : File Targets) → NeverSame (named_targets entry new)
named_targets-never entry new = then-never _ _ (check-never _ _) (λ _. then-never _ _ (check-never _ _) (λ _. check-never _ _))

same_there : (T U V : Trusted) (role : Name) (b : Bytes) (now : ℕ) → Left (offer T (TargetsOffer role) b now) T U → Holds U V → HasRows T.shelf V.shelf → offer V (TargetsOffer role) b now (Err Same)
same_there T _ V role b now (took (pass {a = root} k (pass {a = new} r (pass {a = snap} l (pass {a = entry} e (pass n (pass (holds v) (pass x (pass d (pass (holds free) (pass f given))))))))))) h has =
    let put = put_there place_before same_place T.shelf (role, entry.version) new (same_place_itself (role, entry.version)) (is_none _ free) in
    pass (steps.needed _ V.root root (h.root ∙ needed _ T.root root k)) (pass r (pass (live_snap T V root now snap h.timestamp h.snapshot l) (pass e (pass n
    (pass (holds (vouched_still (shelf_of root snap T.shelf) V.shelf has role new now v)) (pass x
    (decide (same (ap (λ (o : Option (File Targets)). option_map (λ f. f.bytes) o) (h.rows role entry.version new put))))))))))
same_there T _ V role b now (stood (pass {a = root} k (pass {a = new} r (pass {a = snap} l (pass {a = entry} e (pass n (pass (holds v) (pass x (decide (same is)))))))))) h has =
    pass (steps.needed _ V.root root (h.root ∙ needed _ T.root root k)) (pass r (pass (live_snap T V root now snap h.timestamp h.snapshot l) (pass e (pass n
    (pass (holds (vouched_still (shelf_of root snap T.shelf) V.shelf has role new now v)) (pass x
    (decide (same (the_bytes T.shelf V.shelf role entry.version new.bytes has is)))))))))
same_there T _ V role b now (stood (decide g)) h has = absurd (need-never _ T.root g)
same_there T _ V role b now (stood (pass k (decide r))) h has = elim r [ ]
same_there T _ V role b now (stood (pass {a = root} k (pass r (decide l)))) h has = absurd (live-never (record { trusted = T; blobs = [] }) root now l)
same_there T _ V role b now (stood (pass k (pass r (pass {a = snap} l (decide e))))) h has = absurd (need-never _ _ e)
same_there T _ V role b now (stood (pass k (pass {a = new} r (pass l (pass {a = entry} e (decide n)))))) h has = absurd (named_targets-never entry new n)
same_there T _ V role b now (stood (pass k (pass r (pass l (pass e (pass n (decide v))))))) h has = elim v [ ]
same_there T _ V role b now (stood (pass k (pass r (pass l (pass e (pass n (pass v (decide x)))))))) h has = elim x [ ]
same_there T _ V role b now (stood (pass k (pass r (pass l (pass e (pass n (pass v (pass x (pass d (decide t)))))))))) h has = elim t [ ]
same_there T _ V role b now (stood (pass k (pass r (pass l (pass e (pass n (pass v (pass x (pass d (pass t (decide f))))))))))) h has = elim f [ ]
same_there T _ V role b now (stood (pass k (pass r (pass l (pass e (pass n (pass v (pass x (pass d (pass t (pass f g))))))))))) h has = elim g [ ]

pub targets_again : (T U V : Trusted) (role : Name) (b : Bytes) (now : ℕ) → Left (offer T (TargetsOffer role) b now) T U → Holds U V → offer V (TargetsOffer role) b now (Err Same)
targets_again T U V role b now w h = same_there T U V role b now w h (holds_through T U V (targets_leave T U role b now w) h).rows
