-- What stays of a state as offers and uploads are taken: its roots, and as long as no root is taken, how old its timestamp and snapshot are.
use Rattle.std.proofs.Common.{◌≡◌, ◌⊎◌, inl, inr, ℕ, ◌<◌, ◌≤◌, true, false, List, [], ◌∷◌, ◌++◌, map, length, Option, Some, None, Ok, Err, refl, sym, ap, ◌∙◌, subst, arith}
use Rattle.std.specs.Prelude.{IfSome, IsSomeAnd, IsSome}
use Rattle.std.specs.List.{AllByRecursion}
use Rattle.std.proofs.lemmas.List.{append-nil, append_assoc}
use Rattle.std.proofs.lemmas.Bool.{cases_lt}
use Rattle.keys_roles.specs.Plain.{look_up}
use Rattle.document_parts.specs.Documents.{MetaFile, Profile, Root, Snapshot, Timestamp}
use Rattle.metadata.specs.File.{Bytes, File, Name}
use Rattle.denials.specs.Orders.{Denied, Judged, Same, given, pass}
use Rattle.delegations.specs.Rows.{place_before, with_row}
use Rattle.trust_rules.proofs.LinesGive.{Gives, checked, differed, given_by, gives, line, needed}
use Rattle.trust_rules.proofs.RowsInOrder.{length_with_row}
use Rattle.trust_rules.specs.State.{IsState, NamesSnapshot, State, Trusted, kept_root}
use Rattle.trust_rules.specs.Offers.{AfterRoot, Offer, RootOffer, SnapshotOffer, TargetsOffer, TimestampOffer, after_snapshot, after_timestamp, kept, live_timestamp, named_snapshot, offer, put_blob, rotated}
use Rattle.trust_rules.specs.Runs.{Batch, Command, Init, Metadata, OfferOne, Offered, Outcome, Prune, PutBlob, Reply, Stored, Target, Runs, Steps, done, next, settled, with_trusted}
use Rattle.client.proofs.HonestTakes.{invert}
use Rattle.client.proofs.Standing.{listed_each}
use Rattle.client.specs.Taken.{IsTaking, RunsOn}
use Rattle.client.specs.steps.Laws.{StepLaws}

-- ---- two files, the second of which may follow the first

abbrev pub IsFollowed : File Timestamp → File Timestamp → Type 0
IsFollowed t u = (u ≡ t) ⊎ ((t.body.version < u.body.version) × (t.body.snapshot.version ≤ u.body.snapshot.version))

abbrev pub ListsOn : File Snapshot → File Snapshot → Type 0
ListsOn s z = AllByRecursion (λ m. IsSomeAnd (look_up z.body.meta m.0) (λ e. m.1.version ≤ e.version)) s.body.meta

abbrev pub IsListedOn : File Snapshot → File Snapshot → Type 0
IsListedOn s z = (z ≡ s) ⊎ ListsOn s z

abbrev pub IsNamed : Option (File Timestamp) → Option (File Snapshot) → Type 0
IsNamed o p = IsSomeAnd o (λ stamp. IsSomeAnd p (NamesSnapshot stamp))

followed_self : (o : Option (File Timestamp)) → IfSome o (λ t. IsSomeAnd o (IsFollowed t))
followed_self None = tt
followed_self (Some t) = inl refl

followed : (t u v : File Timestamp) → IsFollowed t u → IsFollowed u v → IsFollowed t v
followed t u v (inl e) (inl f) = inl (f ∙ e)
followed t u v (inl e) (inr k) = inr (subst (λ (x : File Timestamp). (x.body.version < v.body.version) × (x.body.snapshot.version ≤ v.body.snapshot.version)) e k)
followed t u v (inr h) (inl f) = inr (subst (λ (x : File Timestamp). (t.body.version < x.body.version) × (t.body.snapshot.version ≤ x.body.snapshot.version)) (sym f) h)
followed t u v (inr h) (inr k) = let a = h.0 in let b = h.1 in let c = k.0 in let d = k.1 in inr (omega (arith, a, c), omega (arith, b, d))

followed_on : (o p q : Option (File Timestamp)) → IfSome o (λ t. IsSomeAnd p (IsFollowed t)) → IfSome p (λ t. IsSomeAnd q (IsFollowed t)) → IfSome o (λ t. IsSomeAnd q (IsFollowed t))
followed_on None p q h k = tt
followed_on (Some t) None q h k = absurd h
followed_on (Some t) (Some u) None h k = absurd k
followed_on (Some t) (Some u) (Some v) h k = followed t u v h k

same_between : (t u v : File Timestamp) → IsFollowed t u → IsFollowed u v → v ≡ t → u ≡ t
same_between t u v (inl e) k f = e
same_between t u v (inr h) (inl e) f = sym e ∙ f
same_between t u v (inr h) (inr k) f = let a = h.0 in let b = k.0 in let c = ap (λ (x : File Timestamp). x.body.version) f in absurd (omega (arith, a, b, c))

some_is : {A : Type 0} (a b : A) → Some a ≡ Some b → a ≡ b
some_is a b e = cc

-- a timestamp between two that are one is that one
between : (o p q : Option (File Timestamp)) (t : File Timestamp) → o ≡ Some t → IfSome o (λ t. IsSomeAnd p (IsFollowed t)) → IfSome p (λ t. IsSomeAnd q (IsFollowed t)) → q ≡ o → p ≡ o
between None p q t e h k same = let no : None ≡ Some t = e in absurd cc
between (Some x) None q t e h k same = absurd h
between (Some x) (Some u) None t e h k same = absurd k
between (Some x) (Some u) (Some v) t e h k same = ap (λ (y : File Timestamp). Some y) (same_between x u v h k (some_is v x same))

lists_on : (s z w : File Snapshot) → ListsOn s z → ListsOn z w → ListsOn s w
lists_on s z w h k = each s.body.meta h
  where
    one : (m : Name × MetaFile) (o : Option MetaFile) → look_up z.body.meta m.0 ≡ o → IsSomeAnd o (λ e. m.1.version ≤ e.version) → IsSomeAnd (look_up w.body.meta m.0) (λ e. m.1.version ≤ e.version)
    one m None e x = absurd x
    one m (Some entry) e x = more (look_up w.body.meta m.0) (listed_each (λ n. IsSomeAnd (look_up w.body.meta n.0) (λ f. n.1.version ≤ f.version)) z.body.meta m.0 entry k e)
      where
        more : (p : Option MetaFile) → IsSomeAnd p (λ f. entry.version ≤ f.version) → IsSomeAnd p (λ f. m.1.version ≤ f.version)
        more None y = absurd y
        more (Some f) y = omega (arith, x, y)

    each : (rows : List (Name × MetaFile)) → AllByRecursion (λ m. IsSomeAnd (look_up z.body.meta m.0) (λ e. m.1.version ≤ e.version)) rows
        → AllByRecursion (λ m. IsSomeAnd (look_up w.body.meta m.0) (λ e. m.1.version ≤ e.version)) rows
    each [] x = tt
    each (m ∷ rows) x = (one m (look_up z.body.meta m.0) refl x.0, each rows x.1)

pub listed_on : (s z w : File Snapshot) → IsListedOn s z → IsListedOn z w → IsListedOn s w
listed_on s z w (inl e) k = subst (λ (x : File Snapshot). IsListedOn x w) e k
listed_on s z w (inr h) (inl f) = inr (subst (λ (x : File Snapshot). ListsOn s x) (sym f) h)
listed_on s z w (inr h) (inr k) = inr (lists_on s z w h k)

listed_self : (o : Option (File Snapshot)) → IfSome o (λ s. IsSomeAnd o (IsListedOn s))
listed_self None = tt
listed_self (Some s) = inl refl

listed_far : (o p q : Option (File Snapshot)) → IfSome o (λ s. IsSomeAnd p (IsListedOn s)) → IfSome p (λ s. IsSomeAnd q (IsListedOn s)) → IfSome o (λ s. IsSomeAnd q (IsListedOn s))
listed_far None p q h k = tt
listed_far (Some s) None q h k = absurd h
listed_far (Some s) (Some z) None h k = absurd k
listed_far (Some s) (Some z) (Some w) h k = listed_on s z w h k

-- ---- what is trusted, and what is trusted later

-- without a new root
pub record Grows (X Y : Trusted) : Type 0 where
  pub root : Y.root ≡ X.root
  pub timestamp : IfSome X.timestamp (λ t. IsSomeAnd Y.timestamp (IsFollowed t))
  pub snapshot : IfSome X.snapshot (λ s. IsSomeAnd Y.snapshot (IsListedOn s))
  pub named : Y.timestamp ≡ X.timestamp → IsNamed X.timestamp X.snapshot → IsNamed X.timestamp Y.snapshot
  pub rows : length X.shelf ≤ length Y.shelf

grows_self : (X : Trusted) → Grows X X
grows_self X = record { root = refl; timestamp = followed_self X.timestamp; snapshot = listed_self X.snapshot; named = λ e h. h; rows = omega arith }

some_named : (o : Option (File Timestamp)) (p : Option (File Snapshot)) → IsNamed o p → (t : File Timestamp) × (o ≡ Some t)
some_named None p h = absurd h
some_named (Some t) p h = (t, refl)

pub grows_on : (X Y Z : Trusted) → Grows X Y → Grows Y Z → Grows X Z
grows_on X Y Z h k = record {
  root = k.root ∙ h.root;
  timestamp = followed_on X.timestamp Y.timestamp Z.timestamp h.timestamp k.timestamp;
  snapshot = listed_far X.snapshot Y.snapshot Z.snapshot h.snapshot k.snapshot;
  named = λ e n.
      let some = some_named X.timestamp X.snapshot n in
      let mid : Y.timestamp ≡ X.timestamp = between X.timestamp Y.timestamp Z.timestamp some.0 some.1 h.timestamp k.timestamp e in
      let at : IsNamed X.timestamp Y.snapshot = h.named mid n in
      subst (λ (o : Option (File Timestamp)). IsNamed o Z.snapshot) mid (k.named (e ∙ sym mid) (subst (λ (o : Option (File Timestamp)). IsNamed o Y.snapshot) (sym mid) at));
  rows = (let a = h.rows in let b = k.rows in omega (arith, a, b));
}

pub record Goes (X Y : Trusted) : Type 0 where
  pub more : List (Profile × Bytes)
  pub roots : Y.roots ≡ X.roots ++ more
  pub grows : more ≡ [] → Grows X Y

goes_same : (X Y : Trusted) → Y.roots ≡ X.roots → Grows X Y → Goes X Y
goes_same X Y e g = record { more = []; roots = e ∙ sym (append-nil X.roots); grows = λ _. g }

pub goes_self : (X : Trusted) → Goes X X
goes_self X = goes_same X X refl (grows_self X)

both_empty : (xs ys : List (Profile × Bytes)) → xs ++ ys ≡ [] → (xs ≡ []) × (ys ≡ [])
both_empty [] ys e = (refl, e)
both_empty (x ∷ xs) ys e = let k : ◌≡◌ {A = List (Profile × Bytes)} (x ∷ (xs ++ ys)) [] = e in absurd cc

pub goes_on : (X Y Z : Trusted) → Goes X Y → Goes Y Z → Goes X Z
goes_on X Y Z h k = record {
  more = h.more ++ k.more;
  roots = k.roots ∙ (ap (λ (l : List (Profile × Bytes)). l ++ k.more) h.roots ∙ append_assoc X.roots h.more k.more);
  grows = λ e. let parts = both_empty h.more k.more e in grows_on X Y Z (h.grows parts.0) (k.grows parts.1);
}

-- ---- an offer that is accepted

no_end : (x : Profile × Bytes) → ◌≡◌ {A = List (Profile × Bytes)} (x ∷ []) [] → ⊥
no_end x e = cc

root_goes : (T U : Trusted) (old new : File Root) (j : Judged Trusted) → j ≡ Ok U → AfterRoot T old new j → Goes T U
root_goes T U old new _ e (kept k) = record {
  more = kept_root new ∷ [];
  roots = (let same : Ok _ ≡ Ok U = e in let is = ok_is _ U same in ap (λ (X : Trusted). X.roots) (sym is));
  grows = λ none. absurd (no_end (kept_root new) none);
}
  where
    ok_is : (a b : Trusted) → ◌≡◌ {A = Judged Trusted} (Ok a) (Ok b) → a ≡ b
    ok_is a b e = cc
root_goes T U old new _ e (rotated k) = record {
  more = kept_root new ∷ [];
  roots = (let is = ok_is _ U e in ap (λ (X : Trusted). X.roots) (sym is));
  grows = λ none. absurd (no_end (kept_root new) none);
}
  where
    ok_is : (a b : Trusted) → ◌≡◌ {A = Judged Trusted} (Ok a) (Ok b) → a ≡ b
    ok_is a b e = cc

after_stamp : (o : Option (File Timestamp)) (new : File Timestamp) (u : Unit {0}) → after_timestamp o new (Ok u) → IfSome o (λ t. IsFollowed t new)
after_stamp None new u h = tt
after_stamp (Some old) new u (pass {a = a} v (pass {a = b} d n)) =
    let low : old.body.version ≤ new.body.version = checked _ _ a v in
    let other = differed _ b d in
    let named : old.body.snapshot.version ≤ new.body.snapshot.version = checked _ _ u n in
    inr (by low other (cases_lt old.body.version new.body.version), named)
  where
    by : old.body.version ≤ new.body.version → (old.body.version ≡ new.body.version → ⊥) → (old.body.version < new.body.version) ⊎ (new.body.version ≤ old.body.version) → old.body.version < new.body.version
    by low other (inl less) = less
    by low other (inr more) = absurd (other (omega (arith, low, more)))

stamp_some : (o : Option (File Timestamp)) (new : File Timestamp) → IfSome o (λ t. IsFollowed t new) → IfSome o (λ t. IsSomeAnd (Some new) (IsFollowed t))
stamp_some None new h = tt
stamp_some (Some t) new h = h

stamp_goes : (T U : Trusted) (b : Bytes) (now : ℕ) → offer T TimestampOffer b now (Ok U) → Goes T U
stamp_goes T _ b now (pass {a = root} k (pass {a = new} r (pass l (pass m (pass {a = u} a (pass f given)))))) =
    goes_same T (record T { timestamp = Some new }) refl (record {
      root = refl;
      timestamp = stamp_some T.timestamp new (after_stamp T.timestamp new u a);
      snapshot = listed_self T.snapshot;
      named = λ e h. h;
      rows = omega arith;
    })

older_rows : (old new : Snapshot) (rows : List (Name × MetaFile)) → AllByRecursion (λ m. IfSome (look_up new.meta m.0) (λ e. m.1.version ≤ e.version)) rows
    → AllByRecursion (λ m. IsSome (look_up new.meta m.0)) rows → AllByRecursion (λ m. IsSomeAnd (look_up new.meta m.0) (λ e. m.1.version ≤ e.version)) rows
older_rows old new [] h k = tt
older_rows old new (m ∷ rows) h k = (by (look_up new.meta m.0) h.0 k.0, older_rows old new rows h.1 k.1)
  where
    by : (o : Option MetaFile) → IfSome o (λ e. m.1.version ≤ e.version) → IsSome o → IsSomeAnd o (λ e. m.1.version ≤ e.version)
    by None x y = let no : false ≡ true = y in absurd cc
    by (Some e) x y = x

after_snap : (o : Option (File Snapshot)) (new : File Snapshot) (u : Unit {0}) → after_snapshot o new (Ok u) → IfSome o (λ s. IsSomeAnd (Some new) (IsListedOn s))
after_snap None new u h = tt
after_snap (Some old) new u (pass {a = a} v n) = inr (older_rows old.body new.body old.body.meta (checked _ _ a v) (checked _ _ u n))

live_stamp : (o : Option (File Timestamp)) (root : File Root) (now : ℕ) → Gives (λ stamp. o ≡ Some stamp) (live_timestamp o root now)
live_stamp o root now = line (λ _ h. line (λ stamp at. line (λ _ k. gives stamp (needed _ o stamp at))))

names_it : (stamp : File Timestamp) (root : File Root) (new : File Snapshot) (u : Unit {0}) → named_snapshot stamp root new (Ok u) → NamesSnapshot stamp new
names_it stamp root new u (pass {a = a} l (pass {a = b} h (pass {a = c} m v))) = (checked _ _ u v, checked _ _ a l, checked _ _ b h)

snap_goes : (T U : Trusted) (b : Bytes) (now : ℕ) → offer T SnapshotOffer b now (Ok U) → Goes T U
snap_goes T _ b now (pass {a = root} k (pass {a = new} r (pass {a = stamp} l (pass {a = v} n (pass {a = u} a (pass f (pass d given))))))) =
    let held : T.timestamp ≡ Some stamp = given_by (λ (t : File Timestamp). T.timestamp ≡ Some t) _ stamp (live_stamp T.timestamp root now) l in
    goes_same T (record T { snapshot = Some new }) refl (record {
      root = refl;
      timestamp = followed_self T.timestamp;
      snapshot = after_snap T.snapshot new u a;
      named = λ e h. subst (λ (o : Option (File Timestamp)). IsNamed o (Some new)) (sym held) (names_it stamp root new v n);
      rows = omega arith;
    })

targets_goes : (T U : Trusted) (role : Name) (b : Bytes) (now : ℕ) → offer T (TargetsOffer role) b now (Ok U) → Goes T U
targets_goes T _ role b now (pass {a = root} k (pass {a = new} r (pass {a = x} l (pass {a = entry} e (pass n (pass v (pass f (pass d (pass t (pass z given)))))))))) =
    goes_same T (record T { shelf = with_row place_before T.shelf (role, entry.version) new }) refl (record {
      root = refl;
      timestamp = followed_self T.timestamp;
      snapshot = listed_self T.snapshot;
      named = λ e h. h;
      rows = (let more = length_with_row place_before T.shelf (role, entry.version) new in omega (arith, more));
    })

offer_goes : (T U : Trusted) (o : Offer) (b : Bytes) (now : ℕ) → offer T o b now (Ok U) → Goes T U
offer_goes T U RootOffer b now (pass {a = old} k (pass d (pass {a = new} r (pass v (pass p (pass m (pass c (pass f after)))))))) = root_goes T U old new (Ok U) refl after
offer_goes T U TimestampOffer b now h = stamp_goes T U b now h
offer_goes T U SnapshotOffer b now h = snap_goes T U b now h
offer_goes T U (TargetsOffer role) b now h = targets_goes T U role b now h

-- ---- a run

put_keeps : (S T : State) (digest b : Bytes) → put_blob S digest b (Ok T) → T.trusted ≡ S.trusted
put_keeps S _ digest b (pass k (pass l (pass d (pass s (pass f given))))) = refl

step_goes : (now : ℕ) (command : Command) (C D : State) (reply : Reply) → IsTaking command → Steps C command now (D, reply) → Goes C.trusted D.trusted
step_goes now (OfferOne o b) C D reply is h = by (invert (offer C.trusted o b now) (settled C (λ T. (with_trusted C T, Offered false)) (Offered true)) (D, reply) h)
  where
    by : (j : Judged Trusted) × offer C.trusted o b now j × ((D, reply) ≡ settled C (λ T. (with_trusted C T, Offered false)) (Offered true) j) → Goes C.trusted D.trusted
    by (Ok U, g, e) = let k : D ≡ with_trusted C U = ap (λ (x : Outcome). x.0) e in subst (λ (X : State). Goes C.trusted X.trusted) (sym k) (offer_goes C.trusted U o b now g)
    by (Err Same, g, e) = let k : D ≡ C = ap (λ (x : Outcome). x.0) e in subst (λ (X : State). Goes C.trusted X.trusted) (sym k) (goes_self C.trusted)
    by (Err (Denied d), g, e) = let k : D ≡ C = ap (λ (x : Outcome). x.0) e in subst (λ (X : State). Goes C.trusted X.trusted) (sym k) (goes_self C.trusted)
step_goes now (PutBlob digest b) C D reply is h = by (invert (put_blob C digest b) (settled C (λ T. (T, Stored true)) (Stored false)) (D, reply) h)
  where
    by : (j : Judged State) × put_blob C digest b j × ((D, reply) ≡ settled C (λ T. (T, Stored true)) (Stored false) j) → Goes C.trusted D.trusted
    by (Ok U, g, e) =
        let k : D ≡ U = ap (λ (x : Outcome). x.0) e in
        subst (λ (T : Trusted). Goes C.trusted T) (sym (ap (λ (X : State). X.trusted) k ∙ put_keeps C U digest b g)) (goes_self C.trusted)
    by (Err Same, g, e) = let k : D ≡ C = ap (λ (x : Outcome). x.0) e in subst (λ (X : State). Goes C.trusted X.trusted) (sym k) (goes_self C.trusted)
    by (Err (Denied d), g, e) = let k : D ≡ C = ap (λ (x : Outcome). x.0) e in subst (λ (X : State). Goes C.trusted X.trusted) (sym k) (goes_self C.trusted)
step_goes now (Init _) C D reply is h = absurd is
step_goes now (Batch _) C D reply is h = absurd is
step_goes now Prune C D reply is h = absurd is
step_goes now (Metadata _) C D reply is h = absurd is
step_goes now (Target _ _) C D reply is h = absurd is

module _ (law : StepLaws) (now : ℕ) where
  runs_go : (commands : List Command) (C D : State) (replies : List Reply) → AllByRecursion IsTaking commands → IsState C → Runs C (map (λ command. (command, now)) commands) D replies
      → Goes C.trusted D.trusted × IsState D
  runs_go [] C _ _ each valid done = (goes_self C.trusted, valid)
  runs_go (command ∷ commands) C E _ each valid (next {T = D} {reply = reply} {replies = replies} s more) =
      let rest = runs_go commands D E replies each.1 (law.valid C D command now reply valid s) more in
      (goes_on C.trusted D.trusted E.trusted (step_goes now command C D reply each.0 s) rest.0, rest.1)

  pub run_goes : (C D : State) → IsState C → RunsOn IsTaking now C D → Goes C.trusted D.trusted × IsState D
  run_goes C D valid h = runs_go h.commands C D h.replies h.each valid h.runs
