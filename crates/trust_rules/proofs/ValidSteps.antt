-- What a command leaves is a state.
use Rattle.std.proofs.Common.{◌≡◌, ℕ, suc, ◌<◌, ◌≤◌, List, [], ◌∷◌, ◌++◌, length, length-append, Option, Some, None, Ok, Err, refl, sym, ap, ◌∙◌, subst, arith}
use Rattle.std.specs.Prelude.{Result, IfOk, IfSome, IfNone, IsSome, IsNone, All, is_some, bytes_eq}
use Rattle.std.specs.List.{AllByRecursion}
use Rattle.std.proofs.lemmas.Bool.{true≢false, false_from_ne_true}
use Rattle.std.proofs.lemmas.List.Elements.{All-nil}
use Rattle.std.proofs.lemmas.Slice.Eq.{bytes_eq-Decides}
use Rattle.sha2.specs.Sha256.{sha256}
use Rattle.keys_roles.specs.Plain.{RoleRule, Table, Signature, look_up}
use Rattle.keys_roles.specs.Rules.{SameRule, Counts, Meets}
use Rattle.path_patterns.specs.Grammar.{IsName}
use Rattle.document_parts.specs.Documents.{Root, Timestamp, Snapshot, Targets, MetaFile}
use Rattle.document_parts.specs.Bodies.{IsListable}
use Rattle.metadata.specs.File.{Bytes, Name, File, Form, IsFileOf, root_form, timestamp_form, snapshot_form, targets_form}
use Rattle.denials.specs.Orders.{Order, Judged, Denial, Denied, Same, judges}
use Rattle.delegations.specs.Delegation.{before}
use Rattle.delegations.specs.Rows.{Place, place_before, same_place, with_row, row_at, entry_of, Rises}
use Rattle.trust_rules.specs.State.{Trusted, State, nothing_trusted, nothing, blob_at, MeetsTop, FollowsRoot, first, kept_root, then, IsShelfRow, IsBlob, IsHeldUnder, IsTrusted, IsState}
use Rattle.limits.specs.Limits.{most_held, blob_limit}
use Rattle.trust_rules.specs.Offers.{KeepsRoles, with_root, emptied, kept, rotated, after_root, named_snapshot, named_targets, Offer, RootOffer, TimestampOffer, SnapshotOffer, TargetsOffer, init, offer_root, offer_timestamp, offer_snapshot, offer_targets, offer, put_blob, Batched, BatchOrder, coherent, incoherent, going_on, batch_from, batch}
use Rattle.trust_rules.specs.Runs.{Command, Reply, Outcome, Init, Batch, OfferOne, PutBlob, Prune, Metadata, Target, with_trusted, settled, batch_outcome, Steps, Runs, done, next}
use Rattle.trust_rules.proofs.CoherentSteps.{led}
use Rattle.trust_rules.proofs.LinesGive.{live_gives, checked_each, Gives, line, gives, checked, differed, needed, read, given_by}
use Rattle.delegations.proofs.KeyOrder.{orders_bytes, orders_places}
use Rattle.delegations.proofs.RisingKeys.{none_rise}
use Rattle.delegations.proofs.Walk.{by_test}
use Rattle.trust_rules.proofs.PrunedStates.{prune_each}
use Rattle.trust_rules.proofs.RowsInOrder.{all_with_row, length_with_row, rises_with_row}

-- ---- rules that stay

each_again : (P Q : Bytes → Type 0) → ((x : Bytes) → P x → Q x) → (xs : List Bytes) → AllByRecursion P xs → AllByRecursion Q xs
each_again P Q f [] h = tt
each_again P Q f (x ∷ xs) h = (f x h.0, each_again P Q f xs h.1)

meets_again : (old : RoleRule) (old_keys : Table) (new : RoleRule) (new_keys : Table) (signed : Bytes) (entries : List Signature)
    → SameRule old old_keys new new_keys → Meets old old_keys signed entries → Meets new new_keys signed entries
meets_again old old_keys new new_keys signed entries s m = record {
  keys = m.keys;
  distinct = m.distinct;
  enough = subst (λ (t : ℕ). t ≤ length m.keys) s.threshold m.enough;
  each = each_again (Counts old old_keys signed entries) (Counts new new_keys signed entries) counts_again m.keys m.each;
}
  where
    counts_again : (top : Bytes) → Counts old old_keys signed entries top → Counts new new_keys signed entries top
    counts_again top c =
        let there = s.no_fewer c.id c.of_rule in
        record {
          id = c.id;
          key = c.key;
          of_rule = there.0;
          of_table = sym there.1 ∙ c.of_table;
          is_top = c.is_top;
          is_signed = c.is_signed;
        }

held_again : {A : Type 0} (form : Form A) (old new : File Root) (old_rule new_rule : RoleRule) (o : Option (File A))
    → SameRule old_rule old.body.keys new_rule new.body.keys
    → IfSome o (λ f. IsFileOf form f × MeetsTop old old_rule f) → IfSome o (λ f. IsFileOf form f × MeetsTop new new_rule f)
held_again form old new old_rule new_rule None s h = tt
held_again form old new old_rule new_rule (Some f) s h =
    (h.0, meets_again old_rule old.body.keys new_rule new.body.keys f.signed f.entries s h.1)

-- ---- parts of what is trusted

held_of : (T : Trusted) (root : File Root) → IsTrusted T → T.root ≡ Some root → IsHeldUnder T root
held_of T root v e = subst (λ (o : Option (File Root)). IfSome o (IsHeldUnder T)) e v.held

there_of : {A : Type 0} (o : Option A) (a : A) → o ≡ Some a → IsSome o
there_of o a e = ap is_some e

-- what a new root leaves, and what a new row leaves
abbrev Left : Trusted → Type 0
Left T = IsTrusted T × IsSome T.root

module _ (T : Trusted) (v : IsTrusted T) where
  one_more_root : (new : File Root) → length T.roots < most_held → length (T.roots ++ kept_root new ∷ []) ≤ most_held
  one_more_root new few = omega (arith, length-append T.roots (kept_root new ∷ []))

  root_left : (old new : File Root) → T.root ≡ Some old → IsFileOf root_form new → FollowsRoot old new → length T.roots < most_held
      → KeepsRoles old.body new.body → Left (with_root T new)
  root_left old new e is follows few keeps =
      let h = held_of T old v e in (
        record {
          held = record {
            chain = then h.chain is follows;
            timestamp = held_again timestamp_form old new old.body.timestamp new.body.timestamp T.timestamp keeps.0 h.timestamp;
            snapshot = held_again snapshot_form old new old.body.snapshot new.body.snapshot T.snapshot keeps.1 h.snapshot;
          };
          none = tt;
          rows = v.rows;
          in_order = v.in_order;
          few_roots = one_more_root new few;
          few_rows = v.few_rows;
        },
        refl,
      )

  rotation_left : (old new : File Root) → T.root ≡ Some old → IsFileOf root_form new → FollowsRoot old new → length T.roots < most_held
      → Left (emptied (with_root T new))
  rotation_left old new e is follows few =
      let h = held_of T old v e in (
        record {
          held = record { chain = then h.chain is follows; timestamp = tt; snapshot = tt };
          none = tt;
          rows = All-nil IsShelfRow;
          in_order = none_rise place_before;
          few_roots = one_more_root new few;
          few_rows = omega arith;
        },
        refl,
      )

  -- a change that leaves the roots
  other_left : (U : Trusted) (root : File Root) → T.root ≡ Some root → U.root ≡ T.root → IsHeldUnder U root
      → All IsShelfRow U.shelf → Rises place_before U.shelf → length U.roots ≤ most_held → length U.shelf ≤ most_held → Left U
  other_left U root e same h rows in_order few_roots few_rows =
      let at = same ∙ e in (
        record {
          held = subst (λ (o : Option (File Root)). IfSome o (IsHeldUnder U)) (sym at) h;
          none = subst (λ (o : Option (File Root)). IfNone o (U ≡ nothing_trusted)) (sym at) tt;
          rows = rows;
          in_order = in_order;
          few_roots = few_roots;
          few_rows = few_rows;
        },
        there_of U.root root at,
      )

  timestamp_left : (root : File Root) (new : File Timestamp) → T.root ≡ Some root → IsFileOf timestamp_form new → MeetsTop root root.body.timestamp new
      → Left (record T { timestamp = Some new })
  timestamp_left root new e is meets =
      let h = held_of T root v e in
      other_left (record T { timestamp = Some new }) root e refl
      (record { chain = h.chain; timestamp = (is, meets); snapshot = h.snapshot }) v.rows v.in_order v.few_roots v.few_rows

  snapshot_left : (root : File Root) (new : File Snapshot) → T.root ≡ Some root → IsFileOf snapshot_form new → MeetsTop root root.body.snapshot new
      → Left (record T { snapshot = Some new })
  snapshot_left root new e is meets =
      let h = held_of T root v e in
      other_left (record T { snapshot = Some new }) root e refl
      (record { chain = h.chain; timestamp = h.timestamp; snapshot = (is, meets) }) v.rows v.in_order v.few_roots v.few_rows

  targets_left : (root : File Root) (place : Place) (new : File Targets) → T.root ≡ Some root → IsShelfRow (place, new)
      → IsNone (row_at T.shelf place.0 place.1) → length T.shelf < most_held → Left (record T { shelf = with_row place_before T.shelf place new })
  targets_left root place new e row absent few =
      let h = held_of T root v e in
      other_left (record T { shelf = with_row place_before T.shelf place new }) root e refl
      (record { chain = h.chain; timestamp = h.timestamp; snapshot = h.snapshot })
      (all_with_row IsShelfRow place_before T.shelf place new row v.rows)
      (rises_with_row place_before same_place orders_places T.shelf place new v.in_order absent)
      v.few_roots (let more = length_with_row place_before T.shelf place new in omega arith)

-- ---- a beginning

begun : (new : File Root) → IsFileOf root_form new → MeetsTop new new.body.root new → IsState (record { trusted = with_root nothing_trusted new; blobs = [] })
begun new is meets = record {
  trusted = record {
    held = record { chain = first is refl meets; timestamp = tt; snapshot = tt };
    none = tt;
    rows = All-nil IsShelfRow;
    in_order = none_rise place_before;
    few_roots = omega arith;
    few_rows = omega arith;
  };
  none = tt;
  blobs = All-nil IsBlob;
  in_order = none_rise before;
  few_blobs = omega arith;
}

init_gives : (S : State) (b : Bytes) → Gives IsState (init S b)
init_gives S b =
    line (λ _ h.
    line (λ new is.
    line (λ u meets. gives _ (begun new (read root_form b new is) (checked _ _ u meets)))))

pub init_valid : (S T : State) (b : Bytes) → init S b (Ok T) → IsState T
init_valid S T b h = given_by IsState (init S b) T (init_gives S b) h

pub nothing_valid : IsState nothing
nothing_valid = record {
  trusted = record {
    held = tt;
    none = refl;
    rows = All-nil IsShelfRow;
    in_order = none_rise place_before;
    few_roots = omega arith;
    few_rows = omega arith;
  };
  none = refl;
  blobs = All-nil IsBlob;
  in_order = none_rise before;
  few_blobs = omega arith;
}

-- ---- a blob

put_gives : (S : State) (digest b : Bytes) → IsState S → Gives IsState (put_blob S digest b)
put_gives S digest b v =
    line (λ root at.
    line (λ short_ok short.
    line (λ same_ok same.
    line (λ new_ok new.
    line (λ few_ok few. gives _ (stored (needed _ S.trusted.root root at) (checked _ _ short_ok short) (checked _ _ same_ok same)
    (false_from_ne_true _ (differed _ new_ok new)) (checked _ _ few_ok few)))))))
  where
    stored : {root : File Root} → S.trusted.root ≡ Some root → length b ≤ blob_limit → sha256 b ≡ digest → IsNone (blob_at S.blobs digest)
        → length S.blobs < most_held → IsState (record S { blobs = with_row before S.blobs digest b })
    stored e short same absent few = record {
      trusted = v.trusted;
      none = subst (λ (o : Option (File Root)). IfNone o (with_row before S.blobs digest b ≡ [])) (sym e) tt;
      blobs = all_with_row IsBlob before S.blobs digest b (record { digest = same; short = short }) v.blobs;
      in_order = rises_with_row before bytes_eq orders_bytes S.blobs digest b v.in_order absent;
      few_blobs = let more = length_with_row before S.blobs digest b in omega arith;
    }

pub put_valid : (S T : State) (digest b : Bytes) → IsState S → put_blob S digest b (Ok T) → IsState T
put_valid S T digest b v h = given_by IsState (put_blob S digest b) T (put_gives S digest b v) h

-- ---- what is trusted with what is held beside it

emptiness : {A B : Type 0} (o : Option A) (p : Option B) (P : Type 0) → IfNone p P → (IsSome p → IsSome o) → IfNone o P
emptiness None None P h k = h
emptiness None (Some b) P h k = absurd (true≢false (sym (k refl)))
emptiness (Some a) p P h k = tt

pub state_valid : (S : State) (T : Trusted) → IsState S → IsTrusted T → (IsSome S.trusted.root → IsSome T.root) → IsState (record S { trusted = T })
state_valid S T v t still = record {
  trusted = t;
  none = emptiness T.root S.trusted.root (S.blobs ≡ []) v.none still;
  blobs = v.blobs;
  in_order = v.in_order;
  few_blobs = v.few_blobs;
}

left_valid : (S : State) (T : Trusted) → IsState S → Left T → IsState (record S { trusted = T })
left_valid S T v t = state_valid S T v t.0 (λ there. t.1)

-- ---- offers

-- a snapshot lists names of roles that it may list
abbrev pub ListsNames : Type 0
ListsNames = (f : File Snapshot) → IsFileOf snapshot_form f → AllByRecursion (λ e. IsName e.0 × IsListable e.0) f.body.meta

listed_of : (rows : List (Name × MetaFile)) (role : Name) (entry : MetaFile) → AllByRecursion (λ e. IsName e.0 × IsListable e.0) rows
    → look_up rows role ≡ Some entry → IsName role × IsListable role
listed_of [] role entry all at = absurd (cc)
listed_of (row ∷ rows) role entry all at = by_test (bytes_eq row.0 role)
    (λ t. subst (λ (z : Name). IsName z × IsListable z) ((bytes_eq-Decides row.0 role).0 t) all.0)
    (λ f. listed_of rows role entry all.1 (rw f at at))

after_each : (T : Trusted) (old new : File Root) → (KeepsRoles old.body new.body → Left (with_root T new)) → Left (emptied (with_root T new))
    → (j : Judged Trusted) → after_root T old new j → IfOk j Left
after_each T old new keeps empties _ (kept h) = keeps h
after_each T old new keeps empties _ (rotated h) = empties

root_gives : (T : Trusted) (b : Bytes) → IsTrusted T → Gives Left (offer_root T b)
root_gives T b v =
    line (λ old at.
    line (λ _ other.
    line (λ new is.
    line (λ n next_ok.
    line (λ q profile_ok.
    line (λ o old_ok.
    line (λ p new_ok.
    line (λ f few_ok. after old new (needed _ T.root old at) (read root_form b new is)
    (record { next = checked _ _ n next_ok; profile = checked _ _ q profile_ok; by_old = checked _ _ o old_ok; by_new = checked _ _ p new_ok }) (checked _ _ f few_ok)))))))))
  where
    after : (old new : File Root) → T.root ≡ Some old → IsFileOf root_form new → FollowsRoot old new → length T.roots < most_held → Gives Left (after_root T old new)
    after old new e is follows few =
        record { each = after_each T old new (root_left T v old new e is follows few) (rotation_left T v old new e is follows few) }

timestamp_gives : (T : Trusted) (b : Bytes) (now : ℕ) → IsTrusted T → Gives Left (offer_timestamp T b now)
timestamp_gives T b now v =
    line (λ root at.
    line (λ new is.
    line (λ _ a.
    line (λ m meets.
    line (λ _ c.
    line (λ _ f. gives _ (timestamp_left T v root new (needed _ T.root root at) (read timestamp_form b new is) (checked _ _ m meets))))))))

-- a fact that holds whatever is given
whatever : {A : Type 0} {P : Type 0} (m : Order A) → P → Gives (λ a. P) m
whatever {A} {P} m p = record { each = each }
  where
    each : (j : Judged A) → m j → IfOk j (λ a. P)
    each (Ok a) h = p
    each (Err s) h = tt

named_gives : (stamp : File Timestamp) (root : File Root) (new : File Snapshot) → Gives (λ u. MeetsTop root root.body.snapshot new) (named_snapshot stamp root new)
named_gives stamp root new =
    line (λ _ a.
    line (λ _ b.
    line (λ m meets. whatever _ (checked _ _ m meets))))

snapshot_gives : (T : Trusted) (b : Bytes) (now : ℕ) → IsTrusted T → Gives Left (offer_snapshot T b now)
snapshot_gives T b now v =
    line (λ root at.
    line (λ new is.
    line (λ stamp live.
    line (λ u named.
    line (λ _ c.
    line (λ _ d.
    line (λ _ e. gives _ (snapshot_left T v root new (needed _ T.root root at) (read snapshot_form b new is) (given_by _ _ u (named_gives stamp root new) named)))))))))

module _ (law : ListsNames) where
  listed_role : (T : Trusted) (v : IsTrusted T) (root : File Root) (snap : File Snapshot) (role : Name) (entry : MetaFile)
      → T.root ≡ Some root → T.snapshot ≡ Some snap → entry_of snap role ≡ Some entry → IsName role × IsListable role
  listed_role T v root snap role entry e f at =
      let is = subst (λ (o : Option (File Snapshot)). IfSome o (λ s. IsFileOf snapshot_form s × MeetsTop root root.body.snapshot s)) f (held_of T root v e).snapshot in
      listed_of snap.body.meta role entry (law snap is.0) at

  entry_gives : (entry : MetaFile) (new : File Targets) → Gives (λ u. new.body.version ≡ entry.version) (named_targets entry new)
  entry_gives entry new =
      line (λ _ a.
      line (λ _ b. record { each = checked_each _ _ }))

  targets_gives : (T : Trusted) (role : Name) (b : Bytes) (now : ℕ) → IsTrusted T → Gives Left (offer_targets T role b now)
  targets_gives T role b now v =
      line (λ root at.
      line (λ new is.
      line (λ snap live.
      line (λ entry listed.
      line (λ u named.
      line (λ _ d.
      line (λ _ e.
      line (λ _ f.
      line (λ g absent.
      line (λ h few. gives _ (targets_left T v root (role, entry.version) new (needed _ T.root root at)
      (row root snap new entry (needed _ T.root root at) (given_by _ _ snap (live_gives T root now) live) (needed _ (entry_of snap role) entry listed)
      (read targets_form b new is) (given_by _ _ u (entry_gives entry new) named))
      (checked _ _ g absent) (checked _ _ h few))))))))))))
    where
      row : (root : File Root) (snap : File Snapshot) (new : File Targets) (entry : MetaFile) → T.root ≡ Some root → T.snapshot ≡ Some snap
          → entry_of snap role ≡ Some entry → IsFileOf targets_form new → new.body.version ≡ entry.version → IsShelfRow ((role, entry.version), new)
      row root snap new entry e f listed is version =
          let named = listed_role T v root snap role entry e f listed in
          record { document = is; version = version; role = named.0; listable = named.1 }

  offer_gives : (T : Trusted) (o : Offer) (b : Bytes) (now : ℕ) → IsTrusted T → Gives Left (offer T o b now)
  offer_gives T RootOffer b now v = root_gives T b v
  offer_gives T TimestampOffer b now v = timestamp_gives T b now v
  offer_gives T SnapshotOffer b now v = snapshot_gives T b now v
  offer_gives T (TargetsOffer role) b now v = targets_gives T role b now v

  offer_left : (T U : Trusted) (o : Offer) (b : Bytes) (now : ℕ) → IsTrusted T → offer T o b now (Ok U) → Left U
  offer_left T U o b now v h = given_by Left (offer T o b now) U (offer_gives T o b now v) h

  pub offer_valid : (T U : Trusted) (o : Offer) (b : Bytes) (now : ℕ) → IsTrusted T → offer T o b now (Ok U) → IsTrusted U
  offer_valid T U o b now v h = (offer_left T U o b now v h).0

  pub offer_roots : (T U : Trusted) (o : Offer) (b : Bytes) (now : ℕ) → IsTrusted T → offer T o b now (Ok U) → IsSome U.root
  offer_roots T U o b now v h = (offer_left T U o b now v h).1

-- ---- batches

-- what a batch leaves of what was trusted when it began
abbrev LeftOf : Trusted → Trusted → Type 0
LeftOf T U = IsTrusted U × (IsSome T.root → IsSome U.root)

abbrev IfBatched : Trusted → Result Batched (Denial × ℕ) → Type 0
IfBatched T r = IfOk r (λ B. LeftOf T B.trusted)

module _ (law : ListsNames) (T : Trusted) where
  going : (B : Batched) (i : ℕ) (go : Batched → BatchOrder) (r : Result Batched (Denial × ℕ)) → LeftOf T B.trusted
      → ((C : Batched) → LeftOf T C.trusted → go C r → IfBatched T r) → (j : Judged Trusted) → IfOk j Left → going_on B i go j r → IfBatched T r
  going B i go r v each (Ok U) left h = each _ (left.0, λ there. left.1) h
  going B i go r v each (Err Same) left h = each _ v h
  going B i go r v each (Err (Denied d)) left h = subst (IfBatched T) (sym h) tt

  batch_left : (B : Batched) (i : ℕ) (os : List (Offer × Bytes)) (now : ℕ) (r : Result Batched (Denial × ℕ)) → LeftOf T B.trusted
      → batch_from B i os now r → IfBatched T r
  batch_left B i [] now _ v (coherent p) = v
  batch_left B i [] now _ v (incoherent p) = tt
  batch_left B i (o ∷ os) now r v (judges {j} h k) =
      going B i (λ C. batch_from C (suc i) os now) r v (λ C w g. batch_left C (suc i) os now r w g) j ((offer_gives law B.trusted o.0 o.1 now v.0).each j h) k

  batched : (os : List (Offer × Bytes)) (now : ℕ) (r : Result Batched (Denial × ℕ)) → IsTrusted T → batch T os now r → IfBatched T r
  batched os now r v h = batch_left _ 0 os now r (v, λ there. there) h

  pub batch_valid : (os : List (Offer × Bytes)) (now : ℕ) (B : Batched) → IsTrusted T → batch T os now (Ok B) → IsTrusted B.trusted
  batch_valid os now B v h = (batched os now (Ok B) v h).0

  pub batch_roots : (os : List (Offer × Bytes)) (now : ℕ) (B : Batched) → IsTrusted T → batch T os now (Ok B) → IsSome T.root → IsSome B.trusted.root
  batch_roots os now B v h = (batched os now (Ok B) v h).1

-- ---- commands

if_ok : {A E : Type 0} (P Q : A → Type 0) (r : Result A E) → ((a : A) → P a → Q a) → IfOk r P → IfOk r Q
if_ok P Q (Ok a) f h = f a h
if_ok P Q (Err e) f h = tt

settled_valid : {A : Type 0} (S : State) (out : A → Outcome) (same : Reply) (j : Judged A) → IsState S → IfOk j (λ a. IsState (out a).0)
    → IsState (settled S out same j).0
settled_valid S out same (Ok a) v h = h
settled_valid S out same (Err Same) v h = v
settled_valid S out same (Err (Denied d)) v h = v

batch_settled : (S : State) (r : Result Batched (Denial × ℕ)) → IsState S → IfBatched S.trusted r → IsState (batch_outcome S r).0
batch_settled S (Ok B) v h = state_valid S B.trusted v h.0 h.1
batch_settled S (Err d) v h = v

abbrev Stands : Outcome → Type 0
Stands o = IsState o.0

kept_by : {A : Type 0} (S : State) (j : Judged A) → IsState S → IfOk j (λ a. IsState S)
kept_by S (Ok a) v = v
kept_by S (Err s) v = tt

module _ (law : ListsNames) where
  pub steps_valid : (S T : State) (c : Command) (now : ℕ) (reply : Reply) → IsState S → Steps S c now (T, reply) → IsState T
  steps_valid S T (Init b) now reply v h =
      let w = led _ _ _ h in subst Stands w.2 (settled_valid S _ _ w.0 v ((init_gives S b).each w.0 w.1))
  steps_valid S T (Batch os) now reply v h =
      let w = led _ _ _ h in subst Stands w.2 (batch_settled S w.0 v (batched law S.trusted os now w.0 v.trusted w.1))
  steps_valid S T (OfferOne o b) now reply v h =
      let w = led _ _ _ h in
      subst Stands w.2 (settled_valid S _ _ w.0 v
      (if_ok Left (λ U. IsState (with_trusted S U)) w.0 (λ U left. left_valid S U v left) ((offer_gives law S.trusted o b now v.trusted).each w.0 w.1)))
  steps_valid S T (PutBlob digest b) now reply v h =
      let w = led _ _ _ h in subst Stands w.2 (settled_valid S _ _ w.0 v ((put_gives S digest b v).each w.0 w.1))
  steps_valid S T Prune now reply v h =
      let w = led _ _ _ h in subst Stands w.2 (settled_valid S _ _ w.0 v (prune_each S v w.0 w.1))
  steps_valid S T (Metadata name) now reply v h = subst Stands (sym h) v
  steps_valid S T (Target path asked) now reply v h =
      let w = led _ _ _ h in subst Stands w.2 (settled_valid S _ _ w.0 v (kept_by S w.0 v))

  pub runs_valid : (S T : State) (cs : List (Command × ℕ)) (replies : List Reply) → IsState S → Runs S cs T replies → IsState T
  runs_valid S _ _ _ v done = v
  runs_valid S T _ _ v (next {T = U} {c} {now} {cs} {reply} {replies} h rest) = runs_valid U T cs replies (steps_valid S U c now reply v h) rest
