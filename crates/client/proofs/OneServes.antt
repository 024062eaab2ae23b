-- A fetch by each of several sources, one of which is honest, has what its server grants, unless the client is ahead.
use Rattle.std.proofs.Common.{◌≡◌, ◌⊎◌, inl, inr, ℕ, suc, ◌<◌, ◌≤◌, Bool, true, false, cond, List, [], ◌∷◌, length, length-append, Option, Some, None, Result, Ok, Err, refl, sym, ap, ◌∙◌, subst, arith, bytes_eq, Vec, Global}
use Rattle.std.specs.Prelude.{IfOk, IsNone, IsSome}
use Rattle.std.proofs.lemmas.Bool.{cases_lt}
use Rattle.path_patterns.specs.Grammar.{IsTargetPath}
use Rattle.document_parts.specs.Documents.{MetaFile, Profile, Root, Snapshot, Targets}
use Rattle.metadata.specs.File.{Bytes, File, Name, Names}
use Rattle.denials.specs.Orders as orders
use Rattle.denials.specs.Orders.{Judged, Plain, Same, given, pass}
use Rattle.delegations.specs.Delegation.{before}
use Rattle.delegations.specs.Rows.{Rows, entry_of, place_before, row_at, same_place, value_at, with_row}
use Rattle.trust_rules.proofs.LinesGive.{checked, differed}
use Rattle.trust_rules.proofs.RowsInOrder.{length_with_row}
use Rattle.trust_rules.proofs.ShapedOnce.{Shapes}
use Rattle.trust_rules.specs.Misses.{IsPart}
use Rattle.trust_rules.specs.State.{IsCoherent, IsState, State, Trusted, blob_at}
use Rattle.trust_rules.specs.Offers.{TargetsOffer, offer, put_blob}
use Rattle.trust_rules.specs.Grants.{grants}
use Rattle.trust_rules.specs.Runs.{with_trusted}
use Rattle.fetch.specs.Source.{Gives}
use Rattle.fetch.specs.declared.FetchFault.TheVariants as fetches
use Rattle.client.specs.Agreement.{Agrees}
use Rattle.client.specs.Behind as roots_after
use Rattle.client.specs.Behind.{AfterRoots, Behind, IsBare, IsOlder, most_rows}
use Rattle.client.specs.Session as session
use Rattle.client.specs.Session.{Fetches, Makes, Takes}
use Rattle.client.specs.Several.{FetchesByEach, InTurn, IsHonestAt, IsLast, IsLevel, IsServed, IsWanting, OneServes, Turns, ends, goes, over, together}
use Rattle.client.specs.Views as views
use Rattle.client.specs.Views.{Fault, fetched}
use Rattle.client.specs.declared.fault.ClientFault.{ClientFault}
use Rattle.client.specs.Wanted.{Misses, Wanted, blob, role}
use Rattle.client.specs.steps.Laws.{GrantLaws, NewLaws, StepLaws}
use Rattle.client.proofs.FetchAgrees.{fetch_agrees}
use Rattle.client.proofs.HonestTakes.{Comes, makes_valid, offer_comes, put_comes}
use Rattle.client.proofs.Levels.{Level}
use Rattle.client.proofs.RootsFollow.{held_by, trusts_one}
use Rattle.client.proofs.Runs.{fetch-granted}
use Rattle.client.proofs.Standing.{OneKey, none_some, one_place, same_blob, some_one, value_put}
use Rattle.client.proofs.StampAndSnapshot.{IsDenied, no_stamp, root_dead, server_of}
use Rattle.client.proofs.Turning.{From, Turned, find, from_turn, is_honest, keeps}

-- ---- what stays of a state as files are fetched

pub record Stays (X Y : State) : Type 0 where
  pub roots : Y.trusted.roots ≡ X.trusted.roots
  pub root : Y.trusted.root ≡ X.trusted.root
  pub timestamp : Y.trusted.timestamp ≡ X.trusted.timestamp
  pub snapshot : Y.trusted.snapshot ≡ X.trusted.snapshot
  pub rows : (name : Name) (version : ℕ) (f : File Targets) → row_at X.trusted.shelf name version ≡ Some f → row_at Y.trusted.shelf name version ≡ Some f
  pub blobs : (digest b : Bytes) → blob_at X.blobs digest ≡ Some b → blob_at Y.blobs digest ≡ Some b
  pub more : length X.trusted.shelf ≤ length Y.trusted.shelf

pub stays_self : (X : State) → Stays X X
stays_self X = record { roots = refl; root = refl; timestamp = refl; snapshot = refl; rows = λ name version f e. e; blobs = λ digest b e. e; more = omega arith }

pub stays_on : (X Y Z : State) → Stays X Y → Stays Y Z → Stays X Z
stays_on X Y Z h k = record {
  roots = k.roots ∙ h.roots;
  root = k.root ∙ h.root;
  timestamp = k.timestamp ∙ h.timestamp;
  snapshot = k.snapshot ∙ h.snapshot;
  rows = λ name version f e. k.rows name version f (h.rows name version f e);
  blobs = λ digest b e. k.blobs digest b (h.blobs digest b e);
  more = (let a = h.more in let b = k.more in omega (arith, a, b));
}

not_some : {A : Type 0} (o : Option A) → ¬ IsSome o → o ≡ None
not_some None h = refl
not_some (Some a) h = absurd (h refl)

no_value : {A : Type 0} (o : Option A) → IsNone o → o ≡ None
no_value None h = refl
no_value (Some a) h = let k : true ≡ false = h in absurd cc

by_test : {P : Type 0} (b : Bool) → (b ≡ true → P) → (b ≡ false → P) → P
by_test true t f = t refl
by_test false t f = f refl

true_false : ◌≡◌ {A = Bool} true false → ⊥
true_false e = cc

-- where something stands, nothing is absent under the same key
absent_other : {K A : Type 0} (same : K → K → Bool) → OneKey same → (rows : List (K × A)) (k q : K) (w : A) → value_at same rows k ≡ None → value_at same rows q ≡ Some w → same k q ≡ true → ⊥
absent_other same one [] k q w none there alike = none_some w there
absent_other {K} {A} same one (row ∷ rows) k q w none there alike = by (absent_other same one rows k q w) (same row.0 q) (same row.0 k) refl refl none there
  where
    by : (value_at same rows k ≡ None → value_at same rows q ≡ Some w → same k q ≡ true → ⊥) → (a b : Bool) → same row.0 q ≡ a → same row.0 k ≡ b
        → cond b (Some row.1) (value_at same rows k) ≡ None → cond a (Some row.1) (value_at same rows q) ≡ Some w → ⊥
    by rest a true e f x y = none_some row.1 (sym x)
    by rest true false e f x y = true_false (sym (one row.0 k q e alike) ∙ f)
    by rest false false e f x y = rest x y alike

-- a row that is added leaves what stood elsewhere
kept_value : {K A : Type 0} (below same : K → K → Bool) → OneKey same → (rows : List (K × A)) (k : K) (v : A) (q : K) (w : A)
    → value_at same rows k ≡ None → value_at same rows q ≡ Some w → value_at same (with_row below rows k v) q ≡ Some w
kept_value below same one rows k v q w none there = value_put below same one rows k v q none ∙ by (same k q) refl
  where
    by : (b : Bool) → same k q ≡ b → cond b (Some v) (value_at same rows q) ≡ Some w
    by true t = absurd (absent_other same one rows k q w none there t)
    by false t = there

row_stays : (C : State) (U : Trusted) (r : Name) (b : Bytes) (now : ℕ) → offer C.trusted (TargetsOffer r) b now (Ok U) → Stays C (with_trusted C U)
row_stays C _ r b now (pass {a = root} k (pass {a = new} z (pass {a = x} l (pass {a = entry} e (pass n (pass v (pass f (pass d (pass {a = u} t (pass w given)))))))))) =
    let absent : row_at C.trusted.shelf r entry.version ≡ None = no_value _ (checked _ _ u t) in
    record {
      roots = refl;
      root = refl;
      timestamp = refl;
      snapshot = refl;
      rows = λ name version file at. kept_value place_before same_place one_place C.trusted.shelf (r, entry.version) new (name, version) file absent at;
      blobs = λ digest c at. at;
      more = (let more = length_with_row place_before C.trusted.shelf (r, entry.version) new in omega (arith, more));
    }

blob_stays : (C U : State) (digest b : Bytes) → put_blob C digest b (Ok U) → Stays C U
blob_stays C _ digest b (pass k (pass l (pass d (pass {a = u} s (pass f given))))) =
    let absent : blob_at C.blobs digest ≡ None = not_some _ (differed _ u s) in
    record {
      roots = refl;
      root = refl;
      timestamp = refl;
      snapshot = refl;
      rows = λ name version file at. at;
      blobs = λ q c at. kept_value before bytes_eq same_blob C.blobs digest b q c absent at;
      more = omega arith;
    }

stays_as : (C D : State) → D ≡ C → Stays C D
stays_as C D e = subst (λ (X : State). Stays C X) (sym e) (stays_self C)

row_made : (C D : State) (r : Name) (b : Bytes) (now : ℕ) (q : Result (Unit {0}) Fault) → Comes (offer C.trusted (TargetsOffer r) b now) (with_trusted C) C D q → Stays C D
row_made C D r b now q (inl k) = stays_as C D k.1
row_made C D r b now q (inr (Ok U, o, e)) = subst (λ (X : State). Stays C X) (sym e.0) (row_stays C U r b now o)
row_made C D r b now q (inr (Err Same, o, e)) = stays_as C D e.0
row_made C D r b now q (inr (Err (orders.Denied d), o, e)) = stays_as C D e.0

blob_made : (C D : State) (digest b : Bytes) (q : Result (Unit {0}) Fault) → Comes (put_blob C digest b) (λ T. T) C D q → Stays C D
blob_made C D digest b q (inl k) = stays_as C D k.1
blob_made C D digest b q (inr (Ok U, o, e)) = subst (λ (X : State). Stays C X) (sym e.0) (blob_stays C U digest b o)
blob_made C D digest b q (inr (Err Same, o, e)) = stays_as C D e.0
blob_made C D digest b q (inr (Err (orders.Denied d), o, e)) = stays_as C D e.0

made : (now : ℕ) (d : orders.Denial) (w : Wanted) → Misses d w → (C D : State) (b : Bytes) (q : Result (Unit {0}) Fault) → Makes now (w.command b) C D q → Stays C D
made now _ _ (role {role = r} is) C D b q h = row_made C D r b now q (offer_comes now C D (TargetsOffer r) b q h)
made now _ _ (blob {digest = digest} asks) C D b q h = blob_made C D digest b q (put_comes now C D digest b q h)

module _ (step : StepLaws) {Src : Type 0} (from : Gives Src) (now : ℕ) where
  takes_stays : (d : orders.Denial) (w : Wanted) → Misses d w → (s t : Src) (C D : State) (q : Result Bool Fault) → IsState C → Takes from now w s C t D q → Stays C D × IsState D
  takes_stays d w m s t C D _ valid (session.taken {b = b} g short h) = (made now d w m C D b _ h, makes_valid step now (w.command b) C D _ valid h)
  takes_stays d w m s t C D _ valid (session.rejected {b = b} g short h) = (made now d w m C D b _ h, makes_valid step now (w.command b) C D _ valid h)
  takes_stays d w m s t C _ _ valid (session.absent g) = (stays_self C, valid)
  takes_stays d w m s t C _ _ valid (session.overlong g long) = (stays_self C, valid)
  takes_stays d w m s t C _ _ valid (session.failed g) = (stays_self C, valid)
  takes_stays d w m s _ C _ _ valid session.unasked = (stays_self C, valid)

  fetch_stays : (trusted : Type 0) (path : Bytes) (names : Names) (s t : Src) (C D : State) (r : Result Bytes Fault) → IsState C → Fetches trusted from now path names s C t D r → Stays C D × IsState D
  fetch_stays trusted path names s _ C _ _ valid (session.ends (session.granted g)) = (stays_self C, valid)
  fetch_stays trusted path names s _ C _ _ valid (session.ends (session.denied g none_missing)) = (stays_self C, valid)
  fetch_stays trusted path names s _ C _ _ valid (session.ends (session.again g m e)) = (stays_self C, valid)
  fetch_stays trusted path names s _ C _ _ valid (session.ends (session.enough g m e)) = (stays_self C, valid)
  fetch_stays trusted path names s t C D _ valid (session.ends (session.absent {d = d} {w = w} g m e l h)) = takes_stays d w m s t C D _ valid h
  fetch_stays trusted path names s t C D _ valid (session.ends (session.fails {d = d} {w = w} g m e l h)) = takes_stays d w m s t C D _ valid h
  fetch_stays trusted path names s u C E r valid (session.further {t = t} {D = D} {d = d} {w = w} g m e l h more) =
      let one = takes_stays d w m s t C D _ valid h in
      let rest = fetch_stays trusted path _ t u D E r one.1 more in
      (stays_on C D E one.0 rest.0, rest.1)
  fetch_stays trusted path names s _ C _ _ valid (session.ends (session.unanswered f)) = (stays_self C, valid)

-- ---- bytes that are answered are granted

abbrev IsNoFile : Result Bytes Fault → Type 0
IsNoFile q = (b : Bytes) → q ≡ Ok b → ⊥

not_last : (q : Result Bytes Fault) → (IsLast q → ⊥) → IsNoFile q
not_last (Ok a) not b e = not tt
not_last (Err fault) not b e = cc

neither : (q r : Result Bytes Fault) → IsNoFile q → IsNoFile r → IsNoFile (together q r)
neither (Ok a) r h k b e = h a refl
neither (Err fault) (Ok a) h k b e = k a refl
neither (Err fault) (Err more) h k b e = cc

module _ (trusted : Type 0) (trust : trusted) {Src : Type 0} (from : Gives Src) (turns tells : Turns Src) (now : ℕ) (path : Bytes) where
  pub granted_end : (place n : ℕ) (so_far q : Result Bytes Fault) (s v : Src) (C E : State) → IsNoFile so_far → InTurn turns tells (Fetches trusted from now path []) IsLast place n so_far s C v E q → (b : Bytes) → q ≡ Ok b
      → grants E path None now (Ok b)
  granted_end place _ so_far _ s _ C _ empty over b e = absurd (empty b e)
  granted_end place _ so_far q s v C E empty (ends {t = t} turn call end) b e = fetch-granted trusted from now trust path [] t v C E q b call e
  granted_end place _ so_far q s v C E empty (goes {n = n} {r = r} {v = w} {D = D} turn call not told more) b e =
      granted_end (suc place) n (together so_far r) q w v D E (neither so_far r empty (not_last r not)) more b e

-- the same of all turns, with what the code answers
no_file : IsNoFile (Err (views.Fetch fetches.Broken))
no_file b e = cc

pub granted_by_each : (trusted : Type 0) {Src : Type 0} (from : Gives Src) (turns tells : Turns Src) (now count : ℕ) (path : Bytes) (s v : Src) (C E : State) (r : Result (Vec ℕ Global) ClientFault)
    → FetchesByEach trusted from turns tells now path count s C v E (fetched r) → trusted → IfOk r (λ b. grants E path None now (Ok b.items))
granted_by_each trusted from turns tells now count path s v C E (Ok b) h sure = granted_end trusted sure from turns tells now path 0 count _ (Ok b.items) s v C E no_file h b.items refl
granted_by_each trusted from turns tells now count path s v C E (Err fault) h sure = tt

-- ---- the law

long_as : (xs ys : List (Profile × Bytes)) → xs ≡ ys → length xs ≡ length ys
long_as xs ys e = ap length e

none_left : (xs : List (Profile × Bytes)) → length xs ≡ 0 → xs ≡ []
none_left [] e = refl
none_left (x ∷ xs) e = absurd (omega (arith, e))

no_row : (shelf : Rows) (r : Name) (v : ℕ) (f : File Targets) → shelf ≡ [] → row_at shelf r v ≡ Some f → ⊥
no_row shelf r v f e h = none_some f (subst (λ (rows : Rows). row_at rows r v ≡ Some f) e h)

ok_is : (a b : Bytes) → ◌≡◌ {A = Judged Bytes} (Ok a) (Ok b) → a ≡ b
ok_is a b e = cc

ok_err : (a : Bytes) (d : orders.Denial) → ◌≡◌ {A = Judged Bytes} (Ok a) (Err (orders.Denied d)) → ⊥
ok_err a d e = cc

module _ (news : NewLaws) (grant : GrantLaws) (step : StepLaws) (shapes : Shapes) (trusted : Type 0) (trust : trusted) {Src : Type 0} (from : Gives Src) (turns tells : Turns Src) (count now : ℕ) (path : Bytes) (is_path : IsTargetPath path)
    (s t : Src) (C E : State) (r : Result Bytes Fault) (valid : IsState C) (h : FetchesByEach trusted from turns tells now path count s C t E r)
    (S : State) (place : ℕ) (inside : place < count) (honest : IsHonestAt from turns place S now) (sure : IsState S) (coherent : IsCoherent S.trusted) (level : IsLevel C S) (still : Behind E S now) where
  each : (s t : Src) (C D : State) (q : Result Bytes Fault) → IsState C → Fetches trusted from now path [] s C t D q → Stays C D × IsState D
  each s t C D q valid k = fetch_stays step from now trusted path [] s t C D q valid k

  whole : Stays C E × IsState E
  whole = keeps turns tells (Fetches trusted from now path []) IsLast Stays stays_self stays_on each 0 count _ r s t C E valid h

  same_roots : E.trusted.roots ≡ S.trusted.roots
  same_roots = whole.0.roots ∙ level.roots

  none_more : still.later ≡ []
  none_more = none_left still.later (let a = long_as _ _ same_roots in let b = long_as _ _ still.beginning in let c = length-append E.trusted.roots still.later in omega (arith, a, b, c))

  caught : IsBare E.trusted ⊎ IsOlder E.trusted S.trusted now
  caught = still.caught_up E.trusted (subst (λ (l : List (Profile × Bytes)). AfterRoots E.trusted l E.trusted) (sym none_more) roots_after.none)

  some_roots : S.trusted.roots ≡ [] → ⊥
  some_roots none = still.rooted (same_roots ∙ none)

  its : (root : File Root) × (S.trusted.root ≡ Some root)
  its = trusts_one S.trusted sure.trusted some_roots

  -- each state between holds a part of the server's
  part_of : (X : State) → Stays C X → Stays X E → IsPart X S
  part_of X up on = record {
    root = up.root ∙ level.root;
    timestamp = up.timestamp ∙ level.timestamp;
    snapshot = up.snapshot ∙ level.snapshot;
    rows = λ snap held name entry file listed at. by snap held name entry file listed (on.rows name entry.version file at) caught;
    blobs = λ digest b at. still.blobs_shared digest b (on.blobs digest b at);
  }
    where
      by : (snap : File Snapshot) → S.trusted.snapshot ≡ Some snap → (name : Name) (entry : MetaFile) (file : File Targets) → entry_of snap name ≡ Some entry → row_at E.trusted.shelf name entry.version ≡ Some file
          → IsBare E.trusted ⊎ IsOlder E.trusted S.trusted now → row_at S.trusted.shelf name entry.version ≡ Some file
      by snap held name entry file listed at (inl bare) = absurd (no_row E.trusted.shelf name entry.version file bare.shelf at)
      by snap held name entry file listed at (inr older) =
          older.rows_shared name entry file (subst (λ (x : File Snapshot). entry_of x name ≡ Some entry) (some_one snap older.snap (sym held ∙ older.snapshot_held)) listed) at

  -- what is answered both grant
  both : (b : Bytes) → r ≡ Ok b → grants S path None now (Ok b) × grants E path None now (Ok b)
  both b e =
      let g = granted_end trusted trust from turns tells now path 0 count _ r s t C E (λ c k. cc) h b e in
      (grant.same E S path None now (Ok b) (part_of E whole.0 (stays_self E)) tt g, g)

  bytes : (q : Result Bytes Fault) → r ≡ q → IfOk q (λ b. grants S path None now (Ok b) × grants E path None now (Ok b))
  bytes (Ok b) e = both b e
  bytes (Err fault) e = tt

  Is : Src → Type 0
  Is = From from turns place S now

  module _ (b : Bytes) (g : grants S path None now (Ok b)) where
    not_denied : IsDenied S path now → ⊥
    not_denied d = ok_err b (Plain d.0) (grant.once S path None now (Ok b) (Err (orders.Denied (Plain d.0))) g d.1)

    -- a server that grants something is live
    older_than : IsOlder E.trusted S.trusted now
    older_than = by caught
      where
        by : IsBare E.trusted ⊎ IsOlder E.trusted S.trusted now → IsOlder E.trusted S.trusted now
        by (inr older) = older
        by (inl bare) = absurd (live (cases_lt now its.0.body.expires))
          where
            none : S.trusted.timestamp ≡ None
            none = sym (whole.0.timestamp ∙ level.timestamp) ∙ bare.timestamp

            live : (now < its.0.body.expires) ⊎ (its.0.body.expires ≤ now) → ⊥
            live (inl lives) = not_denied (no_stamp path is_path now S its.0 its.1 lives none)
            live (inr past) = not_denied (root_dead path is_path now S its.0 its.1 (λ below. omega (arith, past, below)))

    level_at : (X : State) → IsState X → Stays C X → Stays X E → Level S X path now []
    level_at X good up on = record {
      valid = good;
      part = part_of X up on;
      snap = older_than.snap;
      snapped = older_than.snapshot_held;
      snap_read = (server_of S.trusted its.0 older_than.stamp older_than.snap (held_by S.trusted its.0 sure.trusted its.1) coherent older_than.timestamp_held older_than.snapshot_held).snap_read;
      roles = [];
      roles_distinct = tt;
      roles_held = tt;
      paths = [];
      paths_distinct = tt;
      paths_held = tt;
      few = omega arith;
      room = (let a = on.more in let b = older_than.room in omega (arith, a, b));
      held = tt;
    }

    not_refused : (X : State) (q : Result Bytes Fault) → Agrees S X path now q → (IsLast q → ⊥) → ⊥
    not_refused X (Ok c) agrees not = not tt
    not_refused X (Err (views.Denied d)) agrees not = (agrees.denied d refl).0 b g
    not_refused X (Err (views.Fetch fault)) agrees not = not (agrees.fetched fault refl)
    not_refused X (Err views.Database) agrees not = not tt
    not_refused X (Err views.OutOfMemory) agrees not = not tt

    last_is : (q : Result Bytes Fault) → r ≡ q → IsLast q → IsWanting q ⊎ (q ≡ Ok b)
    last_is (Ok c) e end = inr (ap (λ (x : Bytes). Ok x) (ok_is c b (grant.once S path None now (Ok c) (Ok b) (both c e).0 g)))
    last_is (Err fault) e end = inl end

    served : IsWanting r ⊎ (r ≡ Ok b)
    served = by (find turns tells (Fetches trusted from now path []) IsLast Stays stays_self stays_on each place 0 count _ r s t C E (omega arith) (omega (arith, inside)) valid h)
      where
        by : IsLast r ⊎ Turned turns tells (Fetches trusted from now path []) IsLast Stays stays_self stays_on each place C E → IsWanting r ⊎ (r ≡ Ok b)
        by (inl end) = last_is r refl end
        by (inr w) = absurd (not_refused w.last w.end
            (fetch_agrees news grant step shapes S sure coherent path is_path now trusted trust from (From from turns place S now) (is_honest from turns place S now honest) [] w.begun w.left w.first w.last w.end
            (from_turn from turns place S now w.before w.begun w.turn) (level_at w.first w.valid w.up (stays_on w.first w.last E (each w.begun w.left w.first w.last w.end w.valid w.call).0 w.later)) w.call) w.goes_on)

  pub is_served : IsServed S E path now r
  is_served = record { bytes = bytes r refl; all = served }

pub one_serves : NewLaws → GrantLaws → StepLaws → Shapes → OneServes
one_serves news grant step shapes trusted Src from turns tells count now path s t C E r trust valid is_path h S place inside honest sure coherent level still =
    is_served news grant step shapes trusted trust from turns tells count now path is_path s t C E r valid h S place inside honest sure coherent level still
