-- A client behind a server agrees with it, over an honest source.
use Rattle.std.proofs.Common.{◌≡◌, ◌≢◌, ◌⊎◌, inl, inr, ℕ, ◌≤◌, List, [], ◌∷◌, ◌++◌, length, Some, Result, Ok, Err, refl, sym, ap, ◌∙◌, subst, arith}
use Rattle.path_patterns.specs.Grammar.{IsTargetPath}
use Rattle.document_parts.specs.Documents.{MetaFile, Profile, Root, Snapshot, Targets}
use Rattle.metadata.specs.File.{Bytes, File, Name}
use Rattle.denials.specs.Orders as orders
use Rattle.delegations.specs.Rows.{Rows, entry_of, row_at}
use Rattle.trust_rules.proofs.ShapedOnce.{Shapes}
use Rattle.trust_rules.specs.State.{IsCoherent, IsState, State, blob_at}
use Rattle.fetch.specs.Source.{Gives}
use Rattle.client.specs.Agreement.{Agrees, Brings, BringsAndFetches, ClientAgrees}
use Rattle.client.specs.Agreement as agreement
use Rattle.client.specs.Answering.{IsHonest}
use Rattle.client.specs.Behind.{Behind, IsBare, IsOlder, most_rows}
use Rattle.client.specs.Session as session
use Rattle.client.specs.Session.{Fetches, Updates, max_roots}
use Rattle.client.specs.Views as views
use Rattle.client.specs.Views.{Fault}
use Rattle.client.proofs.FetchAgrees.{fetch_agrees, fetch_denied}
use Rattle.client.proofs.HonestTakes.{want_agrees}
use Rattle.client.specs.Several.{IsWanting}
use Rattle.client.proofs.Levels.{Level}
use Rattle.client.specs.steps.Laws.{GrantLaws, NewLaws, RootLaws, StepLaws}
use Rattle.client.proofs.RootsFollow.{Followed, roots_follow, same_root, trusts_one}
use Rattle.client.proofs.StampAndSnapshot.{Brought, Denies, IsCalm, Ready, stamp_and_snapshot, timestamp_valid}
use Rattle.client.proofs.Standing.{none_some, some_one}

no_row : (shelf : Rows) (role : Name) (v : ℕ) (f : File Targets) → shelf ≡ [] → row_at shelf role v ≡ Some f → ⊥
no_row shelf role v f e h = none_some f (subst (λ (rows : Rows). row_at rows role v ≡ Some f) e h)

not_empty : (xs front more : List (Profile × Bytes)) → xs ≡ front ++ more → front ≢ [] → xs ≢ []
not_empty xs [] more e some none = some refl
not_empty xs (c ∷ front) more e some none = let k : ◌≡◌ {A = List (Profile × Bytes)} [] (c ∷ (front ++ more)) = sym none ∙ e in cc

err_ok : (fault : Fault) → ◌≡◌ {A = Result (Unit {0}) Fault} (Err fault) (Ok tt) → ⊥
err_ok fault e = cc

module _ (roots_law : RootLaws) (news : NewLaws) (grant : GrantLaws) (step : StepLaws) (shapes : Shapes) (S : State) (sure : IsState S) (coherent : IsCoherent S.trusted)
    (path : Bytes) (is_path : IsTargetPath path) (now : ℕ) (trusted : Type 0) (trust : trusted) {Src : Type 0} (from : Gives Src) (Is : Src → Type 0) (honest : IsHonest from Is S now) where
  -- the client behind an update, which both deny or with which it is level
  abbrev Done : Src → State → Result (Unit {0}) Fault → Type 0
  Done t E r = IsWanting r ⊎ (Is t × IsCalm r × (Denies S E path now ⊎ Level S E path now []))

  module _ (C : State) (valid : IsState C) (behind : Behind C S now) where
    some_roots : S.trusted.roots ≢ []
    some_roots = not_empty S.trusted.roots C.trusted.roots behind.later behind.beginning behind.rooted

    its : (root : File Root) × (S.trusted.root ≡ Some root)
    its = trusts_one S.trusted sure.trusted some_roots

    module _ (D : State) (f : Followed S C behind.later D) where
      known : D.trusted.root ≡ S.trusted.root
      known = same_root roots_law step S sure now D f.valid some_roots f.roots

      caught : IsBare D.trusted ⊎ IsOlder D.trusted S.trusted now
      caught = behind.caught_up D.trusted f.after

      shared : (snap : File Snapshot) → S.trusted.snapshot ≡ Some snap → (role : Name) (entry : MetaFile) (file : File Targets) → entry_of snap role ≡ Some entry
          → row_at D.trusted.shelf role entry.version ≡ Some file → row_at S.trusted.shelf role entry.version ≡ Some file
      shared snap e role entry file l at = by caught
        where
          by : IsBare D.trusted ⊎ IsOlder D.trusted S.trusted now → row_at S.trusted.shelf role entry.version ≡ Some file
          by (inl bare) = absurd (no_row D.trusted.shelf role entry.version file bare.shelf at)
          by (inr older) =
              older.rows_shared role entry file (subst (λ (s : File Snapshot). entry_of s role ≡ Some entry) (some_one snap older.snap (sym e ∙ older.snapshot_held)) l) at

      room : length D.trusted.shelf ≤ most_rows
      room = by caught
        where
          by : IsBare D.trusted ⊎ IsOlder D.trusted S.trusted now → length D.trusted.shelf ≤ most_rows
          by (inl bare) = let e = ap length bare.shelf in omega (arith, e)
          by (inr older) = older.room

      level : (E : State) → IsState E → Ready news step shapes S sure its.0 its.1 now from Is honest D E → Level S E path now []
      level E good ready =
          subst (λ (X : State). Level S X path now []) (sym ready.is) (record {
            valid = subst IsState ready.is good;
            part = record {
              root = known;
              timestamp = sym ready.has.timestamp;
              snapshot = sym ready.has.snapshot;
              rows = shared;
              blobs = λ digest b at. behind.blobs_shared digest b (subst (λ (bs : List (Bytes × Bytes)). blob_at bs digest ≡ Some b) f.blobs at);
            };
            snap = ready.snap;
            snapped = ready.has.snapshot;
            snap_read = ready.has.snap_read;
            roles = [];
            roles_distinct = tt;
            roles_held = tt;
            paths = [];
            paths_distinct = tt;
            paths_held = tt;
            few = omega arith;
            room = (let r = room in omega (arith, r));
            held = tt;
          })

    update_done : (s t : Src) (E : State) (r : Result (Unit {0}) Fault) → Is s → Updates from now s C t E r → Done t E r
    update_done s t E _ is (session.fails {fault = fault} h) = by (roots_follow roots_law step S sure now from Is honest max_roots behind.later s t C E (Err fault) is valid h behind.beginning behind.rooted behind.few)
      where
        by : IsWanting {A = Unit {0}} (Err fault) ⊎ ((◌≡◌ {A = Result (Unit {0}) Fault} (Err fault) (Ok tt)) × Is t × Followed S C behind.later E) → Done t E (Err fault)
        by (inl want) = inl want
        by (inr k) = absurd (err_ok fault k.0)
    update_done s u E r is (session.then {t = t} {D = D} h more) = by (roots_follow roots_law step S sure now from Is honest max_roots behind.later s t C D (Ok tt) is valid h behind.beginning behind.rooted behind.few)
      where
        by : IsWanting {A = Unit {0}} (Ok tt) ⊎ ((◌≡◌ {A = Result (Unit {0}) Fault} (Ok tt) (Ok tt)) × Is t × Followed S C behind.later D) → Done u E r
        by (inl want) = absurd want
        by (inr (k, on, f)) = brought (stamp_and_snapshot news step shapes S sure its.0 its.1 now from Is honest path is_path D f.valid (known D f ∙ its.1) coherent (caught D f) t u E r on more)
          where
            good : IsState E
            good = timestamp_valid news step shapes S sure its.0 its.1 now from Is honest t u D E r on f.valid more

            brought : Brought news step shapes S sure its.0 its.1 now from Is honest path is_path D f.valid (known D f ∙ its.1) u E r → Done u E r
            brought (inl want) = inl want
            brought (inr (on, calm, inl d)) = inr (on, calm, inl d)
            brought (inr (on, calm, inr ready)) = inr (on, calm, inr (level D f E good ready))

    fetch_done : (t u : Src) (D E : State) (q : Result (Unit {0}) Fault) (r : Result Bytes Fault) → IsCalm q → Done t D q → Fetches trusted from now path [] t D u E r → Agrees S E path now r
    fetch_done t u D E (Ok x) r calm (inl want) more = absurd want
    fetch_done t u D E (Err (views.Denied d)) r calm (inl want) more = absurd want
    fetch_done t u D E (Err (views.Fetch f)) r calm (inl want) more = absurd calm
    fetch_done t u D E (Err views.Database) r calm (inl want) more = absurd calm
    fetch_done t u D E (Err views.OutOfMemory) r calm (inl want) more = absurd calm
    fetch_done t u D E q r calm (inr (on, c, inl d)) more =
        fetch_denied news grant step shapes S sure coherent path is_path now trusted trust from Is honest [] t u D E r d.0.0 d.1.0 d.0.1 d.1.1 more
    fetch_done t u D E q r calm (inr (on, c, inr level)) more =
        fetch_agrees news grant step shapes S sure coherent path is_path now trusted trust from Is honest [] t u D E r on level more

    -- a fault of an update that is no denial
    stopped : (t : Src) (D : State) (fault : Fault) → ((d : orders.Denial) → fault ≢ views.Denied d) → Done t D (Err fault) → Agrees S D path now (Err fault)
    stopped t D fault other (inl want) = want_agrees S D path now fault want
    stopped t D (views.Denied d) other (inr k) = absurd (other d refl)
    stopped t D (views.Fetch f) other (inr k) = absurd k.1
    stopped t D views.Database other (inr k) = absurd k.1
    stopped t D views.OutOfMemory other (inr k) = absurd k.1

    brings_done : (t u : Src) (s : Src) (D E : State) (r : Result Bytes Fault) → Is s → Brings from now s C t D (Ok tt) → Fetches trusted from now path [] t D u E r → Agrees S E path now r
    brings_done t u s D E r is (agreement.updated h) more = fetch_done t u D E (Ok tt) r tt (update_done s t D (Ok tt) is h) more
    brings_done t u s D E r is (agreement.denied {d = d} h) more = fetch_done t u D E (Err (views.Denied d)) r tt (update_done s t D (Err (views.Denied d)) is h) more

    brings_fail : (t s : Src) (D : State) (fault : Fault) → Is s → Brings from now s C t D (Err fault) → Agrees S D path now (Err fault)
    brings_fail t s D _ is (agreement.fails {fault = fault} h other) = stopped t D fault other (update_done s t D (Err fault) is h)

    whole : (s t : Src) (D : State) (r : Result Bytes Fault) → Is s → BringsAndFetches trusted from now path s C t D r → Agrees S D path now r
    whole s u E r is (agreement.then {t = t} {D = D} h more) = brings_done t u s D E r is h more
    whole s t D _ is (agreement.fails {fault = fault} h) = brings_fail t s D fault is h

pub client_agrees : RootLaws → NewLaws → GrantLaws → StepLaws → Shapes → ClientAgrees
client_agrees roots_law news grant step shapes trusted Src from Is C S D path now s t r trust valid sure coherent is_path behind honest is h =
    whole roots_law news grant step shapes S sure coherent path is_path now trusted trust from Is honest C valid behind s t D r is h
