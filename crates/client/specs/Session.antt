-- What an update and a fetch do, beside what the source answers. Sources are values of any type, and `gives` says what one answers.
use Rattle.std.specs.Prelude.{◌≡◌, ℕ, suc, ◌+◌, ◌<◌, ◌≤◌, Bool, true, false, [], ◌∷◌, ◌++◌, length, Option, Some, None, Result, Ok, Err, IsTrue, ⊤}
use Rattle.document_parts.specs.Documents.{Root}
use Rattle.metadata.specs.File.{Bytes, Names, File, has_name}
use Rattle.denials.specs.Numbers as no
use Rattle.denials.specs.Orders as orders
use Rattle.trust_rules.specs.State.{State, IsSnapshotDue}
use Rattle.trust_rules.specs.Grants.{grants}
use Rattle.store.specs.Serving.{HasLayout, is_by_layout}
use Rattle.trust_rules.specs.Runs.{Command, Reply, Refused, Steps}
use Rattle.fetch.specs.Source.{Gives}
use Rattle.fetch.specs.declared.FetchFault.{FetchFault}
use Rattle.fetch.specs.declared.FetchFault.TheVariants.{TooLong}
use Rattle.client.specs.Views.{Fault, Denied, Fetch, Database, OutOfMemory}
use Rattle.client.specs.Wanted.{Wanted, Misses, wanted_root, wanted_timestamp, wanted_snapshot}

abbrev pub max_version : ℕ
max_version = 4294967295

-- the most new roots of an update, and the most names of a fetch
abbrev pub max_roots : ℕ
max_roots = 64

abbrev pub max_names : ℕ
max_names = 194

-- a command was not made
abbrev pub IsUnmade : Fault → Type 0
IsUnmade Database = ⊤
IsUnmade OutOfMemory = ⊤
IsUnmade fault = ⊥

abbrev pub IsAccepted : Reply → Type 0
IsAccepted (Refused denial index) = ⊥
IsAccepted reply = ⊤

-- a reply as the end of a call
abbrev pub IsJudged : Reply → Result (Unit {0}) Fault → Type 0
IsJudged (Refused denial index) r = r ≡ Err (Denied denial)
IsJudged reply r = r ≡ Ok tt

-- a command was made and accepted, or denied, or not made
pub data Makes (now : ℕ) (command : Command) (C : State) : State → Result (Unit {0}) Fault → Type 0 where
  accepted : {D : State} (reply : Reply) → Steps C command now (D, reply) → IsAccepted reply → Makes now command C D (Ok tt)
  denied : {D : State} {d : orders.Denial} (index : Option ℕ) → Steps C command now (D, Refused d index) → Makes now command C D (Err (Denied d))
  unmade : {fault : Fault} → IsUnmade fault → Makes now command C C (Err fault)

module _ {Src : Type 0} (gives : Gives Src) (now : ℕ) where
  -- one file is fetched, and the command is made with it: whether there was one, or why not. Nothing over the limit is offered
  pub data Takes (w : Wanted) (s : Src) (C : State) : Src → State → Result Bool Fault → Type 0 where
    taken : {t : Src} {D : State} {b : Bytes} → gives s w.name w.limit (Ok (Some b)) t → length b ≤ w.limit
        → Makes now (w.command b) C D (Ok tt) → Takes w s C t D (Ok true)
    rejected : {t : Src} {D : State} {b : Bytes} {fault : Fault} → gives s w.name w.limit (Ok (Some b)) t → length b ≤ w.limit
        → Makes now (w.command b) C D (Err fault) → Takes w s C t D (Err fault)
    absent : {t : Src} → gives s w.name w.limit (Ok None) t → Takes w s C t C (Ok false)
    overlong : {t : Src} {b : Bytes} → gives s w.name w.limit (Ok (Some b)) t → w.limit < length b → Takes w s C t C (Err (Fetch TooLong))
    failed : {t : Src} {fault : FetchFault} → gives s w.name w.limit (Err fault) t → Takes w s C t C (Err (Fetch fault))
    unasked : Takes w s C s C (Err OutOfMemory)

  -- new roots in order, at most so many, up to the first that the source does not have
  pub data TakesRoots : ℕ → Src → State → Src → State → Result (Unit {0}) Fault → Type 0 where
    enough : {s : Src} {C : State} → TakesRoots 0 s C s C (Ok tt)
    rootless : {n : ℕ} {s : Src} {C : State} → C.trusted.root ≡ None → TakesRoots (suc n) s C s C (Err (Denied (orders.Plain no.no_root)))
    highest : {n : ℕ} {s : Src} {C : State} {root : File Root} → C.trusted.root ≡ Some root → root.body.version ≡ max_version → TakesRoots (suc n) s C s C (Ok tt)
    newest : {n : ℕ} {s t : Src} {C D : State} {root : File Root} → C.trusted.root ≡ Some root → root.body.version < max_version
        → Takes (wanted_root (root.body.version + 1)) s C t D (Ok false) → TakesRoots (suc n) s C t D (Ok tt)
    stops : {n : ℕ} {s t : Src} {C D : State} {root : File Root} {fault : Fault} → C.trusted.root ≡ Some root → root.body.version < max_version
        → Takes (wanted_root (root.body.version + 1)) s C t D (Err fault) → TakesRoots (suc n) s C t D (Err fault)
    further : {n : ℕ} {s t u : Src} {C D E : State} {root : File Root} {r : Result (Unit {0}) Fault} → C.trusted.root ≡ Some root → root.body.version < max_version
        → Takes (wanted_root (root.body.version + 1)) s C t D (Ok true) → TakesRoots n t D u E r → TakesRoots (suc n) s C u E r

  -- the snapshot that the timestamp names, unless it is the held one
  pub data TakesSnapshot (s : Src) (C : State) : Src → State → Result (Unit {0}) Fault → Type 0 where
    held : IsSnapshotDue C.trusted None → TakesSnapshot s C s C (Ok tt)
    due : {t : Src} {D : State} {there : Bool} (version : ℕ) → IsSnapshotDue C.trusted (Some version)
        → Takes (wanted_snapshot version) s C t D (Ok there) → TakesSnapshot s C t D (Ok tt)
    fails : {t : Src} {D : State} {fault : Fault} (version : ℕ) → IsSnapshotDue C.trusted (Some version)
        → Takes (wanted_snapshot version) s C t D (Err fault) → TakesSnapshot s C t D (Err fault)

  -- the timestamp, and where there is one the snapshot
  pub data TakesTimestamp (s : Src) (C : State) : Src → State → Result (Unit {0}) Fault → Type 0 where
    none : {t : Src} {D : State} → Takes wanted_timestamp s C t D (Ok false) → TakesTimestamp s C t D (Ok tt)
    fails : {t : Src} {D : State} {fault : Fault} → Takes wanted_timestamp s C t D (Err fault) → TakesTimestamp s C t D (Err fault)
    then : {t u : Src} {D E : State} {r : Result (Unit {0}) Fault} → Takes wanted_timestamp s C t D (Ok true) → TakesSnapshot t D u E r → TakesTimestamp s C u E r

  -- an update: new roots, then the timestamp, then the snapshot
  pub data Updates (s : Src) (C : State) : Src → State → Result (Unit {0}) Fault → Type 0 where
    fails : {t : Src} {D : State} {fault : Fault} → TakesRoots max_roots s C t D (Err fault) → Updates s C t D (Err fault)
    then : {t u : Src} {D E : State} {r : Result (Unit {0}) Fault} → TakesRoots max_roots s C t D (Ok tt) → TakesTimestamp t D u E r → Updates s C u E r

-- a denial by what a layout says is known of the state where the answers of the disk are to be trusted, and every other in any case
abbrev pub IsKnown : Type 0 → State → Bytes → ℕ → orders.Denial → Type 0
IsKnown trusted C path now d = IsTrue (is_by_layout d) → HasLayout C.trusted path now → trusted

-- the state denies the target
abbrev pub DeniesAt : State → Bytes → ℕ → orders.Denial → Type 0
DeniesAt C path now d = grants C path None now (Err (orders.Denied d))

-- A fetch after these names: it asks for the target, takes the file that is missing, and asks again. The bytes of a target, and those of its
-- layout, are read from the disk when they are asked for, so where its answers are not to be trusted, it is not known that the state grants
-- them, or denies them.
module _ (trusted : Type 0) {Src : Type 0} (gives : Gives Src) (now : ℕ) where
  -- it ends without one file more
  pub data Ends (path : Bytes) (names : Names) (s : Src) (C : State) : Src → State → Result Bytes Fault → Type 0 where
    -- no file is missing
    granted : {b : Bytes} → (trusted → grants C path None now (Ok b)) → Ends path names s C s C (Ok b)
    denied : {d : orders.Denial} → (IsKnown trusted C path now d → DeniesAt C path now d) → ((w : Wanted) → Misses d w → ⊥) → Ends path names s C s C (Err (Denied d))
    -- a file is missing that was asked for, or there were enough
    again : {d : orders.Denial} {w : Wanted} → DeniesAt C path now d → Misses d w → has_name names w.name ≡ true → Ends path names s C s C (Err (Denied d))
    enough : {d : orders.Denial} {w : Wanted} → DeniesAt C path now d → Misses d w → length names ≡ max_names → Ends path names s C s C (Err (Denied d))
    -- the source does not have it, or it is not taken
    absent : {t : Src} {D : State} {d : orders.Denial} {w : Wanted} → DeniesAt C path now d → Misses d w → has_name names w.name ≡ false → length names < max_names
        → Takes gives now w s C t D (Ok false) → Ends path names s C t D (Err (Denied d))
    fails : {t : Src} {D : State} {d : orders.Denial} {w : Wanted} {fault : Fault} → DeniesAt C path now d → Misses d w → has_name names w.name ≡ false → length names < max_names
        → Takes gives now w s C t D (Err fault) → Ends path names s C t D (Err fault)
    -- the database or memory failed
    unanswered : {fault : Fault} → IsUnmade fault → Ends path names s C s C (Err fault)

  pub data Fetches (path : Bytes) : Names → Src → State → Src → State → Result Bytes Fault → Type 0 where
    ends : {names : Names} {s t : Src} {C D : State} {r : Result Bytes Fault} → Ends path names s C t D r → Fetches path names s C t D r
    -- the missing file is taken, and the fetch goes on after one name more
    further : {names : Names} {s t u : Src} {C D E : State} {d : orders.Denial} {w : Wanted} {r : Result Bytes Fault}
        → DeniesAt C path now d → Misses d w → has_name names w.name ≡ false → length names < max_names
        → Takes gives now w s C t D (Ok true) → Fetches path (names ++ w.name ∷ []) t D u E r → Fetches path names s C u E r
