-- Agreement: a client behind a server gets a target exactly where the server grants it.
use Rattle.std.specs.Prelude.{◌≡◌, ◌≢◌, ◌⊎◌, ◌≤◌, ℕ, List, [], ◌∷◌, length, codes, Option, Some, None, Result, Ok, Err, IfOk}
use Rattle.path_patterns.specs.Names.{dotted}
use Rattle.document_parts.specs.Documents.{Profile}
use Rattle.metadata.specs.File.{Bytes}
use Rattle.denials.specs.Orders as orders
use Rattle.path_patterns.specs.Grammar.{IsTargetPath}
use Rattle.trust_rules.specs.State.{State, IsState, IsCoherent, blob_at, metadata_of, nothing}
use Rattle.trust_rules.specs.Offers.{Offer, RootOffer, TimestampOffer, SnapshotOffer, TargetsOffer, init}
use Rattle.trust_rules.specs.Grants.{grants}
use Rattle.trust_rules.specs.Runs.{Command, OfferOne, PutBlob, Refused, Steps}
use Rattle.fetch.specs.Source.{Gives}
use Rattle.fetch.specs.declared.FetchFault.{FetchFault}
use Rattle.fetch.specs.declared.FetchFault.TheVariants as fetches
use Rattle.client.specs.Answering.{IsHonest}
use Rattle.client.specs.Behind.{Behind}
use Rattle.client.specs.Session.{Fetches, Updates}
use Rattle.client.specs.Taken.{RunsOn}
use Rattle.client.specs.Views.{Fault, Denied, Fetch}

-- a name under which a server keeps what is offered so
abbrev pub IsPlaceOf : Offer → Bytes → Type 0
IsPlaceOf RootOffer name = (version : ℕ) × (name ≡ dotted version (codes "root"))
IsPlaceOf TimestampOffer name = name ≡ codes "timestamp.json"
IsPlaceOf SnapshotOffer name = (version : ℕ) × (name ≡ dotted version (codes "snapshot"))
IsPlaceOf (TargetsOffer role) name = (version : ℕ) × (name ≡ dotted version role)

-- an offer of a document that the server holds in that place, or an upload of a blob of the server
abbrev pub IsFileOf : State → Command → Type 0
IsFileOf S (OfferOne offer b) = (name : Bytes) × IsPlaceOf offer name × (metadata_of S.trusted name ≡ Some b)
IsFileOf S (PutBlob digest b) = blob_at S.blobs digest ≡ Some b
IsFileOf S command = ⊥

-- Bytes, where the server grants just these, and then the client's state does too; or a denial, where the server does not grant the target, and
-- the client's state denies it too. No fault of the source but want of memory. What else it may be, want of memory and a fault of the client's
-- database, says nothing.
pub record Agrees (S D : State) (path : Bytes) (now : ℕ) (r : Result Bytes Fault) : Type 0 where
  pub bytes : IfOk r (λ b. grants S path None now (Ok b) × grants D path None now (Ok b))
  pub denied : (d : orders.Denial) → r ≡ Err (Denied d)
      → ((b : Bytes) → grants S path None now (Ok b) → ⊥) × ((e : orders.Denial) × grants D path None now (Err (orders.Denied e)))
  pub fetched : (fault : FetchFault) → r ≡ Err (Fetch fault) → fault ≡ fetches.OutOfMemory

-- the client's state denies the target so, or it denies so a file of the server
abbrev pub IsOwnDenial : State → State → Bytes → ℕ → orders.Denial → Type 0
IsOwnDenial S D path now d =
    grants D path None now (Err (orders.Denied d))
    ⊎ ((command : Command) × (index : Option ℕ) × IsFileOf S command × Steps D command now (D, Refused d index))

-- What a call leaves of a client's state, and what it answers, whatever the client's state was: the state is that of a run of files of the
-- server, and no answer of the source was one that cannot be read; and where the bytes of the client's blobs are to be trusted, the state
-- grants what was answered, a denial is its own, and it agrees with the server that it is behind.
pub record FetchesFrom (trusted : Type 0) (S C D : State) (path : Bytes) (now : ℕ) (r : Result Bytes Fault) : Type 0 where
  pub files : RunsOn (IsFileOf S) now C D
  pub unbroken : (fault : FetchFault) → r ≡ Err (Fetch fault) → fault ≢ fetches.Broken
  pub granted : trusted → IfOk r (λ b. grants D path None now (Ok b))
  pub own : trusted → (d : orders.Denial) → r ≡ Err (Denied d) → IsOwnDenial S D path now d
  pub agrees : trusted → IsCoherent S.trusted → Behind C S now → Agrees S D path now r

-- an update, where it ended well or was denied; its other faults are faults
pub data Brings {Src : Type 0} (gives : Gives Src) (now : ℕ) (s : Src) (C : State) : Src → State → Result (Unit {0}) Fault → Type 0 where
  updated : {t : Src} {D : State} → Updates gives now s C t D (Ok tt) → Brings gives now s C t D (Ok tt)
  denied : {t : Src} {D : State} {d : orders.Denial} → Updates gives now s C t D (Err (Denied d)) → Brings gives now s C t D (Ok tt)
  fails : {t : Src} {D : State} {fault : Fault} → Updates gives now s C t D (Err fault) → ((d : orders.Denial) → fault ≢ Denied d) → Brings gives now s C t D (Err fault)

-- and then a fetch
pub data BringsAndFetches (trusted : Type 0) {Src : Type 0} (gives : Gives Src) (now : ℕ) (path : Bytes) (s : Src) (C : State) : Src → State → Result Bytes Fault → Type 0 where
  then : {t u : Src} {D E : State} {r : Result Bytes Fault}
      → Brings gives now s C t D (Ok tt) → Fetches trusted gives now path [] t D u E r → BringsAndFetches trusted gives now path s C u E r
  fails : {t : Src} {D : State} {fault : Fault} → Brings gives now s C t D (Err fault) → BringsAndFetches trusted gives now path s C t D (Err fault)

-- the theorem, of definitions alone, for a source of any kind
abbrev pub ClientAgrees : Type 1
ClientAgrees = (trusted : Type 0) (Src : Type 0) (gives : Gives Src) (Is : Src → Type 0) (C S D : State) (path : Bytes) (now : ℕ) (s t : Src) (r : Result Bytes Fault)
    → trusted → IsState C → IsState S → IsCoherent S.trusted → IsTargetPath path → Behind C S now → IsHonest gives Is S now → Is s
    → BringsAndFetches trusted gives now path s C t D r → Agrees S D path now r

-- a client that trusts the server's first root alone is behind it, where at most 64 roots follow
abbrev pub AnchorIsBehind : Type 0
AnchorIsBehind = (C S : State) (profile : Profile) (first : Bytes) (later : List (Profile × Bytes)) (now : ℕ)
    → IsState S → init nothing first (Ok C) → S.trusted.roots ≡ (profile, first) ∷ later → length later ≤ 64 → Behind C S now
