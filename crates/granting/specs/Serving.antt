-- Bytes by their digests, wherever they are, and what a request for a target answers from them.
use Rattle.std.specs.Prelude.{◌≡◌, ◌≢◌, ◌++◌, ◌+◌, ◌-◌, ◌≤◌, ℕ, Bool, false, ◌&&◌, ◌||◌, ◌==◌, nat_le, Option, Some, Result, Ok, Err, IfSome, IsSome, IsTrue}
use Rattle.sha2.specs.Sha256.{sha256}
use Rattle.metadata.specs.File.{Bytes}
use Rattle.denials.specs.Numbers as no
use Rattle.denials.specs.Orders as orders
use Rattle.denials.specs.Orders.{Order}
use Rattle.denials.specs.Views.{denial_view}
use Rattle.denials.specs.declared.denial.Denial.{Denial}
use Rattle.trust_rules.specs.Grants.{Listed, listed, HasLongSupport, blob_of}
use Rattle.trust_rules.specs.Held.{Held, OfEachState}
use Rattle.trust_rules.specs.State.{Trusted, State, blob_at}
use Rattle.delegations.specs.Verdicts.{Table}
use Rattle.trusted_state.specs.Knowing.{ChecksFew, WantsFew}
use Rattle.granting.specs.declared.serving.Served.{Served}
use Rattle.granting.specs.declared.serving.LoadFault.{LoadFault}
use Rattle.granting.specs.declared.serving.LoadFault.TheVariants.{Missing}
use Rattle.granting.specs.declared.serving.GetFault.{GetFault}
use Rattle.granting.specs.declared.serving.GetFault.TheVariants.{Denied, Load, OutOfMemory}

-- a call for the bytes of a digest: bytes that have it stand after what was there. They are those that are held, and where they are
-- missing none are, unless an answer was a wrong one. On a fault, what was there is as before
abbrev pub Leaves : Type 0 → (Bytes → Bytes → Type 0) → Bytes → Bytes → Result (Unit {0}) LoadFault → Bytes → Type 0
Leaves honest Holds digest old (Ok _) new = (bytes : Bytes) × (new ≡ old ++ bytes) × (sha256 bytes ≡ digest) × (honest → Holds digest bytes)
Leaves honest Holds digest old (Err Missing) new = (new ≡ old) × (honest → (bytes : Bytes) → Holds digest bytes → ⊥)
Leaves honest Holds digest old (Err fault) new = new ≡ old

-- the blob that the order gives, with its digest, or the denial in which it ends. None is missing
pub data Serves (S : State) (m : Order Bytes) : Result Served GetFault → Type 0 where
  serves : {s : Served} → m (Ok s.bytes.items) → blob_at S.blobs s.digest.0 ≡ Some s.bytes.items → Serves S m (Ok s)
  denies : {d : Denial} → m (Err (orders.Denied (denial_view d))) → Serves S m (Err (Denied d))
  fails : {fault : LoadFault} → fault ≢ Missing → Serves S m (Err (Load fault))
  forgoes : Serves S m (Err OutOfMemory)

-- what is trusted lists the path under this digest, and it is the one that is asked for, if one is
pub record ListsDigest (T : Trusted) (path : Bytes) (asked : Option Bytes) (now : ℕ) (digest : Bytes) : Type 0 where
  pub at : Listed
  pub lists : listed T path now (Ok at)
  pub digest_is : digest ≡ at.listing.digest
  pub asked_is : IfSome asked (λ d. at.listing.digest ≡ d)

-- what is trusted lists the path with a layout
pub record HasLayout (T : Trusted) (path : Bytes) (now : ℕ) : Type 0 where
  pub at : Listed
  pub lists : listed T path now (Ok at)
  pub layout : IsSome at.listing.layout

-- How many signatures a request for a target checks in searches, from the old count to the new one, where these verdicts are known. A
-- target without a layout costs at most 512, of 32 documents with 16 signatures each, and at most as many as its search meets of which
-- nothing is known. None is checked where the pairs that searches may meet are at most 2,048.
pub record CountsFew (T : Trusted) (known : Table) (path : Bytes) (now old new : ℕ) : Type 0 where
  pub grows : old ≤ new
  pub most : (HasLayout T path now → ⊥) → new ≤ old + 512
  pub few : (HasLayout T path now → ⊥) → ChecksFew T.root T.snapshot T.shelf known path now (new - old)
  pub free : WantsFew T → new ≡ old

-- the denials by what a layout and its links are and say, and by the digest that is asked for, which is judged after these
abbrev pub is_by_layout : orders.Denial → Bool
is_by_layout (orders.Plain n) = (n == no.digest_mismatch) || (nat_le no.layout_shape n && nat_le n no.product_mismatch)
is_by_layout d = false

-- How a denial stands. Either nothing was loaded, and it is the end of the order whatever the bytes of the blobs are; or the target has
-- a layout, whose bytes were loaded.
pub data IsRefused (H : Held) (m : State → Order Bytes) (path : Bytes) (now : ℕ) (unloaded loaded : Type 0) (d : Denial) : Type 0 where
  unread : unloaded → OfEachState H (λ S. m S (Err (orders.Denied (denial_view d)))) → IsRefused H m path now unloaded loaded d
  by_layout : loaded → HasLayout H.trusted path now → IsTrue (is_by_layout (denial_view d)) → IsRefused H m path now unloaded loaded d

-- the same of an answer, where it is a denial
abbrev pub Refuses : Held → (State → Order Bytes) → Bytes → ℕ → Type 0 → Type 0 → Result Served GetFault → Type 0
Refuses H m path now unloaded loaded (Err (Denied d)) = IsRefused H m path now unloaded loaded d
Refuses H m path now unloaded loaded _ = Unit {0}

-- the target is listed and held, and its layout or a link of it, all found and held and without layouts, is too long for a document
pub record HasLongFile (S : State) (path : Bytes) (now : ℕ) : Type 0 where
  pub at : Listed
  pub bytes : Bytes
  pub lists : listed S.trusted path now (Ok at)
  pub there : blob_of S path at.listing (Ok bytes)
  pub long : HasLongSupport S at.root at.shelf now at.listing.layout

-- the denial of a layout or a link that is no document, or want of memory
abbrev pub IsShapeDenial : {A : Type 0} → Result A GetFault → Type 0
IsShapeDenial (Err (Denied d)) = denial_view d ≡ orders.Plain no.layout_shape
IsShapeDenial (Err OutOfMemory) = Unit {0}
IsShapeDenial r = ⊥

-- a file that is too long is told by its length, which is held: then that is the denial, and nothing is loaded
abbrev pub RefusesLong : {A : Type 0} → Held → Bytes → ℕ → Type 0 → Result A GetFault → Type 0
RefusesLong H path now unloaded r = OfEachState H (λ S. HasLongFile S path now → unloaded × IsShapeDenial r)

-- no answer of the rules: bytes were not loaded, or memory was refused
abbrev pub IsFault : Result Served GetFault → Type 0
IsFault (Err (Load fault)) = Unit {0}
IsFault (Err OutOfMemory) = Unit {0}
IsFault r = ⊥

-- the same file with the same digest, or the same denial
abbrev pub IsSameAnswer : Result Served GetFault → Result Served GetFault → Type 0
IsSameAnswer (Ok s) (Ok t) = (s.digest.0 ≡ t.digest.0) × (s.bytes.items ≡ t.bytes.items)
IsSameAnswer (Err (Denied d)) (Err (Denied e)) = denial_view d ≡ denial_view e
IsSameAnswer r q = ⊥
