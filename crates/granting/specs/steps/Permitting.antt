-- What the parts of a request for a target say of the bytes that they do not see, and of those that they load.
use Rattle.std.specs.Prelude.{◌≡◌, ◌≢◌, ◌↔◌, ◌⊎◌, ℕ, nat_le, Bool, true, false, cond, List, map, unwrap_or, Result, Ok, Err, IsTrue}
use Rattle.limits.specs.Limits.{file_limit}
use Rattle.sha2.specs.Sha256.{sha256}
use Rattle.metadata.specs.File.{Bytes}
use Rattle.document_parts.specs.declared.documents.ShapeFault.{ShapeFault}
use Rattle.document_parts.specs.declared.documents.ShapeFault.TheVariants as shapes
use Rattle.document_parts.specs.Views.{listing_view, root_view}
use Rattle.denials.specs.Numbers as no
use Rattle.denials.specs.Orders as orders
use Rattle.denials.specs.Orders.{Order, Plain}
use Rattle.denials.specs.Views.{denial_view}
use Rattle.denials.specs.declared.denial.Denial.{Denial}
use Rattle.denials.specs.declared.denial.Denial.TheVariants.{SupportDenied}
use Rattle.delegations.specs.Views.{shelf_view}
use Rattle.layouts.specs.Faults as layouts
use Rattle.layouts.specs.declared.faults.LayoutFault.{LayoutFault}
use Rattle.layouts.specs.declared.faults.LayoutFault.TheVariants as verdicts
use Rattle.path_patterns.specs.declared.Digest.{Digest}
use Rattle.trust_rules.specs.Grants as granted
use Rattle.trust_rules.specs.Held.{Held, OfEachState, StandsFor, bytes_at, length_at}
use Rattle.granting.specs.Serving.{is_by_layout}
use Rattle.trust_rules.specs.State.{State}
use Rattle.granting.specs.declared.listing.Listed.{Listed}
use Rattle.granting.specs.declared.serving.Served.{Served}
use Rattle.granting.specs.declared.serving.LoadFault.{LoadFault}
use Rattle.granting.specs.declared.serving.LoadFault.TheVariants.{Missing}
use Rattle.granting.specs.declared.serving.GetFault.{GetFault}
use Rattle.granting.specs.declared.serving.GetFault.TheVariants.{Denied, Load, OutOfMemory}
use Rattle.trusted_state.specs.declared.refusal.Refusal.{Refusal}
use Rattle.trusted_state.specs.declared.refusal.Refusal.TheVariants as refusals

abbrev pub listed_view : Listed → granted.Listed
listed_view at = record { root = root_view at.root.now; shelf = shelf_view at.shelf; listing = listing_view at.listing.now }

-- the bytes that a state has under each of several digests
abbrev pub all_bytes_at : State → List Digest → List Bytes
all_bytes_at S digests = map (λ d. bytes_at S d.0) digests

-- the held length of the file with this digest, if it is held, is one of a document
abbrev pub is_short_in : List (Bytes × ℕ) → Digest → Bool
is_short_in lengths d = nat_le (unwrap_or (length_at lengths d.0) 0) file_limit

-- the bytes that were loaded, or why none were
abbrev pub IsLoaded : Type 0 → (Bytes → Bytes → Type 0) → Bytes → Result Served GetFault → Type 0
IsLoaded honest Holds digest (Ok s) = (s.digest.0 ≡ digest) × (sha256 s.bytes.items ≡ s.digest.0) × (honest → Holds digest s.bytes.items)
IsLoaded honest Holds digest (Err (Load Missing)) = honest → (bytes : Bytes) → Holds digest bytes → ⊥
IsLoaded honest Holds digest (Err (Load fault)) = Unit {0}
IsLoaded honest Holds digest (Err (Denied d)) = ⊥
IsLoaded honest Holds digest (Err OutOfMemory) = ⊥

-- what any number of calls make of blobs: by such calls it became what it is, and no right answer is another than before
pub record Reads {K : Type 0} (IsHonest : K → Type 0) (Holds : K → Bytes → Bytes → Type 0) (MayBecome : K → K → Type 0) (old new : K) : Type 0 where
  pub becomes : (new ≡ old) ⊎ MayBecome old new
  pub was : IsHonest new → IsHonest old
  pub stays : IsHonest new → (digest bytes : Bytes) → Holds old digest bytes ↔ Holds new digest bytes

-- what the order gives, or the denial in which it ends. None of the bytes that it asks for are missing
pub data Finds {A B : Type 0} (m : Order B) (view : A → B) : Result A GetFault → Type 0 where
  finds : {a : A} → m (Ok (view a)) → Finds m view (Ok a)
  denies : {d : Denial} → m (Err (orders.Denied (denial_view d))) → Finds m view (Err (Denied d))
  fails : {fault : LoadFault} → fault ≢ Missing → Finds m view (Err (Load fault))
  forgoes : Finds m view (Err OutOfMemory)

-- what is so of an answer that comes from loaded bytes, where it tells of the order
abbrev pub ToldFault : Type 0 → GetFault → Type 0
ToldFault loaded (Denied d) = loaded × IsTrue (is_by_layout (denial_view d))
ToldFault loaded fault = Unit {0}

abbrev pub Told : {A : Type 0} → Type 0 → Result A GetFault → Type 0
Told loaded (Ok a) = loaded
Told loaded (Err fault) = ToldFault loaded fault

-- How an answer stands: nothing was loaded, and it is so whatever the bytes of the blobs are, or by the bytes that were loaded
pub data FindsLoaded {A B : Type 0} (H : Held) (honest : Type 0) (Holds : Bytes → Bytes → Type 0) (unloaded loaded : Type 0) (m : State → Order B) (view : State → A → B) (r : Result A GetFault) : Type 0 where
  at_once : unloaded → OfEachState H (λ S. Finds (m S) (view S) r) → FindsLoaded H honest Holds unloaded loaded m view r
  by_bytes : Told loaded r → (honest → (S : State) → StandsFor H Holds S → Finds (m S) (view S) r) → FindsLoaded H honest Holds unloaded loaded m view r

-- the same refusal
abbrev pub IsRefusedSo : Refusal → GetFault → Type 0
IsRefusedSo (refusals.Denied d) f = f ≡ Denied d
IsRefusedSo refusals.OutOfMemory f = f ≡ OutOfMemory

-- the same fault of a state's own bytes, which are there
abbrev pub IsLentSo : GetFault → Refusal → Type 0
IsLentSo (Denied d) r = r ≡ refusals.Denied d
IsLentSo fault r = r ≡ refusals.OutOfMemory

-- whether it names what is missing, and the refusal that a file that a layout needs is answered with
abbrev pub names_missing : orders.Denial → Bool
names_missing (Plain n) = false
names_missing d = true

abbrev pub IsSupportOf : Refusal → Refusal → Type 0
IsSupportOf (refusals.Denied d) r = cond (names_missing (denial_view d)) (r ≡ refusals.Denied d) (r ≡ refusals.Denied SupportDenied)
IsSupportOf refusals.OutOfMemory r = r ≡ refusals.OutOfMemory

-- a denial with this number
abbrev pub IsFaultOf : ℕ → GetFault → Type 0
IsFaultOf n (Denied d) = denial_view d ≡ Plain n
IsFaultOf n fault = ⊥

-- the answer for a layout or link of another shape
abbrev pub IsShapeAnswer : ShapeFault → GetFault → Type 0
IsShapeAnswer shapes.OutOfMemory f = f ≡ OutOfMemory
IsShapeAnswer fault f = IsFaultOf no.layout_shape f

-- the answer for a layout that does not hold
abbrev pub IsLayoutAnswer : LayoutFault → GetFault → Type 0
IsLayoutAnswer verdicts.OutOfMemory f = f ≡ OutOfMemory
IsLayoutAnswer fault f = IsFaultOf (layouts.fault_number fault) f
