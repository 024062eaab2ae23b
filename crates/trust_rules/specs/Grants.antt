-- What a request for a target is judged by (TUF 1.0, section 5.7), also where the root requires a layout of it. The layout and its links
-- are targets themselves, none of which has a layout (in-toto 1.0, section 5.2; this project's profile).
use Rattle.std.specs.Prelude.{◌≡◌, ℕ, ◌≤◌, length, List, ◌∷◌, Option, Some, None, Ok, Err, IsNone, IsSome, IsTrue, IfSome, ◌↔◌}
use Rattle.limits.specs.Limits.{file_limit}
use Rattle.std.specs.List.{AllByRecursion}
use Rattle.document_parts.specs.Documents.{Root, Listing, LayoutReference}
use Rattle.document_parts.specs.Covers.{requires_layout}
use Rattle.metadata.specs.File.{Bytes, File, Form, layout_form, link_form}
use Rattle.metadata.specs.Shaped.{shaped}
use Rattle.denials.specs.Numbers as no
use Rattle.denials.specs.Orders.{BlobMissing, Denied, Judged, Order, Plain, give, stop, denied, check, need, need_or, each, judged, ◌>>=◌, ◌>>◌}
use Rattle.delegations.specs.Search.{Shelf, Found, search, shelf_of}
use Rattle.layouts.specs.Layouts.{layout_holds}
use Rattle.path_patterns.specs.Grammar.{IsTargetPath}
use Rattle.trust_rules.specs.State.{State, Trusted, blob_at}
use Rattle.trust_rules.specs.Offers.{live_snapshot}

-- the listing of a path has a layout where the root requires one
abbrev pub HasNeeded : Root → Bytes → Listing → Type 0
HasNeeded root path l = IsTrue (requires_layout root path) → IsSome l.layout

-- what the search finds, where it has the layout that the root requires
abbrev pub searched : Root → Shelf → Bytes → ℕ → Order Found
searched root V path now = do
  found ← search V path now
  check no.layout_required (HasNeeded root path found.listing)
  give found

-- the target's file by its listing
abbrev pub blob_of : State → Bytes → Listing → Order Bytes
blob_of S path l = do
  blob ← need_or (BlobMissing path l.digest l.len) (blob_at S.blobs l.digest)
  check no.blob_length (length blob ≡ l.len)
  give blob

-- a file that a layout needs: what is missing is answered as itself, any other denial as one of support
abbrev pub support_answer : {A : Type 0} → Judged A → Order A
support_answer (Ok a) = give a
support_answer (Err (Denied (Plain n))) = denied no.support_denied
support_answer (Err s) = stop s

abbrev pub supporting : {A : Type 0} → Order A → Order A
supporting m = judged m support_answer

-- a layout or link of another shape is one denial
abbrev pub layout_answer : {A : Type 0} → Judged A → Order A
layout_answer (Ok a) = give a
layout_answer (Err s) = denied no.layout_shape

abbrev pub read_as : {A : Type 0} → Form A → Bytes → Order (File A)
read_as form b = judged (shaped form b) layout_answer

-- the layout and its links are each short enough for a document
abbrev pub AreShort : Bytes → List Bytes → Type 0
AreShort layout_bytes link_bytes = AllByRecursion (λ b. length b ≤ file_limit) (layout_bytes ∷ link_bytes)

-- what the layout and its links are, and what they say. Their lengths come first, since these are known before any bytes are
abbrev pub files_hold : Listing → LayoutReference → ℕ → Bytes → List Bytes → Order (Unit {0})
files_hold listing reference now layout_bytes link_bytes = do
  check no.layout_shape (AreShort layout_bytes link_bytes)
  layout ← read_as layout_form layout_bytes
  links ← each (read_as link_form) link_bytes
  layout_holds layout reference.owners reference.keys links reference.step reference.product listing.digest now

module _ (S : State) (root : Root) (V : Shelf) (now : ℕ) where
  -- a file that a layout needs, which has no layout of its own
  abbrev pub support : Bytes → Order Bytes
  support path = do
    found ← supporting (searched root V path now)
    blob ← supporting (blob_of S path found.listing)
    check no.layout_nested (IsNone found.listing.layout)
    give blob

  -- the layout, then its links in the order in which they are listed
  abbrev pub reference_holds : Listing → LayoutReference → Order (Unit {0})
  reference_holds listing reference = do
    layout_bytes ← support reference.path
    link_bytes ← each support reference.links
    files_hold listing reference now layout_bytes link_bytes

  -- a listing without a layout allows its file
  abbrev pub reference_allows : Listing → Option LayoutReference → Order (Unit {0})
  reference_allows listing None = give tt
  reference_allows listing (Some reference) = reference_holds listing reference

  -- the layout and its links are found and held, none has a layout, and one is too long for a document
  pub record IsLongSupport (reference : LayoutReference) : Type 0 where
    pub layout_bytes : Bytes
    pub link_bytes : List Bytes
    pub layout : support reference.path (Ok layout_bytes)
    pub links : each support reference.links (Ok link_bytes)
    pub long : AreShort layout_bytes link_bytes → ⊥

  abbrev pub HasLongSupport : Option LayoutReference → Type 0
  HasLongSupport None = ⊥
  HasLongSupport (Some reference) = IsLongSupport reference

-- a listing, the shelf on which it was found, and the root that the shelf stands under
pub record Listed : Type 0 where
  pub root : Root
  pub shelf : Shelf
  pub listing : Listing

-- the listing of a path, where what is trusted is live
abbrev pub listed : Trusted → Bytes → ℕ → Order Listed
listed T path now = do
  check no.bad_path (IsTargetPath path)
  root ← need no.no_root T.root
  snap ← live_snapshot T.timestamp T.snapshot root now
  found ← searched root.body (shelf_of root snap T.shelf) path now
  give (record { root = root.body; shelf = shelf_of root snap T.shelf; listing = found.listing })

-- a target's bytes, or the first denial
abbrev pub grants : State → Bytes → Option Bytes → ℕ → Order Bytes
grants S path asked now = do
  at ← listed S.trusted path now
  blob ← blob_of S path at.listing
  reference_allows S at.root at.shelf now at.listing at.listing.layout
  check no.digest_mismatch (IfSome asked (λ digest. at.listing.digest ≡ digest))
  give blob

-- each request for a target, of this state and of that, has the same end
abbrev pub GrantAlike : State → State → Type 0
GrantAlike S T = (path : Bytes) (asked : Option Bytes) (now : ℕ) (r : Judged Bytes) → grants S path asked now r ↔ grants T path asked now r
