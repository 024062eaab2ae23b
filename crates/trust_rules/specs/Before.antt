-- What was answered before roots had profiles, to a request for a target or for metadata by its name (TUF 1.0, sections 5.7 and 6.2).
use Rattle.std.specs.Prelude.{◌≡◌, ℕ, List, [], ◌∷◌, ◌++◌, codes, map, Option, Some, None, IfSome, IsNone}
use Rattle.document_parts.specs.Documents.{Listing, LayoutReference}
use Rattle.metadata.specs.File.{Bytes}
use Rattle.keys_roles.specs.Plain.{look_up}
use Rattle.path_patterns.specs.Grammar.{IsTargetPath}
use Rattle.path_patterns.specs.Names.{dotted}
use Rattle.repository_rows.specs.Contents.{Contents}
use Rattle.denials.specs.Numbers as no
use Rattle.denials.specs.Orders.{Order, give, check, need, each, ◌>>=◌, ◌>>◌}
use Rattle.delegations.specs.Search.{Shelf, search, shelf_of}
use Rattle.trust_rules.specs.Offers.{live_snapshot}
use Rattle.trust_rules.specs.Contents.{without_profiles}
use Rattle.trust_rules.specs.State.{State, Trusted}
use Rattle.trust_rules.specs.Grants.{blob_of, files_hold, supporting}

-- ---- what a request for a target was judged by (in-toto 1.0, section 5.2)

pub record ListedBefore : Type 0 where
  pub shelf : Shelf
  pub listing : Listing

abbrev pub listed_before : Trusted → Bytes → ℕ → Order ListedBefore
listed_before T path now = do
  check no.bad_path (IsTargetPath path)
  root ← need no.no_root T.root
  snap ← live_snapshot T.timestamp T.snapshot root now
  found ← search (shelf_of root snap T.shelf) path now
  give (record { shelf = shelf_of root snap T.shelf; listing = found.listing })

module _ (S : State) (V : Shelf) (now : ℕ) where
  abbrev pub support_before : Bytes → Order Bytes
  support_before path = do
    found ← supporting (search V path now)
    blob ← supporting (blob_of S path found.listing)
    check no.layout_nested (IsNone found.listing.layout)
    give blob

  abbrev pub reference_allows_before : Listing → Option LayoutReference → Order (Unit {0})
  reference_allows_before listing None = give tt
  reference_allows_before listing (Some reference) = do
    layout_bytes ← support_before reference.path
    link_bytes ← each support_before reference.links
    files_hold listing reference now layout_bytes link_bytes

abbrev pub grants_before : State → Bytes → Option Bytes → ℕ → Order Bytes
grants_before S path asked now = do
  at ← listed_before S.trusted path now
  blob ← blob_of S path at.listing
  reference_allows_before S at.shelf now at.listing at.listing.layout
  check no.digest_mismatch (IfSome asked (λ digest. at.listing.digest ≡ digest))
  give blob

-- ---- the metadata under its names, from the rows: that of a root had its version and its bytes

abbrev pub one_file_before : Option (ℕ × Bytes) → (ℕ → Bytes) → List (Bytes × Bytes)
one_file_before None name = []
one_file_before (Some row) name = (name row.0, row.1) ∷ []

abbrev pub files_before : Contents → List (Bytes × Bytes)
files_before t =
    one_file_before t.timestamp (λ version. codes "timestamp.json") ++ (map (λ row. (dotted row.0 (codes "root"), row.1)) (without_profiles t.roots)
    ++ (one_file_before t.snapshot (λ version. dotted version (codes "snapshot")) ++ map (λ row. (dotted row.0.1 row.0.0, row.1)) t.shelf))

abbrev pub metadata_before : Contents → Bytes → Option Bytes
metadata_before t name = look_up (files_before t) name
