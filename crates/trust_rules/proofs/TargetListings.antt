-- What targets metadata list: paths of targets, also those of what a layout needs, which are few.
use Rattle.std.proofs.Common.{◌≡◌, ℕ, Bool, true, false, cond, List, [], ◌∷◌, length, Option, Some, None, Ok, refl, subst, bytes_eq}
use Rattle.std.specs.Prelude.{◌≤◌, All, IfSome, IsSomeAnd, find}
use Rattle.std.specs.List.{AllByRecursion}
use Rattle.std.proofs.lemmas.List.Elements.{All-head, All-tail}
use Rattle.canonical_json.specs.Json.{Json, Items, no_items, item, Members, no_members, member}
use Rattle.path_patterns.specs.Grammar.{IsTargetPath}
use Rattle.document_parts.specs.Bodies.{HasLayoutReference, IsListing, IsTextOf}
use Rattle.document_parts.specs.Documents.{LayoutReference, Listing, Targets}
use Rattle.metadata.specs.File.{Bytes, File, IsFileOf, targets_form}
use Rattle.document_parts.specs.Members.{ItemsAre, MembersAre}
use Rattle.delegations.specs.Rows.{Place, Rows, same_place, value_at}
use Rattle.delegations.specs.Search.{Found, Shelf, doc, listing_of, search}
use Rattle.trust_rules.specs.Misses.{IsProperListing}
use Rattle.trust_rules.specs.State.{IsShelfRow}
use Rattle.trust_rules.proofs.PrunedStates.{Sound, doc_row}

texts : (vs : Items) (ts : List (List ℕ)) → ItemsAre (IsTextOf IsTargetPath) vs ts → AllByRecursion IsTargetPath ts
texts no_items [] h = tt
texts no_items (t ∷ ts) h = absurd h
texts (item v vs) [] h = absurd h
texts (item v vs) (t ∷ ts) h = (h.0.1, texts vs ts h.1)

needs : (v : Json) (o : Option LayoutReference) → HasLayoutReference v o → IfSome o (λ r. AllByRecursion IsTargetPath (r.path ∷ r.links) × (length r.links ≤ 64))
needs v None h = tt
needs v (Some r) h =
    let ref = h.2.2.2 in
    ((ref.path.2.1, texts ref.links.2.0.0 r.links ref.links.2.0.2), ref.links.2.2)

each_proper : (ms : Members) (ls : List Listing) → MembersAre IsListing ms ls → AllByRecursion IsProperListing ls
each_proper no_members [] h = tt
each_proper no_members (l ∷ ls) h = absurd h
each_proper (member n v ms) [] h = absurd h
each_proper (member n v ms) (l ∷ ls) h = ((subst IsTargetPath h.0.0 h.0.1, h.0.3.2.0, needs v l.layout h.0.4), each_proper ms ls h.1)

all_proper : (f : File Targets) → IsFileOf targets_form f → AllByRecursion IsProperListing f.body.targets
all_proper f h = let t = h.read.body.targets in each_proper t.2.0 f.body.targets t.2.2

found_proper : (ls : List Listing) (path : Bytes) (l : Listing) → AllByRecursion IsProperListing ls → find (λ l. bytes_eq l.path path) ls ≡ Some l → IsProperListing l
found_proper [] path l all is = absurd (cc)
found_proper (k ∷ ks) path l all is = at (bytes_eq k.path path) refl (found_proper ks path l all.1) is
  where
    at : (t : Bool) → bytes_eq k.path path ≡ t → (find (λ l. bytes_eq l.path path) ks ≡ Some l → IsProperListing l) → cond t (Some k) (find (λ l. bytes_eq l.path path) ks) ≡ Some l → IsProperListing l
    at true e later found = subst IsProperListing (let one : k ≡ l = cc in one) all.0
    at false e later found = later found

row_read : (rows : Rows) (place : Place) (file : File Targets) → All IsShelfRow rows → value_at same_place rows place ≡ Some file → IsFileOf targets_form file
row_read [] place file all is = absurd (cc)
row_read (row ∷ rows) place file all is = at (same_place row.0 place) refl (row_read rows place file (All-tail IsShelfRow row rows all)) is
  where
    at : (t : Bool) → same_place row.0 place ≡ t → (value_at same_place rows place ≡ Some file → IsFileOf targets_form file) → cond t (Some row.1) (value_at same_place rows place) ≡ Some file → IsFileOf targets_form file
    at true e later found = subst (IsFileOf targets_form) (let one : row.1 ≡ file = cc in one) (All-head IsShelfRow row rows all).document
    at false e later found = later found

module _ (law : Sound) where
  pub search_proper : (V : Shelf) (path : Bytes) (now : ℕ) (found : Found) → All IsShelfRow V.rows → search V path now (Ok found) → IsProperListing found.listing
  search_proper V path now found rows h = at (doc V found.role) refl (law V path now found h).lists
    where
      at : (o : Option (File Targets)) → doc V found.role ≡ o → IsSomeAnd o (λ file. listing_of file.body path ≡ Some found.listing) → IsProperListing found.listing
      at None e k = absurd k
      at (Some file) e k =
          let row = doc_row V found.role file e in
          found_proper file.body.targets path found.listing (all_proper file (row_read V.rows (found.role, row.0) file rows row.1)) k
