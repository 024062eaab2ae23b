-- What a prune leaves is a state, and its requests for targets have the same ends.
use Rattle.std.proofs.Common.{◌≡◌, ℕ, Bool, true, false, cond, ◌&&◌, ◌||◌, List, [], ◌∷◌, filter, length, Option, Some, None, option_and_then, Ok, Err, refl, sym, ap, ◌∙◌, subst, bytes_eq, arith}
use Rattle.std.specs.Prelude.{◌≤◌, IsNone, IsSome, IsSomeAnd, IsTrue, IfSome, IfNone, IfOk, is_some, find}
use Rattle.std.proofs.lemmas.Bool.{true≢false, eq-eqb}
use Rattle.std.proofs.lemmas.List.Elements.{All-filter}
use Rattle.std.proofs.lemmas.List.Kept.{AllPairs-filter}
use Rattle.std.proofs.lemmas.Slice.Eq.{bytes_eq-Decides}
use Rattle.std.specs.List.{AllByRecursion, list_any}
use Rattle.keys_roles.specs.Plain.{look_up}
use Rattle.document_parts.specs.Documents.{LayoutReference, Listing, MetaFile, Root, Snapshot, Targets, Timestamp}
use Rattle.metadata.specs.File.{Bytes, Name, File}
use Rattle.denials.specs.Numbers as no
use Rattle.denials.specs.Orders.{BlobMissing, RoleMissing, Plain, Denied, Same, Judged, Order, pass, decide, holds, given, judges, ◌>>=◌, ◌>>◌, give, check, each, need_or}
use Rattle.delegations.specs.Delegation.{before}
use Rattle.delegations.specs.Rows.{Place, Rows, place_before, has_hash, has_length, named_row, row_at, same_place, value_at}
use Rattle.delegations.specs.Search.{Shelf, Found, IsSoundly, doc, listing_of, search, shelf_of, top_edge}
use Rattle.delegations.proofs.KeyOrder.{place_one}
use Rattle.trust_rules.specs.State.{Trusted, State, AreCoherent, IsCoherent, IsHeldUnder, IsShelfRow, IsBlob, IsTrusted, IsState, blob_at, nothing_trusted}
use Rattle.trust_rules.specs.Offers.{is_listed, is_wanted, kept_blobs, kept_rows, live_snapshot, prune, pruned}
use Rattle.trust_rules.specs.Grants.{GrantAlike, grants, blob_of, reference_allows, searched, support, support_answer, supporting}
use Rattle.trust_rules.proofs.LinesGive.{given_by, live_gives}
use Rattle.trust_rules.proofs.ListedSearches.{AreSame, same_back, search_same, value_kept}
use Rattle.trust_rules.proofs.Searched.{searched_finds, searched_same}

pub bytes_one : (a b : Bytes) → bytes_eq a b ≡ true → a ≡ b
bytes_one a b h = (bytes_eq-Decides a b).0 h

pub bytes_itself : (a : Bytes) → bytes_eq a a ≡ true
bytes_itself a = (bytes_eq-Decides a a).1 refl

pub place_self : (p : Place) → same_place p p ≡ true
place_self p = rw (bytes_itself p.0, eq-eqb p.1 p.1 refl) refl

behind : {b : Bool} (a : Bool) → b ≡ true → (a || b) ≡ true
behind true h = refl
behind false h = h

-- ---- a state

shorter : {X : Type 0} (p : X → Bool) (xs : List X) → length (filter p xs) ≤ length xs
shorter p [] = omega arith
shorter {X} p (x ∷ xs) = at (p x) refl (shorter p xs)
  where
    at : (t : Bool) → p x ≡ t → length (filter p xs) ≤ length xs → length (filter p (x ∷ xs)) ≤ length (x ∷ xs)
    at true e less = rw e (omega (arith, less))
    at false e less = rw e (omega (arith, less))

held_so : (T : Trusted) (shelf : Rows) (o : Option (File Root)) → IfSome o (IsHeldUnder T) → IfSome o (IsHeldUnder (record T { shelf = shelf }))
held_so T shelf None h = tt
held_so T shelf (Some root) h = record { chain = h.chain; timestamp = h.timestamp; snapshot = h.snapshot }

none_so : {A : Type 0} (P : Type 0) (o : Option A) → IsSome o → IfNone o P
none_so P (Some a) h = tt
none_so P None h = absurd (true≢false (sym h))

trusted_valid : (T : Trusted) → IsTrusted T → IsSome T.root → IsTrusted (record T { shelf = kept_rows T })
trusted_valid T v there =
    let less = shorter (λ (row : Place × File Targets). is_listed T.snapshot row.0) T.shelf in
    let most = v.few_rows in
    record {
      held = held_so T (kept_rows T) T.root v.held;
      none = none_so (record T { shelf = kept_rows T } ≡ nothing_trusted) T.root there;
      rows = All-filter (λ (row : Place × File Targets). is_listed T.snapshot row.0) IsShelfRow T.shelf v.rows;
      in_order = AllPairs-filter (λ (a b : Place × File Targets). IsTrue (place_before a.0 b.0)) (λ (row : Place × File Targets). is_listed T.snapshot row.0) T.shelf v.in_order;
      few_roots = v.few_roots;
      few_rows = omega (arith, less, most);
    }

state_valid : (S : State) → IsState S → IsSome S.trusted.root → IsState (pruned S)
state_valid S v there =
    let rows : Rows = kept_rows S.trusted in
    let less = shorter (λ (b : Bytes × Bytes). is_wanted rows b.0) S.blobs in
    let most = v.few_blobs in
    record {
      trusted = trusted_valid S.trusted v.trusted there;
      none = none_so (kept_blobs rows S.blobs ≡ []) S.trusted.root there;
      blobs = All-filter (λ (b : Bytes × Bytes). is_wanted rows b.0) IsBlob S.blobs v.blobs;
      in_order = AllPairs-filter (λ (a b : Bytes × Bytes). IsTrue (before a.0 b.0)) (λ (b : Bytes × Bytes). is_wanted rows b.0) S.blobs v.in_order;
      few_blobs = omega (arith, less, most);
    }

pub prune_left : (S : State) (j : Judged State) → prune S j → IfOk j (λ T. IsSome S.trusted.root × (T ≡ pruned S))
prune_left S _ (decide h) = tt
prune_left S _ (pass (holds h) given) = (h, refl)

pub prune_valid : (S T : State) → IsState S → prune S (Ok T) → IsState T
prune_valid S T v h = let left = prune_left S (Ok T) h in subst IsState (sym left.1) (state_valid S v left.0)

pub prune_each : (S : State) → IsState S → (j : Judged State) → prune S j → IfOk j IsState
prune_each S v (Ok T) h = prune_valid S T v h
prune_each S v (Err s) h = tt

-- ---- the rows that the snapshot lists

abbrev is_named : List (Name × MetaFile) → Place → Bool
is_named all place = list_any (λ m. same_place (m.0, m.1.version) place) all

each_listed : (all ms : List (Name × MetaFile)) → ((place : Place) → is_named ms place ≡ true → is_named all place ≡ true)
    → AllByRecursion (λ m. is_named all (m.0, m.1.version) ≡ true) ms
each_listed all [] so = tt
each_listed all (m ∷ ms) so =
    (so (m.0, m.1.version) (rw (place_self (m.0, m.1.version)) refl), each_listed all ms (λ place h. so place (behind (same_place (m.0, m.1.version) place) h)))

listed_same : (all : List (Name × MetaFile)) (shelf : Rows) (ms : List (Name × MetaFile)) → AllByRecursion (λ m. is_named all (m.0, m.1.version) ≡ true) ms
    → AreSame ms (filter (λ row. is_named all row.0) shelf) shelf
listed_same all shelf [] h = tt
listed_same all shelf (m ∷ ms) h =
    (value_kept same_place place_one (λ (place : Place). is_named all place) shelf (m.0, m.1.version) h.0, listed_same all shelf ms h.1)

-- the rows that stay are, at listed versions, the rows of the shelf
pub kept_same : (T : Trusted) (snap : File Snapshot) → T.snapshot ≡ Some snap → AreSame snap.body.meta (kept_rows T) T.shelf
kept_same T snap is =
    subst (λ (o : Option (File Snapshot)). AreSame snap.body.meta (filter (λ row. is_listed o row.0) T.shelf) T.shelf) (sym is)
    (listed_same snap.body.meta T.shelf snap.body.meta (each_listed snap.body.meta snap.body.meta (λ place h. h)))

-- ---- what belongs together, does still

holds_again : (ms : List (Name × MetaFile)) (rows more : Rows) → AreSame ms rows more → AllByRecursion (λ m. IsTrue (is_some (named_row rows m.0 m.1))) ms
    → AllByRecursion (λ m. IsTrue (is_some (named_row more m.0 m.1))) ms
holds_again [] rows more same h = tt
holds_again (m ∷ ms) rows more same h = (
  subst (λ (o : Option (File Targets)). IsTrue (is_some (option_and_then (λ file. cond (has_length m.1 file.bytes && has_hash m.1 file.bytes) (Some file) None) o))) same.0 h.0,
  holds_again ms rows more same.1 h.1,
)

coherent_again : (T : Trusted) → AreCoherent T.timestamp T.snapshot T.shelf → AreCoherent T.timestamp T.snapshot (kept_rows T)
coherent_again T h = at T.timestamp T.snapshot refl h
  where
    at : (t : Option (File Timestamp)) (s : Option (File Snapshot)) → T.snapshot ≡ s → AreCoherent t s T.shelf → AreCoherent t s (kept_rows T)
    at None None e c = tt
    at (Some stamp) (Some snap) e c =
        (c.0, holds_again snap.body.meta T.shelf (kept_rows T) (same_back snap.body.meta (kept_rows T) T.shelf (kept_same T snap e)) c.1)
    at None (Some snap) e c = absurd c
    at (Some stamp) None e c = absurd c

pub prune_coherent : (S : State) → IsCoherent S.trusted → (j : Judged State) → prune S j → IfOk j (λ T. IsCoherent T.trusted)
prune_coherent S c (Err s) h = tt
prune_coherent S c (Ok T) h = subst (λ (U : State). IsCoherent U.trusted) (sym (prune_left S (Ok T) h).1) (coherent_again S.trusted c)

-- ---- what a search finds is wanted

listing_in : (ls : List Listing) (path : Bytes) (l : Listing) → find (λ l. bytes_eq l.path path) ls ≡ Some l → list_any (λ k. bytes_eq l.digest k.digest) ls ≡ true
listing_in [] path l is = absurd (cc)
listing_in (k ∷ ks) path l is = at (bytes_eq k.path path) refl (listing_in ks path l) is
  where
    at : (t : Bool) → bytes_eq k.path path ≡ t → (find (λ l. bytes_eq l.path path) ks ≡ Some l → list_any (λ k. bytes_eq l.digest k.digest) ks ≡ true)
        → cond t (Some k) (find (λ l. bytes_eq l.path path) ks) ≡ Some l → list_any (λ k. bytes_eq l.digest k.digest) (k ∷ ks) ≡ true
    at true e later found = let one : k ≡ l = cc in rw (ap (λ (x : Listing). bytes_eq l.digest x.digest) one ∙ bytes_itself l.digest) refl
    at false e later found = behind (bytes_eq l.digest k.digest) (later found)

row_in : (rows : Rows) (place : Place) (file : File Targets) (g : File Targets → Bool) → value_at same_place rows place ≡ Some file → g file ≡ true → list_any (λ row. g row.1) rows ≡ true
row_in [] place file g is h = absurd (cc)
row_in (row ∷ rows) place file g is h = at (same_place row.0 place) refl (λ k. row_in rows place file g k h) is
  where
    at : (t : Bool) → same_place row.0 place ≡ t → (value_at same_place rows place ≡ Some file → list_any (λ row. g row.1) rows ≡ true)
        → cond t (Some row.1) (value_at same_place rows place) ≡ Some file → list_any (λ row. g row.1) (row ∷ rows) ≡ true
    at true e later found = let one : row.1 ≡ file = cc in rw (ap g one ∙ h) refl
    at false e later found = behind (g row.1) (later found)

-- a role's document stands in a row
whole_row : (t : Bool) (f file : File Targets) → cond t (Some f) None ≡ Some file → Some f ≡ Some file
whole_row true f file k = k
whole_row false f file k = absurd (cc)

named_is : (m : MetaFile) (o : Option (File Targets)) (file : File Targets)
    → option_and_then (λ f. cond (has_length m f.bytes && has_hash m f.bytes) (Some f) None) o ≡ Some file → o ≡ Some file
named_is m None file k = absurd (cc)
named_is m (Some f) file k = whole_row (has_length m f.bytes && has_hash m f.bytes) f file k

pub doc_row : (V : Shelf) (role : Name) (file : File Targets) → doc V role ≡ Some file → (v : ℕ) × (row_at V.rows role v ≡ Some file)
doc_row V role file is = at (look_up V.listing role) is
  where
    at : (o : Option MetaFile) → option_and_then (named_row V.rows role) o ≡ Some file → (v : ℕ) × (row_at V.rows role v ≡ Some file)
    at None k = absurd (cc)
    at (Some m) k = (m.version, named_is m (row_at V.rows role m.version) file k)

abbrev pub Sound : Type 0
Sound = (V : Shelf) (path : Bytes) (now : ℕ) (found : Found) → search V path now (Ok found) → IsSoundly V path now found

-- ---- requests for targets

abbrev blob_from : Bytes → Listing → Option Bytes → Order Bytes
blob_from path l o = need_or (BlobMissing path l.digest l.len) o >>= λ blob. (check no.blob_length (length blob ≡ l.len)) >> give blob

-- a file that a layout needs, where this is its blob
abbrev support_from : Bytes → Listing → Option Bytes → Order Bytes
support_from path l o = supporting (blob_from path l o) >>= λ blob. (check no.layout_nested (IsNone l.layout)) >> give blob

supported_is : {A : Type 0} (j : Judged A) (a : A) → support_answer j (Ok a) → j ≡ Ok a
supported_is (Ok a) _ given = refl
supported_is (Err Same) a k = elim k [ ]
supported_is (Err (Denied (Plain n))) a k = elim k [ ]
supported_is (Err (Denied (RoleMissing role version))) a k = elim k [ ]
supported_is (Err (Denied (BlobMissing path digest len))) a k = elim k [ ]

pub each_same : {A B : Type 0} (f g : A → Order B) → ((x : A) (r : Judged B) → f x r → g x r) → (xs : List A) (r : Judged (List B)) → each f xs r → each g xs r
each_same f g so [] r h = h
each_same f g so (x ∷ xs) _ (decide h) = decide (so x _ h)
each_same f g so (x ∷ xs) _ (pass h (decide k)) = pass (so x _ h) (decide (each_same f g so xs _ k))
each_same f g so (x ∷ xs) _ (pass h (pass k l)) = pass (so x _ h) (pass (each_same f g so xs _ k) l)

-- from one shelf and its blobs to another
module _ (T : Trusted) (rows more : Rows) (blobs left : List (Bytes × Bytes))
    (same : (snap : File Snapshot) → T.snapshot ≡ Some snap → AreSame snap.body.meta rows more)
    (there : (root : File Root) (snap : File Snapshot) (path : Bytes) (now : ℕ) (found : Found) → T.snapshot ≡ Some snap
    → search (shelf_of root snap rows) path now (Ok found) → blob_at blobs found.listing.digest ≡ blob_at left found.listing.digest) where
  abbrev S : State
  S = record { trusted = record T { shelf = rows }; blobs = blobs }

  abbrev U : State
  U = record { trusted = record T { shelf = more }; blobs = left }

  held_snapshot : (root : File Root) (snap : File Snapshot) (now : ℕ) → live_snapshot T.timestamp T.snapshot root now (Ok snap) → T.snapshot ≡ Some snap
  held_snapshot root snap now live = given_by (λ (s : File Snapshot). T.snapshot ≡ Some s) _ snap (live_gives T root now) live

  -- by one root and one snapshot
  module _ (root : File Root) (snap : File Snapshot) (now : ℕ) (held : T.snapshot ≡ Some snap) where
    abbrev V : Shelf
    V = shelf_of root snap rows

    abbrev W : Shelf
    W = shelf_of root snap more

    found_alike : (path : Bytes) (j : Judged Found) → searched root.body V path now j → searched root.body W path now j
    found_alike path j h = searched_same root.body V W path now (λ i k. search_same (top_edge root) snap.body.meta rows more (same snap held) path now i k) j h

    blob_there : (path : Bytes) (found : Found) → searched root.body V path now (Ok found) → blob_at blobs found.listing.digest ≡ blob_at left found.listing.digest
    blob_there path found is = there root snap path now found held (searched_finds root.body V path now found is)

    support_alike : (path : Bytes) (r : Judged Bytes) → support S root.body V now path r → support U root.body W now path r
    support_alike path _ (decide (judges h k)) = decide (judges (found_alike path _ h) k)
    support_alike path _ (pass {a = found} {r} (judges {j} h k) n) =
        let is : searched root.body V path now (Ok found) = subst (λ (i : Judged Found). searched root.body V path now i) (supported_is j found k) h in
        pass (judges (found_alike path j h) k) (subst (λ (o : Option Bytes). support_from path found.listing o r) (blob_there path found is) n)

    reference_alike : (l : Listing) (o : Option LayoutReference) (r : Judged (Unit {0})) → reference_allows S root.body V now l o r → reference_allows U root.body W now l o r
    reference_alike l None r h = h
    reference_alike l (Some reference) _ (decide h) = decide (support_alike reference.path _ h)
    reference_alike l (Some reference) _ (pass h (decide k)) =
        pass (support_alike reference.path _ h) (decide (each_same (support S root.body V now) (support U root.body W now) support_alike reference.links _ k))
    reference_alike l (Some reference) _ (pass h (pass k n)) =
        pass (support_alike reference.path _ h) (pass (each_same (support S root.body V now) (support U root.body W now) support_alike reference.links _ k) n)

    -- what follows a listing that is found
    abbrev served : State → Shelf → Bytes → Listing → Option Bytes → Order Bytes
    served X Y path l asked =
        blob_of X path l >>= λ blob. reference_allows X root.body Y now l l.layout >> (check no.digest_mismatch (IfSome asked (λ digest. l.digest ≡ digest)) >> give blob)

    blob_alike : (path : Bytes) (found : Found) → searched root.body V path now (Ok found) → (r : Judged Bytes) → blob_of S path found.listing r → blob_of U path found.listing r
    blob_alike path found is r h = subst (λ (o : Option Bytes). blob_from path found.listing o r) (blob_there path found is) h

    served_alike : (path : Bytes) (found : Found) → searched root.body V path now (Ok found) → (asked : Option Bytes) (r : Judged Bytes) → served S V path found.listing asked r → served U W path found.listing asked r
    served_alike path found is asked _ (decide h) = decide (blob_alike path found is _ h)
    served_alike path found is asked _ (pass h (decide k)) = pass (blob_alike path found is _ h) (decide (reference_alike found.listing found.listing.layout _ k))
    served_alike path found is asked _ (pass h (pass k n)) = pass (blob_alike path found is _ h) (pass (reference_alike found.listing found.listing.layout _ k) n)

  grants_same : (path : Bytes) (asked : Option Bytes) (now : ℕ) (r : Judged Bytes) → grants S path asked now r → grants U path asked now r
  grants_same path asked now _ (decide (decide h)) = decide (decide h)
  grants_same path asked now _ (decide (pass h (decide k))) = decide (pass h (decide k))
  grants_same path asked now _ (decide (pass h (pass k (decide l)))) = decide (pass h (pass k (decide l)))
  grants_same path asked now _ (decide (pass h (pass {a = root} k (pass {a = snap} l (decide m))))) =
      decide (pass h (pass k (pass l (decide (found_alike root snap now (held_snapshot root snap now l) path _ m)))))
  grants_same path asked now _ (decide (pass h (pass k (pass l (pass m n))))) = elim n [ ]
  grants_same path asked now r (pass (pass h (pass {a = root} k (pass {a = snap} l (pass {a = found} m given)))) n) =
      let held = held_snapshot root snap now l in
      pass (pass h (pass k (pass l (pass (found_alike root snap now held path _ m) given)))) (served_alike root snap now held path found m asked r n)

module _ (law : Sound) where
  found_wanted : (V : Shelf) (path : Bytes) (now : ℕ) (found : Found) → search V path now (Ok found) → is_wanted V.rows found.listing.digest ≡ true
  found_wanted V path now found h = at (doc V found.role) refl (law V path now found h).lists
    where
      at : (o : Option (File Targets)) → doc V found.role ≡ o → IsSomeAnd o (λ file. listing_of file.body path ≡ Some found.listing) → is_wanted V.rows found.listing.digest ≡ true
      at None e k = absurd k
      at (Some file) e k =
          let row = doc_row V found.role file e in
          row_in V.rows (found.role, row.0) file (λ f. list_any (λ l. bytes_eq found.listing.digest l.digest) f.body.targets) row.1 (listing_in file.body.targets path found.listing k)

  kept_blob : (S : State) (digest : Bytes) → is_wanted (kept_rows S.trusted) digest ≡ true → blob_at (kept_blobs (kept_rows S.trusted) S.blobs) digest ≡ blob_at S.blobs digest
  kept_blob S digest h = value_kept bytes_eq bytes_one (λ d. is_wanted (kept_rows S.trusted) d) S.blobs digest h

  pruned_alike : (S : State) → GrantAlike S (pruned S)
  pruned_alike S path asked now r = (
    grants_same S.trusted S.trusted.shelf (kept_rows S.trusted) S.blobs (kept_blobs (kept_rows S.trusted) S.blobs)
        (λ snap is. same_back snap.body.meta (kept_rows S.trusted) S.trusted.shelf (kept_same S.trusted snap is))
        (λ root snap p n found is h. sym (kept_blob S found.listing.digest
        (found_wanted (shelf_of root snap (kept_rows S.trusted)) p n found
        (search_same (top_edge root) snap.body.meta S.trusted.shelf (kept_rows S.trusted) (same_back snap.body.meta (kept_rows S.trusted) S.trusted.shelf (kept_same S.trusted snap is)) p n (Ok found) h))))
        path asked now r,
    grants_same S.trusted (kept_rows S.trusted) S.trusted.shelf (kept_blobs (kept_rows S.trusted) S.blobs) S.blobs
        (λ snap is. kept_same S.trusted snap is)
        (λ root snap p n found is h. kept_blob S found.listing.digest (found_wanted (shelf_of root snap (kept_rows S.trusted)) p n found h))
        path asked now r,
  )

  pub prune_alike : (S T : State) → prune S (Ok T) → GrantAlike S T
  prune_alike S T h = subst (λ (U : State). GrantAlike S U) (sym (prune_left S (Ok T) h).1) (pruned_alike S)
