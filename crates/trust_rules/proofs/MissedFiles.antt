-- What a request for a target misses in a state that holds a part of another one.
use Rattle.std.proofs.Common.{◌≡◌, ℕ, List, [], ◌∷◌, length, Option, Some, None, Ok, Err, refl, sym, ap, ◌∙◌, subst, inl, inr}
use Rattle.std.specs.Prelude.{◌⊎◌, ◌≤◌, All, Bool, true, false, IsNone, IfSome, take}
use Rattle.std.specs.List.{AllByRecursion, zip}
use Rattle.keys_roles.proofs.Elements.{of_each}
use Rattle.keys_roles.specs.steps.Counting.{IsIn}
use Rattle.path_patterns.specs.Grammar.{IsTargetPath}
use Rattle.document_parts.specs.Documents.{Layout, LayoutReference, Listing, Root, Snapshot, Step, Timestamp}
use Rattle.metadata.specs.File.{Bytes, Name, Names, File, Form, layout_form, link_form}
use Rattle.document_parts.specs.Links.{Link}
use Rattle.document_parts.specs.Rules.{ArtifactRule, Side, materials, products}
use Rattle.layouts.specs.Layouts.{forbid, ask, all, layout_holds, rules_and_product, ruled, step_rules}
use Rattle.denials.specs.Numbers as no
use Rattle.denials.specs.Orders.{BlobMissing, RoleMissing, Plain, Denied, Same, Stop, Judged, Order, pass, decide, holds, fails, given, stopped, judges, ◌>>=◌, ◌>>◌, give, check, denied, each, need, need_or}
use Rattle.delegations.specs.Missed.{HasRowsOf}
use Rattle.delegations.specs.Delegation.{Edge}
use Rattle.delegations.specs.Search.{Shelf, Found, find_in, found_or, listing_of, most_visits, search, shelf_of, visit, visited}
use Rattle.delegations.specs.Rows.{Rows}
use Rattle.trust_rules.specs.State.{IsShelfRow, IsState, State, blob_at}
use Rattle.trust_rules.specs.Offers.{live_snapshot, live_timestamp}
use Rattle.trust_rules.specs.Grants.{Listed, grants, listed, blob_of, files_hold, layout_answer, read_as, reference_allows, searched, support, support_answer}
use Rattle.trust_rules.specs.Misses.{IsFound, IsPart, IsProperListing, IsThere, MissesBlob, MissesRole, support_paths}
use Rattle.trust_rules.proofs.LinesGive.{given_by, live_gives, needed}
use Rattle.trust_rules.proofs.OneJudgement.{searched-definite}
use Rattle.trust_rules.proofs.PrunedStates.{Sound}
use Rattle.trust_rules.proofs.Searched.{searched_alike, searched_finds, searched_misses}
use Rattle.trust_rules.proofs.TargetListings.{search_proper}

abbrev pub Grows : Type 0
Grows = (V W : Shelf) (path : Bytes) (now : ℕ) (j : Judged Found) → HasRowsOf V W
    → ((role : Name) (version : ℕ) → j ≡ Err (Denied (RoleMissing role version)) → ⊥) → search V path now j → search W path now j

not_role : {A : Type 0} (j : Judged A) → IsThere j → (role : Name) (version : ℕ) → j ≡ Err (Denied (RoleMissing role version)) → ⊥
not_role {A} j fine role version e = subst (λ (i : Judged A). IsThere i) e fine

-- what is missing in an answer about a file that a layout needs was missing before
there_before : {A : Type 0} (j r : Judged A) → support_answer j r → IsThere r → IsThere j
there_before (Ok a) r h fine = tt
there_before (Err Same) r h fine = tt
there_before (Err (Denied (Plain n))) r h fine = tt
there_before (Err (Denied (RoleMissing role version))) _ stopped fine = fine
there_before (Err (Denied (BlobMissing path digest len))) _ stopped fine = fine

each_alike : {A B : Type 0} (f g : A → Order B) → ((x : A) (r : Judged B) → IsThere r → f x r → g x r) → (xs : List A) (r : Judged (List B)) → IsThere r → each f xs r → each g xs r
each_alike f g so [] r fine h = h
each_alike f g so (x ∷ xs) _ fine (decide h) = decide (so x _ fine h)
each_alike f g so (x ∷ xs) _ fine (pass {a = y} h (decide k)) = pass (so x (Ok y) tt h) (decide (each_alike f g so xs _ fine k))
each_alike f g so (x ∷ xs) _ fine (pass {a = y} h (pass {a = ys} k l)) = pass (so x (Ok y) tt h) (pass (each_alike f g so xs (Ok ys) tt k) l)

abbrev blob_from : Bytes → Listing → Option Bytes → Order Bytes
blob_from path l o = need_or (BlobMissing path l.digest l.len) o >>= λ blob. (check no.blob_length (length blob ≡ l.len)) >> give blob

module _ (grows : Grows) (D S : State) (part : IsPart D S) where
  live_alike : (root : File Root) (now : ℕ) (r : Judged (File Snapshot)) → live_snapshot D.trusted.timestamp D.trusted.snapshot root now r
      → live_snapshot S.trusted.timestamp S.trusted.snapshot root now r
  live_alike root now r h =
      subst (λ (o : Option (File Timestamp)). live_snapshot o S.trusted.snapshot root now r) part.timestamp
      (subst (λ (o : Option (File Snapshot)). live_snapshot D.trusted.timestamp o root now r) part.snapshot h)

  root_alike : (r : Judged (File Root)) → need no.no_root D.trusted.root r → need no.no_root S.trusted.root r
  root_alike r h = subst (λ (o : Option (File Root)). need no.no_root o r) part.root h

  held_snapshot : (root : File Root) (snap : File Snapshot) (now : ℕ) → live_snapshot D.trusted.timestamp D.trusted.snapshot root now (Ok snap) → S.trusted.snapshot ≡ Some snap
  held_snapshot root snap now live = sym part.snapshot ∙ given_by (λ (s : File Snapshot). D.trusted.snapshot ≡ Some s) _ snap (live_gives D.trusted root now) live

  blob_found : (path : Bytes) (l : Listing) (o : Option Bytes) → blob_at D.blobs l.digest ≡ o → (r : Judged Bytes) → IsThere r → blob_from path l o r → blob_of S path l r
  blob_found path l None e _ fine (decide stopped) = absurd fine
  blob_found path l None e r fine (pass h k) = elim h [ ]
  blob_found path l (Some b) e r fine k = subst (λ (o : Option Bytes). blob_from path l o r) (sym (part.blobs l.digest b e)) k

  blob_alike : (path : Bytes) (l : Listing) (r : Judged Bytes) → IsThere r → blob_of D path l r → blob_of S path l r
  blob_alike path l r fine h = blob_found path l (blob_at D.blobs l.digest) refl r fine h

  -- by one root and one snapshot
  module _ (root : File Root) (snap : File Snapshot) (now : ℕ) (held : S.trusted.snapshot ≡ Some snap) where
    abbrev V : Shelf
    V = shelf_of root snap D.trusted.shelf

    abbrev W : Shelf
    W = shelf_of root snap S.trusted.shelf

    has : HasRowsOf V W
    has = record { top = refl; listing = refl; rows = λ role entry file is there. part.rows snap held role entry file is there }

    found_alike : (path : Bytes) (j : Judged Found) → IsThere j → searched root.body V path now j → searched root.body W path now j
    found_alike path j fine h = searched_alike root.body V W path now (λ i there k. grows V W path now i has (not_role i there) k) j fine h

    support_alike : (path : Bytes) (r : Judged Bytes) → IsThere r → support D root.body V now path r → support S root.body W now path r
    support_alike path _ fine (decide (judges {j} h k)) = decide (judges (found_alike path j (there_before j _ k fine) h) k)
    support_alike path _ fine (pass {a = found} (judges {j} h k) (decide (judges {j = i} m n))) =
        pass (judges (found_alike path j (there_before j (Ok found) k tt) h) k) (decide (judges (blob_alike path found.listing i (there_before i _ n fine) m) n))
    support_alike path r fine (pass {a = found} (judges {j} h k) (pass {a = b} (judges {j = i} m n) l)) =
        pass (judges (found_alike path j (there_before j (Ok found) k tt) h) k) (pass (judges (blob_alike path found.listing i (there_before i (Ok b) n tt) m) n) l)

    reference_alike : (l : Listing) (o : Option LayoutReference) (r : Judged (Unit {0})) → IsThere r → reference_allows D root.body V now l o r → reference_allows S root.body W now l o r
    reference_alike l None r fine h = h
    reference_alike l (Some reference) _ fine (decide h) = decide (support_alike reference.path _ fine h)
    reference_alike l (Some reference) _ fine (pass {a = b} h (decide k)) =
        pass (support_alike reference.path (Ok b) tt h) (decide (each_alike (support D root.body V now) (support S root.body W now) support_alike reference.links _ fine k))
    reference_alike l (Some reference) _ fine (pass {a = b} h (pass {a = bs} k n)) =
        pass (support_alike reference.path (Ok b) tt h) (pass (each_alike (support D root.body V now) (support S root.body W now) support_alike reference.links (Ok bs) tt k) n)

    -- what follows a listing that is found
    abbrev served : State → Shelf → Bytes → Listing → Option Bytes → Order Bytes
    served X Y path l asked =
        blob_of X path l >>= λ blob. reference_allows X root.body Y now l l.layout >> (check no.digest_mismatch (IfSome asked (λ digest. l.digest ≡ digest)) >> give blob)

    served_alike : (path : Bytes) (l : Listing) (asked : Option Bytes) (r : Judged Bytes) → IsThere r → served D V path l asked r → served S W path l asked r
    served_alike path l asked _ fine (decide h) = decide (blob_alike path l _ fine h)
    served_alike path l asked _ fine (pass {a = b} h (decide k)) = pass (blob_alike path l (Ok b) tt h) (decide (reference_alike l l.layout _ fine k))
    served_alike path l asked _ fine (pass {a = b} h (pass {a = u} k n)) = pass (blob_alike path l (Ok b) tt h) (pass (reference_alike l l.layout (Ok u) tt k) n)

  pub grants_alike : (path : Bytes) (asked : Option Bytes) (now : ℕ) (r : Judged Bytes) → IsThere r → grants D path asked now r → grants S path asked now r
  grants_alike path asked now _ fine (decide (decide h)) = decide (decide h)
  grants_alike path asked now _ fine (decide (pass h (decide k))) = decide (pass h (decide (root_alike _ k)))
  grants_alike path asked now _ fine (decide (pass h (pass {a = root} k (decide l)))) = decide (pass h (pass (root_alike (Ok root) k) (decide (live_alike root now _ l))))
  grants_alike path asked now _ fine (decide (pass h (pass {a = root} k (pass {a = snap} l (decide m))))) =
      decide (pass h (pass (root_alike (Ok root) k) (pass (live_alike root now (Ok snap) l) (decide (found_alike root snap now (held_snapshot root snap now l) path _ fine m)))))
  grants_alike path asked now _ fine (decide (pass h (pass k (pass l (pass m n))))) = elim n [ ]
  grants_alike path asked now r fine (pass (pass h (pass {a = root} k (pass {a = snap} l (pass {a = found} m given)))) n) =
      let held = held_snapshot root snap now l in
      pass (pass h (pass (root_alike (Ok root) k) (pass (live_alike root now (Ok snap) l) (pass (found_alike root snap now held path (Ok found) tt m) given))))
      (served_alike root snap now held path found.listing asked r fine n)

-- ---- orders that miss nothing

abbrev Fine : {A : Type 0} → Order A → Type 0
Fine m = (s : Stop) → m (Err s) → IsFound s

then-fine : {A B : Type 0} (m : Order A) (f : A → Order B) → Fine m → ((a : A) → Fine (f a)) → Fine (m >>= f)
then-fine m f first rest s (pass {a} h k) = rest a s k
then-fine m f first rest s (decide h) = first s h

check-fine : (n : ℕ) (P : Type 0) → Fine (check n P)
check-fine n P _ (fails h) = tt

give-fine : {A : Type 0} (a : A) → Fine (give a)
give-fine a s h = elim h [ ]

need-fine : {A : Type 0} (n : ℕ) (o : Option A) → Fine (need n o)
need-fine n (Some a) s h = elim h [ ]
need-fine n None _ stopped = tt

stamp-fine : (t : Option (File Timestamp)) (root : File Root) (now : ℕ) → Fine (live_timestamp t root now)
stamp-fine t root now = then-fine _ _ (check-fine _ _) (λ _. then-fine _ _ (need-fine _ t) (λ stamp. then-fine _ _ (check-fine _ _) (λ _. give-fine stamp)))

live-fine : (t : Option (File Timestamp)) (s : Option (File Snapshot)) (root : File Root) (now : ℕ) → Fine (live_snapshot t s root now)
live-fine t s root now =
    then-fine _ _ (stamp-fine t root now) (λ stamp. then-fine _ _ (need-fine _ s) (λ snap. then-fine _ _ (check-fine _ _) (λ _. then-fine _ _ (check-fine _ _) (λ _. give-fine snap))))

shape-fine : {A : Type 0} (j : Judged A) → Fine (layout_answer j)
shape-fine (Ok a) s h = elim h [ ]
shape-fine (Err t) _ stopped = tt

read-fine : {A : Type 0} (form : Form A) (b : Bytes) → Fine (read_as form b)
read-fine form b s (judges {j} h k) = shape-fine j s k

each-fine : {A B : Type 0} (f : A → Order B) (xs : List A) → ((a : A) → Fine (f a)) → Fine (each f xs)
each-fine f [] fine = give-fine []
each-fine f (x ∷ xs) fine = then-fine _ _ (fine x) (λ y. then-fine _ _ (each-fine f xs fine) (λ ys. give-fine _))

all-fine : {A : Type 0} (f : A → Order (Unit {0})) (xs : List A) → ((a : A) → Fine (f a)) → Fine (all f xs)
all-fine f [] fine = give-fine tt
all-fine f (x ∷ xs) fine = then-fine _ _ (fine x) (λ u. all-fine f xs fine)

ruled-fine : (chosen : List Link) (side : Side) (link : Link) (rules : List ArtifactRule) → Fine (ruled chosen side link rules)
ruled-fine chosen side link rules _ (forbid j path h) = tt
ruled-fine chosen side link rules _ (ask j path h) = tt

rules-fine : (chosen : List Link) (steps : List Step) (step product digest : Bytes) → Fine (rules_and_product chosen steps step product digest)
rules-fine chosen steps step product digest =
    then-fine _ _ (all-fine (step_rules chosen) (zip steps chosen) (λ e. then-fine _ _ (ruled-fine chosen materials e.1 e.0.materials) (λ _. ruled-fine chosen products e.1 e.0.products)))
    (λ _. check-fine _ _)

holds-fine : (layout : File Layout) (r : LayoutReference) (links : List (File Link)) (digest : Bytes) (now : ℕ)
    → Fine (layout_holds layout r.owners r.keys links r.step r.product digest now)
holds-fine layout r links digest now =
    then-fine _ _ (check-fine _ _) (λ _. then-fine _ _ (check-fine _ _)
    (λ _. then-fine _ _ (all-fine _ layout.body.steps (λ s. check-fine _ _)) (λ _. then-fine _ _ (all-fine _ layout.body.steps (λ s. check-fine _ _))
    (λ _ s h. rules-fine h.chosen layout.body.steps r.step r.product digest s h.judged))))

files-fine : (l : Listing) (r : LayoutReference) (now : ℕ) (b : Bytes) (bs : List Bytes) → Fine (files_hold l r now b bs)
files-fine l r now b bs =
    then-fine _ _ (check-fine _ _) (λ _. then-fine _ _ (read-fine layout_form b)
    (λ layout. then-fine _ _ (each-fine _ bs (read-fine link_form)) (λ links. holds-fine layout r links l.digest now)))

-- ---- a search says of no blob that it is missing

abbrev NoBlob : {A : Type 0} → Order A → Type 0
NoBlob m = (at digest : Bytes) (len : ℕ) → m (Err (Denied (BlobMissing at digest len))) → ⊥

then-none : {A B : Type 0} (m : Order A) (f : A → Order B) → NoBlob m → ((a : A) → NoBlob (f a)) → NoBlob (m >>= f)
then-none m f first rest at digest len (pass {a} h k) = rest a at digest len k
then-none m f first rest at digest len (decide h) = first at digest len h

check-none : (n : ℕ) (P : Type 0) → NoBlob (check n P)
check-none n P at digest len h = elim h [ ]

give-none : {A : Type 0} (a : A) → NoBlob (give a)
give-none a at digest len h = elim h [ ]

lack-none : {A : Type 0} (n : ℕ) (o : Option A) → NoBlob (need n o)
lack-none n (Some a) at digest len h = elim h [ ]
lack-none n None at digest len h = elim h [ ]

need-none : {A : Type 0} (role : Name) (version : ℕ) (o : Option A) → NoBlob (need_or (RoleMissing role version) o)
need-none role version (Some a) at digest len h = elim h [ ]
need-none role version None at digest len h = elim h [ ]

visit-none : (V : Shelf) (e : Edge) (now : ℕ) → NoBlob (visit V e now)
visit-none V e now =
    then-none _ _ (lack-none _ _) (λ entry. then-none _ _ (need-none _ _ _) (λ file.
    then-none _ _ (check-none _ _) (λ _. then-none _ _ (check-none _ _) (λ _. then-none _ _ (check-none _ _) (λ _. then-none _ _ (check-none _ _) (λ _. give-none file))))))

found-none : (U : Shelf) (role : Name) (o : Option Listing) (rest : Order Found) → NoBlob rest → NoBlob (found_or U role o rest)
found-none U role (Some l) rest none at digest len h = elim h [ ]
found-none U role None rest none at digest len h = none at digest len h

find-none : (U : Shelf) (es : List Edge) (path : Bytes) (now : ℕ) (n : ℕ) → NoBlob (find_in U es path now (denied n))
find-none U [] path now n at digest len h = elim h [ ]
find-none U (e ∷ es) path now n at digest len h =
    then-none (visit U e now) _ (visit-none U e now) (λ file. found-none U e.role (listing_of file.body path) (find_in U es path now (denied n)) (find-none U es path now n)) at digest len h

search-no-blob : (V : Shelf) (path : Bytes) (now : ℕ) → NoBlob (search V path now)
search-no-blob V path now = find-none V (take most_visits (visited V path)) path now _

searched-no-blob : (root : Root) (V : Shelf) (path : Bytes) (now : ℕ) → NoBlob (searched root V path now)
searched-no-blob root V path now = then-none _ _ (search-no-blob V path now) (λ found. then-none _ _ (check-none _ _) (λ _. give-none found))

-- ---- what is missed

-- a stop that says what is missing
abbrev Misses : Stop → Type 0
Misses s = IsFound s → ⊥

-- what is missing is answered as itself
answered : {A : Type 0} (j : Judged A) (s : Stop) → Misses s → support_answer j (Err s) → j ≡ Err s
answered (Ok a) s is h = elim h [ ]
answered (Err Same) _ is stopped = refl
answered (Err (Denied (Plain n))) _ is stopped = absurd (is tt)
answered (Err (Denied (RoleMissing role version))) _ is stopped = refl
answered (Err (Denied (BlobMissing path digest len))) _ is stopped = refl

module _ (X : State) where
  -- the blob that is missing, of a path whose listing was found
  pub record LacksBlob (root : Root) (V : Shelf) (now : ℕ) (s : Stop) (path : Bytes) : Type 0 where
    pub found : Found
    pub finds : searched root V path now (Ok found)
    pub is : s ≡ Denied (BlobMissing path found.listing.digest found.listing.len)
    pub absent : blob_at X.blobs found.listing.digest ≡ None

  blob_lacks : (path : Bytes) (l : Listing) (o : Option Bytes) (s : Stop) → Misses s → blob_from path l o (Err s) → (s ≡ Denied (BlobMissing path l.digest l.len)) × (o ≡ None)
  blob_lacks path l None _ is (decide stopped) = (refl, refl)
  blob_lacks path l None s is (pass h k) = elim h [ ]
  blob_lacks path l (Some b) s is (decide h) = elim h [ ]
  blob_lacks path l (Some b) s is (pass h (decide k)) = absurd (is (check-fine _ _ s k))
  blob_lacks path l (Some b) s is (pass h (pass k g)) = elim g [ ]

  -- a search, or a blob
  abbrev pub Lacks : Root → Shelf → ℕ → Stop → Bytes → Type 0
  Lacks root V now s path = searched root V path now (Err s) ⊎ LacksBlob root V now s path

  module _ (root : Root) (V : Shelf) (now : ℕ) (s : Stop) (is : Misses s) where
    support_lacks : (path : Bytes) → support X root V now path (Err s) → Lacks root V now s path
    support_lacks path (decide (judges {j} h k)) = inl (subst (λ (i : Judged Found). searched root V path now i) (answered j s is k) h)
    support_lacks path (pass {a = found} (judges {j} h k) (decide (judges {j = i} m n))) =
        let lacks = blob_lacks path found.listing (blob_at X.blobs found.listing.digest) s is (subst (λ (r : Judged Bytes). blob_of X path found.listing r) (answered i s is n) m) in
        inr (record { found = found; finds = subst (λ (r : Judged Found). searched root V path now r) (found_is j found k) h; is = lacks.0; absent = lacks.1 })
      where
        found_is : (j : Judged Found) (found : Found) → support_answer j (Ok found) → j ≡ Ok found
        found_is (Ok a) _ given = refl
        found_is (Err Same) a k = elim k [ ]
        found_is (Err (Denied (Plain n))) a k = elim k [ ]
        found_is (Err (Denied (RoleMissing role version))) a k = elim k [ ]
        found_is (Err (Denied (BlobMissing path digest len))) a k = elim k [ ]
    support_lacks path (pass h (pass k (decide c))) = absurd (is (check-fine _ _ s c))
    support_lacks path (pass h (pass k (pass c g))) = elim g [ ]

    each_lacks : (paths : Names) → each (support X root V now) paths (Err s) → (path : Bytes) × IsIn paths path × Lacks root V now s path
    each_lacks [] h = elim h [ ]
    each_lacks (path ∷ paths) (decide h) = (path, inl refl, support_lacks path h)
    each_lacks (path ∷ paths) (pass h (decide k)) = let rest = each_lacks paths k in (rest.0, inr rest.1, rest.2)
    each_lacks (path ∷ paths) (pass h (pass k g)) = elim g [ ]

    reference_lacks : (l : Listing) (o : Option LayoutReference) → reference_allows X root V now l o (Err s) → (path : Bytes) × IsIn (support_paths o) path × Lacks root V now s path
    reference_lacks l None h = elim h [ ]
    reference_lacks l (Some r) (decide h) = (r.path, inl refl, support_lacks r.path h)
    reference_lacks l (Some r) (pass h (decide k)) = let rest = each_lacks r.links k in (rest.0, inr rest.1, rest.2)
    reference_lacks l (Some r) (pass {a = b} h (pass {a = bs} k f)) = absurd (is (files-fine l r now b bs s f))

-- ---- what is granted

pub record Granted (X : State) (path : Bytes) (asked : Option Bytes) (now : ℕ) (b : Bytes) : Type 0 where
  pub is_path : IsTargetPath path
  pub root : File Root
  pub snap : File Snapshot
  pub found : Found
  pub trusts : X.trusted.root ≡ Some root
  pub live : live_snapshot X.trusted.timestamp X.trusted.snapshot root now (Ok snap)
  pub finds : searched root.body (shelf_of root snap X.trusted.shelf) path now (Ok found)
  pub blob : blob_of X path found.listing (Ok b)
  pub allows : reference_allows X root.body (shelf_of root snap X.trusted.shelf) now found.listing found.listing.layout (Ok tt)
  pub is_asked : IfSome asked (λ digest. found.listing.digest ≡ digest)

pub granted_tells : (X : State) (path : Bytes) (asked : Option Bytes) (now : ℕ) (b : Bytes) → grants X path asked now (Ok b) → Granted X path asked now b
granted_tells X path asked now _ (pass (pass (holds p) (pass {a = root} k (pass {a = snap} l (pass {a = found} m given)))) (pass {a = c} n (pass q (pass (holds d) given)))) = record {
  is_path = p;
  root = root;
  snap = snap;
  found = found;
  trusts = needed _ X.trusted.root root k;
  live = l;
  finds = m;
  blob = n;
  allows = q;
  is_asked = d;
}

needs : (o : Option (File Root)) (root : File Root) → o ≡ Some root → need no.no_root o (Ok root)
needs o root e = subst (λ (p : Option (File Root)). need no.no_root p (Ok root)) (sym e) given

pub granted_so : (X : State) (path : Bytes) (asked : Option Bytes) (now : ℕ) (b : Bytes) → Granted X path asked now b → grants X path asked now (Ok b)
granted_so X path asked now b g =
    pass (pass (holds g.is_path) (pass (needs X.trusted.root g.root g.trusts) (pass g.live (pass g.finds given)))) (pass g.blob (pass g.allows (pass (holds g.is_asked) given)))

-- each file that a layout needs is there
module _ (X : State) (root : Root) (V : Shelf) (now : ℕ) where
  each_gives : (paths : Names) (bs : List Bytes) → each (support X root V now) paths (Ok bs) → (path : Bytes) → IsIn paths path → (b : Bytes) × support X root V now path (Ok b)
  each_gives [] bs h path i = absurd i
  each_gives (x ∷ xs) _ (pass {a = y} h (pass {a = ys} k given)) path (inl e) = (y, subst (λ (p : Bytes). support X root V now p (Ok y)) e h)
  each_gives (x ∷ xs) _ (pass {a = y} h (pass {a = ys} k given)) path (inr i) = each_gives xs ys k path i

  reference_gives : (l : Listing) (o : Option LayoutReference) → reference_allows X root V now l o (Ok tt) → (path : Bytes) → IsIn (support_paths o) path → (b : Bytes) × support X root V now path (Ok b)
  reference_gives l None h path i = absurd i
  reference_gives l (Some r) (pass {a = b} h (pass {a = bs} k f)) path (inl e) = (b, subst (λ (p : Bytes). support X root V now p (Ok b)) e h)
  reference_gives l (Some r) (pass {a = b} h (pass {a = bs} k f)) path (inr i) = each_gives r.links bs k path i

  pub record Supports (path b : Bytes) : Type 0 where
    pub found : Found
    pub finds : searched root V path now (Ok found)
    pub blob : blob_of X path found.listing (Ok b)
    pub plain : IsNone found.listing.layout

  answered_so : {A : Type 0} (j : Judged A) (a : A) → support_answer j (Ok a) → j ≡ Ok a
  answered_so (Ok a) _ given = refl
  answered_so (Err Same) a k = elim k [ ]
  answered_so (Err (Denied (Plain n))) a k = elim k [ ]
  answered_so (Err (Denied (RoleMissing role version))) a k = elim k [ ]
  answered_so (Err (Denied (BlobMissing path digest len))) a k = elim k [ ]

  support_gives : (path b : Bytes) → support X root V now path (Ok b) → Supports path b
  support_gives path _ (pass {a = found} (judges {j} h k) (pass {a = c} (judges {j = i} m n) (pass (holds none) given))) = record {
    found = found;
    finds = subst (λ (r : Judged Found). searched root V path now r) (answered_so j found k) h;
    blob = subst (λ (r : Judged Bytes). blob_of X path found.listing r) (answered_so i c n) m;
    plain = none;
  }

  no_layout : (l : Listing) (o : Option LayoutReference) → IsNone o → reference_allows X root V now l o (Ok tt)
  no_layout l None h = given
  no_layout l (Some r) h = let k : ◌≡◌ {A = Bool} true false = h in cc

-- ---- the laws

module _ (grows : Grows) (D S : State) (part : IsPart D S) (path : Bytes) (now : ℕ) where
  root_there : (root : File Root) → D.trusted.root ≡ Some root → S.trusted.root ≡ Some root
  root_there root e = sym part.root ∙ e

  some_root : (x y : File Root) → Some x ≡ Some y → x ≡ y
  some_root x y e = cc

  some_snap : (x y : File Snapshot) → Some x ≡ Some y → x ≡ y
  some_snap x y e = cc

  ok_found : (x y : Found) → ◌≡◌ {A = Judged Found} (Ok x) (Ok y) → x ≡ y
  ok_found x y e = cc

  module _ (root : File Root) (snap : File Snapshot) (trusts : D.trusted.root ≡ Some root) (live : live_snapshot D.trusted.timestamp D.trusted.snapshot root now (Ok snap)) where
    held : S.trusted.snapshot ≡ Some snap
    held = held_snapshot grows D S part root snap now live

    abbrev own : Shelf
    own = shelf_of root snap D.trusted.shelf

    abbrev its : Shelf
    its = shelf_of root snap S.trusted.shelf

    -- what S grants it finds on this shelf
    granted_here : (asked : Option Bytes) (b : Bytes) → (g : Granted S path asked now b)
        → searched root.body its path now (Ok g.found) × reference_allows S root.body its now g.found.listing g.found.listing.layout (Ok tt)
    granted_here asked b g =
        let r : g.root ≡ root = some_root g.root root (sym g.trusts ∙ root_there root trusts) in
        let s : g.snap ≡ snap = some_snap g.snap snap (sym (given_by (λ (s : File Snapshot). S.trusted.snapshot ≡ Some s) _ g.snap (live_gives S.trusted g.root now) g.live) ∙ held) in
        subst (λ (x : File Snapshot). searched root.body (shelf_of root x S.trusted.shelf) path now (Ok g.found) × reference_allows S root.body (shelf_of root x S.trusted.shelf) now g.found.listing g.found.listing.layout (Ok tt)) s
        (subst (λ (x : File Root). searched x.body (shelf_of x g.snap S.trusted.shelf) path now (Ok g.found) × reference_allows S x.body (shelf_of x g.snap S.trusted.shelf) now g.found.listing g.found.listing.layout (Ok tt)) r (g.finds, g.allows))

    module _ (found : Found) (finds : searched root.body own path now (Ok found)) where
      its_finds : searched root.body its path now (Ok found)
      its_finds = found_alike grows D S part root snap now held path (Ok found) tt finds

      -- where S grants the target, it has each file that the layout needs
      supports_here : (b : Bytes) → grants S path None now (Ok b) → (p : Bytes) → IsIn (support_paths found.listing.layout) p → (c : Bytes) × Supports S root.body its now p c
      supports_here b h p i =
          let g = granted_tells S path None now b h in
          let here = granted_here None b g in
          let same : g.found ≡ found = ok_found g.found found (searched-definite root.body its path now (Ok g.found) (Ok found) here.0 its_finds) in
          let allows : reference_allows S root.body its now found.listing found.listing.layout (Ok tt) = subst (λ (x : Found). reference_allows S root.body its now x.listing x.listing.layout (Ok tt)) same here.1 in
          let one = reference_gives S root.body its now found.listing found.listing.layout allows p i in
          (one.0, support_gives S root.body its now p one.0 one.1)

  pub misses_role : (role : Name) (version : ℕ) → grants D path None now (Err (Denied (RoleMissing role version))) → MissesRole D S path now role version
  misses_role role version (decide (decide c)) = absurd (check-fine _ _ _ c)
  misses_role role version (decide (pass h (decide k))) = absurd (need-fine _ _ _ k)
  misses_role role version (decide (pass h (pass {a = root} k (decide l)))) = absurd (live-fine _ _ root now _ l)
  misses_role role version (decide (pass h (pass {a = root} k (pass {a = snap} l (decide m))))) =
      let trusts = needed _ D.trusted.root root k in
      record {
        root = root;
        snap = snap;
        trusts = trusts;
        live = l;
        at = path;
        misses = searched_misses root.body (shelf_of root snap D.trusted.shelf) path now _ (λ f. f) m;
        finds = λ b g.
            let t = granted_tells S path None now b g in (t.found, searched_finds root.body (shelf_of root snap S.trusted.shelf) path now t.found (granted_here root snap trusts l None b t).0);
      }
  misses_role role version (decide (pass h (pass k (pass l (pass m n))))) = elim n [ ]
  misses_role role version (pass (pass h (pass {a = root} k (pass {a = snap} l (pass {a = found} m given)))) (decide n)) =
      let e = (blob_lacks D path found.listing (blob_at D.blobs found.listing.digest) _ (λ f. f) n).0 in absurd cc
  misses_role role version (pass (pass h (pass {a = root} k (pass {a = snap} l (pass {a = found} m given)))) (pass n (decide q))) =
      let trusts = needed _ D.trusted.root root k in
      let lacks = reference_lacks D root.body (shelf_of root snap D.trusted.shelf) now (Denied (RoleMissing role version)) (λ f. f) found.listing found.listing.layout q in
      by root snap trusts l found m lacks.0 lacks.1 lacks.2
    where
      by : (root : File Root) (snap : File Snapshot) (trusts : D.trusted.root ≡ Some root) (live : live_snapshot D.trusted.timestamp D.trusted.snapshot root now (Ok snap)) (found : Found)
          → searched root.body (shelf_of root snap D.trusted.shelf) path now (Ok found) → (p : Bytes) → IsIn (support_paths found.listing.layout) p
          → Lacks D root.body (shelf_of root snap D.trusted.shelf) now (Denied (RoleMissing role version)) p → MissesRole D S path now role version
      by root snap trusts live found m p i (inl s) = record {
        root = root;
        snap = snap;
        trusts = trusts;
        live = live;
        at = p;
        misses = searched_misses root.body (shelf_of root snap D.trusted.shelf) p now _ (λ f. f) s;
        finds = λ b g.
            let one = supports_here root snap trusts live found m b g p i in (one.1.found, searched_finds root.body (shelf_of root snap S.trusted.shelf) p now one.1.found one.1.finds);
      }
      by root snap trusts live found m p i (inr k) = let e = k.is in absurd cc
  misses_role role version (pass (pass h (pass {a = root} k (pass {a = snap} l (pass {a = found} m given)))) (pass n (pass q (decide c)))) = absurd (check-fine _ _ _ c)
  misses_role role version (pass (pass h (pass {a = root} k (pass {a = snap} l (pass {a = found} m given)))) (pass n (pass q (pass c g)))) = elim g [ ]

  -- the paths of the files that a layout needs are paths of targets
  abbrev pub HasPaths : Type 0
  HasPaths = (V : Shelf) (found : Found) → V.rows ≡ S.trusted.shelf → search V path now (Ok found) → AllByRecursion IsTargetPath (support_paths found.listing.layout)

  -- at a shelf of S, a listing of a path
  lists_at : (root : File Root) (snap : File Snapshot) → D.trusted.root ≡ Some root → live_snapshot D.trusted.timestamp D.trusted.snapshot root now (Ok snap)
      → (p : Bytes) (found : Found) → IsTargetPath p → searched root.body (shelf_of root snap S.trusted.shelf) p now (Ok found)
      → listed S.trusted p now (Ok (record { root = root.body; shelf = shelf_of root snap S.trusted.shelf; listing = found.listing }))
  lists_at root snap trusts live p found is finds =
      pass (holds is) (pass (needs S.trusted.root root (root_there root trusts)) (pass (live_alike grows D S part root now (Ok snap) live) (pass finds given)))

  module _ (has : HasPaths) (at digest : Bytes) (len : ℕ) where
    -- of the target itself
    own_blob : (root : File Root) (snap : File Snapshot) → D.trusted.root ≡ Some root → live_snapshot D.trusted.timestamp D.trusted.snapshot root now (Ok snap)
        → IsTargetPath path → (found : Found) → searched root.body (shelf_of root snap D.trusted.shelf) path now (Ok found)
        → Denied (BlobMissing at digest len) ≡ Denied (BlobMissing path found.listing.digest found.listing.len) → blob_at D.blobs found.listing.digest ≡ None → MissesBlob D S path now at digest len
    own_blob root snap trusts live is found m e none =
        let here : at ≡ path = cc in
        let hash : found.listing.digest ≡ digest = cc in
        let long : found.listing.len ≡ len = cc in
        let lists = lists_at root snap trusts live path found is (its_finds root snap trusts live found m) in
        record {
          listing = record { root = root.body; shelf = shelf_of root snap S.trusted.shelf; listing = found.listing };
          lists = lists;
          among = inl (sym here);
          own = record { root = root.body; shelf = shelf_of root snap S.trusted.shelf; listing = found.listing };
          lists_own = subst (λ (p : Bytes). listed S.trusted p now (Ok (record { root = root.body; shelf = shelf_of root snap S.trusted.shelf; listing = found.listing }))) (sym here) lists;
          its_digest = hash;
          its_length = long;
          absent = subst (λ (d : Bytes). blob_at D.blobs d ≡ None) hash none;
          granted = λ b g. (b, subst (λ (p : Bytes). grants S p (Some digest) now (Ok b)) (sym here) (asked_too root snap trusts live found m hash b g));
        }
      where
        asked_too : (root : File Root) (snap : File Snapshot) (trusts : D.trusted.root ≡ Some root) (live : live_snapshot D.trusted.timestamp D.trusted.snapshot root now (Ok snap)) (found : Found)
            → searched root.body (shelf_of root snap D.trusted.shelf) path now (Ok found) → found.listing.digest ≡ digest → (b : Bytes) → grants S path None now (Ok b) → grants S path (Some digest) now (Ok b)
        asked_too root snap trusts live found m hash b h =
            let g = granted_tells S path None now b h in
            let here = granted_here root snap trusts live None b g in
            let same : g.found ≡ found = ok_found g.found found (searched-definite root.body (shelf_of root snap S.trusted.shelf) path now (Ok g.found) (Ok found) here.0 (its_finds root snap trusts live found m)) in
            granted_so S path (Some digest) now b (record {
              is_path = g.is_path;
              root = g.root;
              snap = g.snap;
              found = g.found;
              trusts = g.trusts;
              live = g.live;
              finds = g.finds;
              blob = g.blob;
              allows = g.allows;
              is_asked = ap (λ (x : Found). x.listing.digest) same ∙ hash;
            })

    -- of a file that its layout needs
    layout_blob : (root : File Root) (snap : File Snapshot) (trusts : D.trusted.root ≡ Some root) (live : live_snapshot D.trusted.timestamp D.trusted.snapshot root now (Ok snap))
        → IsTargetPath path → (found : Found) → searched root.body (shelf_of root snap D.trusted.shelf) path now (Ok found) → (p : Bytes) → IsIn (support_paths found.listing.layout) p
        → LacksBlob D root.body (shelf_of root snap D.trusted.shelf) now (Denied (BlobMissing at digest len)) p → MissesBlob D S path now at digest len
    layout_blob root snap trusts live is found m p i lacks =
        let e = lacks.is in
        let here : at ≡ p = cc in
        let hash : lacks.found.listing.digest ≡ digest = cc in
        let long : lacks.found.listing.len ≡ len = cc in
        let found_p = found_alike grows D S part root snap now (held root snap trusts live) p (Ok lacks.found) tt lacks.finds in
        let its_path : IsTargetPath p = of_each IsTargetPath (support_paths found.listing.layout) p (has (shelf_of root snap S.trusted.shelf) found refl (searched_finds root.body (shelf_of root snap S.trusted.shelf) path now found (its_finds root snap trusts live found m))) i in
        record {
          listing = record { root = root.body; shelf = shelf_of root snap S.trusted.shelf; listing = found.listing };
          lists = lists_at root snap trusts live path found is (its_finds root snap trusts live found m);
          among = inr (subst (λ (q : Bytes). IsIn (support_paths found.listing.layout) q) (sym here) i);
          own = record { root = root.body; shelf = shelf_of root snap S.trusted.shelf; listing = lacks.found.listing };
          lists_own = subst (λ (q : Bytes). listed S.trusted q now (Ok (record { root = root.body; shelf = shelf_of root snap S.trusted.shelf; listing = lacks.found.listing }))) (sym here)
              (lists_at root snap trusts live p lacks.found its_path found_p);
          its_digest = hash;
          its_length = long;
          absent = subst (λ (d : Bytes). blob_at D.blobs d ≡ None) hash lacks.absent;
          granted = λ b g.
              let one = supports_here root snap trusts live found m b g p i in
              let same : one.1.found ≡ lacks.found = ok_found one.1.found lacks.found (searched-definite root.body (shelf_of root snap S.trusted.shelf) p now (Ok one.1.found) (Ok lacks.found) one.1.finds found_p) in (
                one.0,
                subst (λ (q : Bytes). grants S q (Some digest) now (Ok one.0)) (sym here) (granted_so S p (Some digest) now one.0 (record {
                  is_path = its_path;
                  root = root;
                  snap = snap;
                  found = one.1.found;
                  trusts = root_there root trusts;
                  live = live_alike grows D S part root now (Ok snap) live;
                  finds = one.1.finds;
                  blob = one.1.blob;
                  allows = no_layout S root.body (shelf_of root snap S.trusted.shelf) now one.1.found.listing one.1.found.listing.layout one.1.plain;
                  is_asked = ap (λ (x : Found). x.listing.digest) same ∙ hash;
                })),
              );
        }

    pub misses_blob : grants D path None now (Err (Denied (BlobMissing at digest len))) → MissesBlob D S path now at digest len
    misses_blob (decide (decide c)) = absurd (check-fine _ _ _ c)
    misses_blob (decide (pass h (decide k))) = absurd (need-fine _ _ _ k)
    misses_blob (decide (pass h (pass {a = root} k (decide l)))) = absurd (live-fine _ _ root now _ l)
    misses_blob (decide (pass h (pass {a = root} k (pass {a = snap} l (decide m))))) = absurd (searched-no-blob root.body (shelf_of root snap D.trusted.shelf) path now at digest len m)
    misses_blob (decide (pass h (pass k (pass l (pass m n))))) = elim n [ ]
    misses_blob (pass (pass (holds is) (pass {a = root} k (pass {a = snap} l (pass {a = found} m given)))) (decide n)) =
        let lacks = blob_lacks D path found.listing (blob_at D.blobs found.listing.digest) _ (λ f. f) n in
        own_blob root snap (needed _ D.trusted.root root k) l is found m lacks.0 lacks.1
    misses_blob (pass (pass (holds is) (pass {a = root} k (pass {a = snap} l (pass {a = found} m given)))) (pass n (decide q))) =
        let lacks = reference_lacks D root.body (shelf_of root snap D.trusted.shelf) now (Denied (BlobMissing at digest len)) (λ f. f) found.listing found.listing.layout q in
        by root snap (needed _ D.trusted.root root k) l is found m lacks.0 lacks.1 lacks.2
      where
        by : (root : File Root) (snap : File Snapshot) (trusts : D.trusted.root ≡ Some root) (live : live_snapshot D.trusted.timestamp D.trusted.snapshot root now (Ok snap))
            → IsTargetPath path → (found : Found) → searched root.body (shelf_of root snap D.trusted.shelf) path now (Ok found) → (p : Bytes) → IsIn (support_paths found.listing.layout) p
            → Lacks D root.body (shelf_of root snap D.trusted.shelf) now (Denied (BlobMissing at digest len)) p → MissesBlob D S path now at digest len
        by root snap trusts live is found m p i (inl s) = absurd (searched-no-blob root.body (shelf_of root snap D.trusted.shelf) p now at digest len s)
        by root snap trusts live is found m p i (inr k) = layout_blob root snap trusts live is found m p i k
    misses_blob (pass (pass h (pass {a = root} k (pass {a = snap} l (pass {a = found} m given)))) (pass n (pass q (decide c)))) = absurd (check-fine _ _ _ c)
    misses_blob (pass (pass h (pass {a = root} k (pass {a = snap} l (pass {a = found} m given)))) (pass n (pass q (pass c g)))) = elim g [ ]

module _ (law : Sound) where
  pub listed_proper : (X : State) (path : Bytes) (now : ℕ) (at : Listed) → IsState X → listed X.trusted path now (Ok at) → IsProperListing at.listing
  listed_proper X path now _ valid (pass h (pass {a = root} k (pass {a = snap} l (pass {a = found} m given)))) =
      search_proper law (shelf_of root snap X.trusted.shelf) path now found valid.trusted.rows (searched_finds root.body (shelf_of root snap X.trusted.shelf) path now found m)

  paths_of : (l : Listing) (o : Option LayoutReference) → IfSome o (λ r. AllByRecursion IsTargetPath (r.path ∷ r.links) × (length r.links ≤ 64)) → AllByRecursion IsTargetPath (support_paths o)
  paths_of l None h = tt
  paths_of l (Some r) h = h.0

  pub supports_are_paths : (X : State) (path : Bytes) (now : ℕ) → IsState X → (V : Shelf) (found : Found) → V.rows ≡ X.trusted.shelf → search V path now (Ok found)
      → AllByRecursion IsTargetPath (support_paths found.listing.layout)
  supports_are_paths X path now valid V found e h =
      paths_of found.listing found.listing.layout (search_proper law V path now found (subst (λ (rows : Rows). All IsShelfRow rows) (sym e) valid.trusted.rows) h).2
