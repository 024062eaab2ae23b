-- The rows of a state fit the columns, and rise.
use Rattle.std.proofs.Common.{◌≡◌, ◌==◌, ◌<◌, ◌≤◌, inl, inr, ℕ, zero, suc, Bool, true, false, ◌&&◌, ◌||◌, List, [], ◌∷◌, ◌++◌, map, length, Option, Some, None, refl, sym, ap, subst, ◌∙◌, arith, bytes_eq, slice_index, slice_index_or}
use Rattle.std.specs.Prelude.{All, IfSome, IsUtf8, nat_lt}
use Rattle.std.specs.List.{AllByRecursion, list_all}
use Rattle.std.specs.List.Sorted.{IsStrictlySortedBy}
use Rattle.std.specs.Ordering.{nat_cmp}
use Rattle.std.specs.Cmp.Lexicographic.{slice_cmp}
use Rattle.std.specs.Cmp.{nat_cmp_is, IsTotalOrder}
use Rattle.std.proofs.lemmas.Cmp.{nat_cmp_total, nat_list_cmp_total, tied_itself}
use Rattle.std.proofs.lemmas.Slice.Eq.{bytes_eq-Decides}
use Rattle.store.proofs.SameRows.{SameItems}
use Rattle.std.specs.declared.cmp.Ordering.{Ordering}
use Rattle.std.specs.declared.cmp.Ordering.TheVariants.{Less, Equal}
use Rattle.std.proofs.lemmas.Str.{IsUtf8-from_ascii}
use Rattle.std.proofs.lemmas.List.Elements.{All-head, All-tail}
use Rattle.std.proofs.lemmas.Bool.{and_parts, cases_lt, eqb-true, lt-leb, ltb-true, ne_eqb, or_left, true≢false}
use Rattle.sha2.specs.Sha256.{sha256}
use Rattle.sha2.proofs.Facts256.{length-sha256}
use Rattle.sqlite_rules.specs.Lists.{Has}
use Rattle.path_patterns.specs.Bytes.{is_digit, is_lower, is_name_byte, is_name_start}
use Rattle.path_patterns.specs.Grammar.{IsName}
use Rattle.document_parts.specs.Documents.{Profile, Root, Timestamp, Snapshot, Targets, first_profile, second_profile}
use Rattle.metadata.specs.File.{Bytes, File, Form, IsFileOf, root_form, timestamp_form, snapshot_form, targets_form}
use Rattle.delegations.specs.Delegation.{before}
use Rattle.delegations.specs.Rows.{Place, Rises, Rows, place_before}
use Rattle.trust_rules.specs.State.{State, IsBlob, IsHeldUnder, IsRootChain, IsShelfRow, IsState, kept_root}
use Rattle.trust_rules.specs.Effects.{last_or}
use Rattle.trust_rules.specs.steps.Loading.{FollowOn, IsChain, laid}
use Rattle.trust_rules.specs.Contents.{contents_of, profile_number, root_row_of, shelf_rows}
use Rattle.repository_rows.specs.Contents.{Contents}
use Rattle.trust_rules.specs.steps.Stored.{IsStored, Together}
use Rattle.trust_rules.proofs.RootChains.{chain_tells}
use Rattle.trust_rules.proofs.ShapedOnce.{Shapes}
use Rattle.trust_rules.proofs.RowsOfOneState.{FilesOf, files_of, stored_read, stored_rows}
use Rattle.table_rows.proofs.Orders.{row_cmp_total}
use Rattle.sqlite_trees.specs.Tree.{Trees}
use Rattle.table_rows.proofs.SetLemmas.{one_stood}
use Rattle.table_rows.specs.Tables.{AreRising, AreSame, HaveDigests, IsDigest, StandsFor, IsFit, IsVersion, row_cmp}
use Rattle.sql_tables.specs.Rows.{AreKeyed}
use Rattle.sql_tables.proofs.Digests.{bytes_of_digest}
use Rattle.store.specs.StateRows.{rows_of}

-- ---- digests

pub digest_fits : (m : List ℕ) → IsDigest (sha256 m)
digest_fits m = (length-sha256 m, bytes_of_digest m)

pub are_digests : (bs : List (Bytes × Bytes)) → All IsBlob bs → AllByRecursion (λ r. IsDigest r.0) bs
are_digests [] h = tt
are_digests (b ∷ bs) h = (subst IsDigest (All-head IsBlob b bs h).digest (digest_fits b.1), are_digests bs (All-tail IsBlob b bs h))

-- ---- versions and names

profile_fits : (p : Profile) → IsVersion (profile_number p)
profile_fits first_profile = omega arith
profile_fits second_profile = omega arith

root_fits : (f : File Root) → IsFileOf root_form f → IsVersion f.body.version × IsVersion (profile_number f.body.profile)
root_fits f h = let v = h.read.body.head.1.0 in (omega (arith, h.read.body.head.1.2.2), profile_fits f.body.profile)

timestamp_fits : (f : File Timestamp) → IsFileOf timestamp_form f → IsVersion f.body.version
timestamp_fits f h = omega (arith, h.read.body.head.1.2.2)

snapshot_fits : (f : File Snapshot) → IsFileOf snapshot_form f → IsVersion f.body.version
snapshot_fits f h = omega (arith, h.read.body.head.1.2.2)

targets_fits : (f : File Targets) → IsFileOf targets_form f → IsVersion f.body.version
targets_fits f h = omega (arith, h.read.body.head.1.2.2)

and_false : (b : Bool) → (b && false) ≡ false
and_false true = refl
and_false false = refl

large_fails : (c : ℕ) → 128 ≤ c → is_name_byte c ≡ false
large_fails c h =
    let lower : is_lower c ≡ false = rw (lt-leb c 122 (omega (arith, h))) (and_false _) in
    let digit : is_digit c ≡ false = rw (lt-leb c 57 (omega (arith, h))) (and_false _) in
    rw (lower, digit, ne_eqb c 95 (λ e. omega (arith, h, e)), ne_eqb c 45 (λ e. omega (arith, h, e))) refl

small : (c : ℕ) → is_name_byte c ≡ true → c < 128
small c h = elim (cases_lt c 128) [ inl low ↦ low | inr high ↦ absurd (true≢false (sym h ∙ large_fails c (omega (arith, high)))) ]

start_small : (c : ℕ) → is_name_start c ≡ true → c < 128
start_small c h = small c (or_left _ _ (or_left _ _ h))

names_small : (cs : List ℕ) → list_all is_name_byte cs ≡ true → (i : ℕ) → slice_index cs i < 128
names_small [] h i = omega arith
names_small (c ∷ cs) h zero = small c (and_parts (is_name_byte c) (list_all is_name_byte cs) h).0
names_small (c ∷ cs) h (suc i) = names_small cs (and_parts (is_name_byte c) (list_all is_name_byte cs) h).1 i

name_small : (name : List ℕ) → IsName name → (i : ℕ) → slice_index name i < 128
name_small [] h i = absurd h
name_small (c ∷ cs) h zero = start_small c h.0
name_small (c ∷ cs) h (suc i) = names_small cs h.1 i

name_fits : (name : List ℕ) → IsName name → IsUtf8 name
name_fits name h = IsUtf8-from_ascii name (name_small name h)

-- ---- keys that rise

before_less : (a b : Bytes) → before a b ≡ true → slice_cmp nat_cmp a b ≡ Less
before_less [] [] h = absurd (true≢false (sym h))
before_less [] (y ∷ ys) h = refl
before_less (x ∷ xs) [] h = absurd (true≢false (sym h))
before_less (x ∷ xs) (y ∷ ys) h = of (nat_lt x y) (x == y) refl refl h (before_less xs ys)
  where
    of : (l e : Bool) → nat_lt x y ≡ l → (x == y) ≡ e → (l || (e && before xs ys)) ≡ true → (before xs ys ≡ true → slice_cmp nat_cmp xs ys ≡ Less)
        → slice_cmp nat_cmp (x ∷ xs) (y ∷ ys) ≡ Less
    of true e is same t rest = rw (sym (nat_cmp_is x y Less (ltb-true x y is))) refl
    of false true is same t rest = rw (sym (nat_cmp_is x y Equal (eqb-true x y same))) (rest t)
    of false false is same t rest = absurd (true≢false (sym t))

place_less : (p q : Place) → place_before p q ≡ true → row_cmp p q ≡ Less
place_less p q h = of (before p.0 q.0) refl h
  where
    of : (b : Bool) → before p.0 q.0 ≡ b → (b || (bytes_eq p.0 q.0 && nat_lt p.1 q.1)) ≡ true → row_cmp p q ≡ Less
    of true is t = rw (before_less p.0 q.0 is) refl
    of false is t =
        let both = and_parts (bytes_eq p.0 q.0) (nat_lt p.1 q.1) t in
        rw (same_bytes p.0 q.0 both.0) (sym (nat_cmp_is p.1 q.1 Less (ltb-true p.1 q.1 both.1)))
      where
        same_bytes : (a b : Bytes) → bytes_eq a b ≡ true → slice_cmp nat_cmp a b ≡ Equal
        same_bytes a b e = subst (λ z. slice_cmp nat_cmp a z ≡ Equal) ((bytes_eq-Decides a b).0 e) (tied_itself nat_list_cmp_total a)

module _ {K V : Type 0} (below : K → K → Bool) (cmp : K → K → Ordering) (less : (a b : K) → below a b ≡ true → cmp a b ≡ Less) where
  above_all : (key : K) (rows : List (K × V)) → ((k : ℕ) (d : K × V) → k < length rows → below key (slice_index_or rows k d).0 ≡ true)
      → AllByRecursion (λ y. cmp key y ≡ Less) (map (λ r. r.0) rows)
  above_all key [] h = tt
  above_all key (r ∷ rows) h = (less key r.0 (h 0 r (omega arith)), above_all key rows (λ k d l. h (suc k) d (omega (arith, l))))

  sorted : (rows : List (K × V)) → Rises below rows → IsStrictlySortedBy cmp (map (λ r. r.0) rows)
  unfolding IsStrictlySortedBy
  sorted [] h = tt
  sorted (r ∷ rows) h =
      (above_all r.0 rows (λ k d l. h 0 (suc k) d (omega arith) (omega (arith, l))), sorted rows (λ i j d l m. h (suc i) (suc j) d (omega (arith, l)) (omega (arith, m))))

not_itself : {K : Type 0} (cmp : K → K → Ordering) → IsTotalOrder cmp → (k : K) → cmp k k ≡ Less → ⊥
not_itself cmp total k h = let e = sym h ∙ tied_itself total k in absurd (cc)

-- rows whose keys rise have one for each key, and are one list if they are one set
module _ {K V : Type 0} (cmp : K → K → Ordering) (total : IsTotalOrder cmp) where
  later : (key : K) (rows : List (K × V)) → AllByRecursion (λ y. cmp key y ≡ Less) (map (λ r. r.0) rows) → (x : K × V) → Has rows x → cmp key x.0 ≡ Less
  later key [] h x has = absurd has
  later key (r ∷ rows) h x (inl is) = subst (λ (z : K × V). cmp key z.0 ≡ Less) (sym is) h.0
  later key (r ∷ rows) h x (inr has) = later key rows h.1 x has

  pub keyed : (rows : List (K × V)) → IsStrictlySortedBy cmp (map (λ r. r.0) rows) → AreKeyed rows
  unfolding IsStrictlySortedBy
  keyed [] h x y has_x has_y same = absurd has_x
  keyed (r ∷ rows) h x y (inl a) (inl b) same = a ∙ sym b
  keyed (r ∷ rows) h x y (inl a) (inr b) same =
      absurd (not_itself cmp total r.0 (subst (λ k. cmp r.0 k ≡ Less) (sym same ∙ ap (λ z. z.0) a) (later r.0 rows h.0 y b)))
  keyed (r ∷ rows) h x y (inr a) (inl b) same =
      absurd (not_itself cmp total r.0 (subst (λ k. cmp r.0 k ≡ Less) (same ∙ ap (λ z. z.0) b) (later r.0 rows h.0 x a)))
  keyed (r ∷ rows) h x y (inr a) (inr b) same = keyed rows h.1 x y a b same

  pub one_list : (xs ys : List (K × V)) → IsStrictlySortedBy cmp (map (λ r. r.0) xs) → IsStrictlySortedBy cmp (map (λ r. r.0) ys) → SameItems xs ys → xs ≡ ys
  unfolding IsStrictlySortedBy
  one_list [] [] h k same = refl
  one_list [] (y ∷ ys) h k same = absurd ((same y).1 (inl refl))
  one_list (x ∷ xs) [] h k same = absurd ((same x).0 (inl refl))
  one_list (x ∷ xs) (y ∷ ys) h k same =
      let first : x ≡ y = elim ((same x).0 (inl refl)) [
        | inl is ↦ is
        | inr in_ys ↦ elim ((same y).1 (inl refl)) [
          | inl is ↦ sym is
          | inr in_xs ↦ absurd (not_itself cmp total x.0 (total.trans x.0 y.0 x.0 (later x.0 xs h.0 y in_xs) (later y.0 ys k.0 x in_ys)))
        ]
      ] in
      let rest : SameItems xs ys = λ z. (
        (λ has. elim ((same z).0 (inr has)) [ inl is ↦ absurd (not_itself cmp total x.0 (subst (λ w. cmp x.0 w ≡ Less) (ap (λ u. u.0) (is ∙ sym first)) (later x.0 xs h.0 z has))) | inr r ↦ r ]),
        (λ has. elim ((same z).1 (inr has)) [ inl is ↦ absurd (not_itself cmp total y.0 (subst (λ w. cmp y.0 w ≡ Less) (ap (λ u. u.0) (is ∙ first)) (later y.0 ys k.0 z has))) | inr r ↦ r ]),
      ) in
      let more = one_list xs ys h.1 k.1 rest in
      ap (λ z. z ∷ xs) first ∙ ap (λ l. y ∷ l) more

-- ---- the rows of a state

all_rows : {A B : Type 0} (P : A → Type 0) (Q : B → Type 0) (f : A → B) → ((x : A) → P x → Q (f x)) → (xs : List A) → All P xs → AllByRecursion Q (map f xs)
all_rows P Q f each [] h = tt
all_rows P Q f each (x ∷ xs) h = (each x (All-head P x xs h), all_rows P Q f each xs (All-tail P x xs h))

above_files : (n : ℕ) (f : File Root) (more : List (File Root)) → n < f.body.version → FollowOn f more
    → AllByRecursion (λ y. nat_cmp n y ≡ Less) (map (λ r. r.0) (map root_row_of (f ∷ more)))
above_files n f [] h follows = (sym (nat_cmp_is n f.body.version Less h), tt)
above_files n f (g ∷ gs) h follows = (sym (nat_cmp_is n f.body.version Less h), above_files n g gs (omega (arith, h, follows.0.next)) follows.1)

files_rise : (f : File Root) (more : List (File Root)) → FollowOn f more → IsStrictlySortedBy nat_cmp (map (λ r. r.0) (map root_row_of (f ∷ more)))
unfolding IsStrictlySortedBy
files_rise f [] follows = (tt, tt)
files_rise f (g ∷ gs) follows = (above_files f.body.version g gs (omega (arith, follows.0.next)) follows.1, files_rise g gs follows.1)

chain_rises : (fs : List (File Root)) → IsChain fs → IsStrictlySortedBy nat_cmp (map (λ r. r.0) (map root_row_of fs))
unfolding IsStrictlySortedBy
chain_rises [] chain = tt
chain_rises (f ∷ fs) chain = files_rise f fs chain.1

slot_fits : {A : Type 0} (form : Form A) (version : A → ℕ) → ((f : File A) → IsFileOf form f → IsVersion (version f.body)) → (row : Option (ℕ × Bytes)) (o : Option (File A))
    → Together (IsStored form version) row o → (r : ℕ × Bytes) → row ≡ Some r → IsVersion r.0
slot_fits form version fits None o h r e = absurd (let k : ◌≡◌ {A = Option (ℕ × Bytes)} None (Some r) = e in cc)
slot_fits form version fits (Some x) None h r e = absurd h
slot_fits form version fits (Some x) (Some f) h r e =
    let same : x ≡ r = (let k : ◌≡◌ {A = Option (ℕ × Bytes)} (Some x) (Some r) = e in cc) in
    subst (λ (z : ℕ × Bytes). IsVersion z.0) (h.is ∙ same) (fits f h.document)

module _ (law : Shapes) (S : State) (s : IsState S) where
  the_files : FilesOf S
  the_files = files_of law S s

  roots_are : map root_row_of the_files.files.roots ≡ (contents_of S).roots
  roots_are = ap (λ C. C.roots) (stored_rows (contents_of S) the_files.files the_files.stored)

  roots_read : All (IsFileOf root_form) the_files.files.roots
  roots_read = (stored_read (contents_of S) the_files.files the_files.stored).roots

  valid_files : IsState (laid the_files.files)
  valid_files = subst IsState (sym the_files.is) s

  roots_chain : IsChain the_files.files.roots
  roots_chain = (chain_tells law the_files.files.roots roots_read).1 (of (last_or None the_files.files.roots) refl)
    where
      of : (o : Option (File Root)) → last_or None the_files.files.roots ≡ o → IfSome o (IsRootChain (map kept_root the_files.files.roots))
      of None e = tt
      of (Some r) e = (subst (λ (o : Option (File Root)). IfSome o (IsHeldUnder (laid the_files.files).trusted)) e valid_files.trusted.held).chain

  roots_rise : IsStrictlySortedBy nat_cmp (map (λ r. r.0) (contents_of S).roots)
  roots_rise = subst (λ l. IsStrictlySortedBy nat_cmp (map (λ r. r.0) l)) roots_are (chain_rises the_files.files.roots roots_chain)

  keys_of_shelf : (rows : Rows) → map (λ r. r.0) (shelf_rows rows) ≡ map (λ r. r.0) rows
  keys_of_shelf [] = refl
  keys_of_shelf (r ∷ rows) = ap (λ l. r.0 ∷ l) (keys_of_shelf rows)

  shelf_rises : IsStrictlySortedBy row_cmp (map (λ r. r.0) (contents_of S).shelf)
  shelf_rises = subst (IsStrictlySortedBy row_cmp) (sym (keys_of_shelf S.trusted.shelf)) (sorted place_before row_cmp place_less S.trusted.shelf s.trusted.in_order)

  blobs_rise : IsStrictlySortedBy (slice_cmp nat_cmp) (map (λ r. r.0) S.blobs)
  blobs_rise = sorted before (slice_cmp nat_cmp) before_less S.blobs s.in_order

  pub state_rises : AreRising (rows_of S)
  state_rises = record { roots = roots_rise; shelf = shelf_rises; blobs = blobs_rise }

  pub state_digests : HaveDigests (rows_of S)
  state_digests = of S.blobs s.blobs
    where
      of : (bs : List (Bytes × Bytes)) → All IsBlob bs → AllByRecursion (λ r. sha256 r.1 ≡ r.0) bs
      of [] h = tt
      of (b ∷ bs) h = ((All-head IsBlob b bs h).digest, of bs (All-tail IsBlob b bs h))

  pub state_fits : IsFit (rows_of S)
  state_fits = record {
    roots = subst (AllByRecursion (λ r. IsVersion r.0 × IsVersion r.1.0)) roots_are
        (all_rows (IsFileOf root_form) (λ r. IsVersion r.0 × IsVersion r.1.0) root_row_of root_fits the_files.files.roots roots_read);
    one_root = keyed nat_cmp nat_cmp_total (contents_of S).roots roots_rise;
    timestamp = slot_fits timestamp_form (λ t. t.version) timestamp_fits (contents_of S).timestamp the_files.files.timestamp the_files.stored.timestamp;
    snapshot = slot_fits snapshot_form (λ b. b.version) snapshot_fits (contents_of S).snapshot the_files.files.snapshot the_files.stored.snapshot;
    shelf = all_rows IsShelfRow (λ r. IsUtf8 r.0.0 × IsVersion r.0.1) (λ row. (row.0, row.1.bytes))
        (λ row h. (name_fits row.0.0 h.role, subst IsVersion h.version (targets_fits row.1 h.document))) S.trusted.shelf s.trusted.rows;
    one_row = keyed row_cmp row_cmp_total (contents_of S).shelf shelf_rises;
    blobs = are_digests S.blobs s.blobs;
    one_blob = keyed (slice_cmp nat_cmp) nat_list_cmp_total S.blobs blobs_rise;
  }

-- a state has one file under a digest
pub blobs_keyed : (S : State) → IsState S → AreKeyed S.blobs
blobs_keyed S s = keyed (slice_cmp nat_cmp) nat_list_cmp_total S.blobs (sorted before (slice_cmp nat_cmp) before_less S.blobs s.in_order)

-- rows that rise, and are the same, are the same lists
pub same_tables : (t u : Contents) → AreRising t → AreRising u → AreSame t u → t ≡ u
same_tables t u up up' same =
    let roots : t.roots ≡ u.roots = one_list nat_cmp nat_cmp_total t.roots u.roots up.roots up'.roots same.roots in
    let shelf : t.shelf ≡ u.shelf = one_list row_cmp row_cmp_total t.shelf u.shelf up.shelf up'.shelf same.shelf in
    let blobs : t.blobs ≡ u.blobs = one_list (slice_cmp nat_cmp) nat_list_cmp_total t.blobs u.blobs up.blobs up'.blobs same.blobs in
    fields roots same.timestamp same.snapshot shelf blobs
  where
    fields : {r r' : List (ℕ × (ℕ × Bytes))} {a a' b b' : Option (ℕ × Bytes)} {p p' : List (Place × Bytes)} {d d' : List (Bytes × Bytes)}
        → r ≡ r' → a ≡ a' → b ≡ b' → p ≡ p' → d ≡ d'
        → ◌≡◌ {A = Contents} (record { roots = r; timestamp = a; snapshot = b; shelf = p; blobs = d })
        (record { roots = r'; timestamp = a'; snapshot = b'; shelf = p'; blobs = d' })
    fields a b c d e = cc

-- ---- what a database stands for

-- trees stand for the rows of one contents that rise
pub one_stands : (trees : Trees) (t u : Contents) → IsFit t → IsFit u → AreRising t → AreRising u → StandsFor trees t → StandsFor trees u → t ≡ u
one_stands trees t u fit fit' up up' h k = same_tables t u up up' (one_stood trees t u fit fit' h k)
