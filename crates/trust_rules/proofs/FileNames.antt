-- Under which names the metadata of a valid state is found.
use Rattle.std.proofs.Common.{◌≡◌, ◌≢◌, ℕ, suc, ◌+◌, ◌^◌, ◌<◌, ◌≤◌, Bool, true, false, cond, List, [], ◌∷◌, ◌++◌, map, length, get_or, Option, Some, None, option_map, option_and_then, codes, bytes_eq, nat_eq, refl, sym, ap, ◌∙◌, subst, arith}
use Rattle.path_patterns.specs.Names.{dotted}
use Rattle.std.specs.Prelude.{All, IfNone, IfSome}
use Rattle.std.specs.Fmt.{decimal}
use Rattle.std.specs.Str.Parse.{AllDigits, digits_value}
use Rattle.std.proofs.lemmas.Bool.{false_from_ne_true}
use Rattle.std.proofs.lemmas.Bool.Decides.{Decides-eqb}
use Rattle.std.proofs.lemmas.Fmt.{decimal_is_IsNumeral, decimal_injective, decimal_nonempty}
use Rattle.std.proofs.lemmas.List.{append_cancel_right, get_or_append_left}
use Rattle.std.proofs.lemmas.List.Elements.{All-head, All-tail}
use Rattle.std.proofs.lemmas.Str.Parse.{IsNumeralModel, numerals_by_value, tells_digits, not_in_digits}
use Rattle.keys_roles.specs.Plain.{look_up}
use Rattle.document_parts.specs.Bodies.{IsListable}
use Rattle.document_parts.specs.Documents.{Profile, Root, Timestamp, Snapshot, Targets}
use Rattle.metadata.specs.File.{Bytes, Name, File, IsFileOf, snapshot_form}
use Rattle.document_parts.specs.Parts.{last_number}
use Rattle.delegations.proofs.KeyOrder.{place_one}
use Rattle.delegations.proofs.Walk.{by_test}
use Rattle.delegations.specs.Rows.{Place, Rows, row_at, same_place, value_at}
use Rattle.trust_rules.specs.Contents.{root_rows}
use Rattle.trust_rules.specs.State.{Trusted, IsHeldUnder, IsRootChain, IsShelfRow, IsTrusted, first, metadata_of, nothing_trusted, one_file, root_files, root_version, then}
use Rattle.trust_rules.proofs.FoundNames.{found_later}
use Rattle.trust_rules.proofs.PrunedStates.{bytes_itself, bytes_one, place_self}

-- ---- a number, a dot and a name

abbrev Lacks : ℕ → List ℕ → Type 0
Lacks c bs = (k : ℕ) → k < length bs → get_or bs k 0 ≢ c

tail_lacks : (c h : ℕ) (t : List ℕ) → Lacks c (h ∷ t) → Lacks c t
tail_lacks c h t l k lt = l (suc k) (omega arith)

split_once : (c : ℕ) (a b x y : List ℕ) → Lacks c a → Lacks c b → a ++ c ∷ x ≡ b ++ c ∷ y → (a ≡ b) × (x ≡ y)
split_once c [] [] x y la lb e = (refl, (cc))
split_once c [] (h ∷ t) x y la lb e = absurd (lb 0 (omega arith) (cc))
split_once c (h ∷ t) [] x y la lb e = absurd (la 0 (omega arith) (cc))
split_once c (h ∷ t) (g ∷ s) x y la lb e =
    let head : h ≡ g = cc in
    let tails : t ++ c ∷ x ≡ s ++ c ∷ y = cc in
    let more = split_once c t s x y (tail_lacks c h t la) (tail_lacks c g s lb) tails in
    ((cc), more.1)

own : IsNumeralModel (AllDigits 10) (digits_value 10)
own = numerals_by_value (AllDigits 10) tells_digits

no_dot : (n : ℕ) → n < 2 ^ 64 → Lacks 46 (decimal n)
no_dot n h k lt = not_in_digits own (decimal n) 46 (decimal_is_IsNumeral n h).0.1 (λ r. omega (arith, r.0)) k lt

pub dotted_once : (n m : ℕ) (a b : Bytes) → n ≤ last_number → m ≤ last_number → dotted n a ≡ dotted m b → (n ≡ m) × (a ≡ b)
dotted_once n m a b hn hm e =
    let s = split_once 46 (decimal n) (decimal m) (a ++ codes ".json") (b ++ codes ".json") (no_dot n (omega arith)) (no_dot m (omega arith)) e in
    (decimal_injective n m (omega arith) (omega arith) s.0, append_cancel_right a b (codes ".json") s.1)

-- the file of the timestamp has no such name
no_timestamp : (n : ℕ) (a : Bytes) → n ≤ last_number → codes "timestamp.json" ≡ dotted n a → ⊥
no_timestamp n a h e =
    let some = decimal_nonempty n (omega arith) in
    not_in_digits own (decimal n) 116 (decimal_is_IsNumeral n (omega arith)).0.1 (λ r. omega (arith, r.1)) 0 some
    (sym (get_or_append_left (decimal n) (codes "." ++ (a ++ codes ".json")) 0 0 some) ∙ sym (ap (λ (bs : Bytes). get_or bs 0 0) e))

unlike : (a b : Bytes) → (a ≡ b → ⊥) → bytes_eq a b ≡ false
unlike a b none = false_from_ne_true (bytes_eq a b) (λ t. none (bytes_one a b t))

number_one : (n m : ℕ) → nat_eq n m ≡ true → n ≡ m
number_one n m t = (Decides-eqb n m).0 t

-- two such names are one where number and name are
tells : (n m : ℕ) (a b : Bytes) → n ≤ last_number → m ≤ last_number → bytes_eq (dotted n a) (dotted m b) ≡ same_place (a, n) (b, m)
tells n m a b hn hm = by_test (same_place (a, n) (b, m))
    (λ t. let e = place_one (a, n) (b, m) t in
    let same : dotted n a ≡ dotted m b = ap (λ (p : Place). dotted p.1 p.0) e in
    subst (λ (x : Bytes). bytes_eq (dotted n a) x ≡ true) same (bytes_itself (dotted n a)) ∙ sym t)
    (λ f. unlike (dotted n a) (dotted m b) (λ e. let s = dotted_once n m a b hn hm e in
    let one : ◌≡◌ {A = Place} (a, n) (b, m) = λ i. (s.1 i, s.0 i) in
    absurd_from (subst (λ (p : Place). same_place (a, n) p ≡ true) one (place_self (a, n))) f) ∙ sym f)
  where
    absurd_from : {b : Bool} → b ≡ true → b ≡ false → ⊥
    absurd_from t f = let k : true ≡ false = sym t ∙ f in cc

same_name : (n m : ℕ) (a : Bytes) → same_place (a, n) (a, m) ≡ nat_eq n m
same_name n m a = rw (bytes_itself a) refl

other_name : (n m : ℕ) (a b : Bytes) → (a ≡ b → ⊥) → same_place (a, n) (b, m) ≡ false
other_name n m a b none = rw (unlike a b none) refl

-- ---- what stands after a place does not matter

alone : {A : Type 0} (xs ys : List (Bytes × A)) (name : Bytes) → look_up ys name ≡ None → look_up (xs ++ ys) name ≡ look_up xs name
alone [] ys name h = h
alone (x ∷ xs) ys name h = by_test (bytes_eq x.0 name) (λ t. rw t refl) (λ f. rw f (alone xs ys name h))

-- ---- the timestamp's file

under : (o : Option (File Timestamp)) (rest : List (Bytes × Bytes)) (n : ℕ) (a : Bytes) → n ≤ last_number
    → look_up (one_file o (λ t. codes "timestamp.json") ++ rest) (dotted n a) ≡ look_up rest (dotted n a)
under None rest n a h = refl
under (Some t) rest n a h = rw (unlike (codes "timestamp.json") (dotted n a) (no_timestamp n a h)) refl

stamp : (o : Option (File Timestamp)) (rest : List (Bytes × Bytes)) → look_up rest (codes "timestamp.json") ≡ None
    → look_up (one_file o (λ t. codes "timestamp.json") ++ rest) (codes "timestamp.json") ≡ option_map (λ t. t.bytes) o
stamp None rest h = h
stamp (Some t) rest h = refl

-- ---- the roots' files, whose versions are such numbers

abbrev AreSmall : Trusted → ℕ → ℕ → Type 0
AreSmall T k n = (j : ℕ) → k ≤ j → j < k + n → root_version T j ≤ last_number

later_small : (T : Trusted) (k n : ℕ) → AreSmall T k (suc n) → AreSmall T (suc k) n
later_small T k n small j above below = small j (omega arith) (omega arith)

roots_stamp : (T : Trusted) (k : ℕ) (bs : List (Profile × Bytes)) → AreSmall T k (length bs) → look_up (root_files T k bs) (codes "timestamp.json") ≡ None
roots_stamp T k [] small = refl
roots_stamp T k (b ∷ bs) small =
    let n : ℕ = root_version T k in
    rw (unlike (dotted n (codes "root")) (codes "timestamp.json") (λ e. no_timestamp n (codes "root") (small k (omega arith) (omega arith)) (sym e)))
    (roots_stamp T (suc k) bs (later_small T k (length bs) small))

roots_other : (T : Trusted) (k : ℕ) (bs : List (Profile × Bytes)) (n : ℕ) (a : Bytes) → AreSmall T k (length bs) → n ≤ last_number → (codes "root" ≡ a → ⊥)
    → look_up (root_files T k bs) (dotted n a) ≡ None
roots_other T k [] n a small h none = refl
roots_other T k (b ∷ bs) n a small h none =
    rw (tells (root_version T k) n (codes "root") a (small k (omega arith) (omega arith)) h ∙ other_name (root_version T k) n (codes "root") a none)
    (roots_other T (suc k) bs n a (later_small T k (length bs) small) h none)

roots_found : (T : Trusted) (k : ℕ) (bs : List (Profile × Bytes)) (n : ℕ) → AreSmall T k (length bs) → n ≤ last_number
    → look_up (root_files T k bs) (dotted n (codes "root")) ≡ option_map (λ r. r.1) (value_at nat_eq (root_rows T k bs) n)
roots_found T k [] n small h = refl
roots_found T k (b ∷ bs) n small h =
    let v : ℕ = root_version T k in
    let test : bytes_eq (dotted v (codes "root")) (dotted n (codes "root")) ≡ nat_eq v n =
    tells v n (codes "root") (codes "root") (small k (omega arith) (omega arith)) h ∙ same_name v n (codes "root") in
    let more = roots_found T (suc k) bs n (later_small T k (length bs) small) h in
    by_test (nat_eq v n) (λ t. rw (test ∙ t) (rw t refl)) (λ f. rw (test ∙ f) (rw f more))

-- ---- the snapshot's file

abbrev snapshot_files : Option (File Snapshot) → List (Bytes × Bytes)
snapshot_files o = one_file o (λ s. dotted s.version (codes "snapshot"))

abbrev IsSmall : Option (File Snapshot) → Type 0
IsSmall o = IfSome o (λ s. s.body.version ≤ last_number)

snapshot_stamp : (o : Option (File Snapshot)) → IsSmall o → look_up (snapshot_files o) (codes "timestamp.json") ≡ None
snapshot_stamp None small = refl
snapshot_stamp (Some s) small =
    rw (unlike (dotted s.body.version (codes "snapshot")) (codes "timestamp.json") (λ e. no_timestamp s.body.version (codes "snapshot") small (sym e))) refl

snapshot_other : (o : Option (File Snapshot)) (n : ℕ) (a : Bytes) → IsSmall o → n ≤ last_number → (codes "snapshot" ≡ a → ⊥) → look_up (snapshot_files o) (dotted n a) ≡ None
snapshot_other None n a small h none = refl
snapshot_other (Some s) n a small h none =
    rw (tells s.body.version n (codes "snapshot") a small h ∙ other_name s.body.version n (codes "snapshot") a none) refl

snapshot_found : (o : Option (File Snapshot)) (n : ℕ) → IsSmall o → n ≤ last_number
    → look_up (snapshot_files o) (dotted n (codes "snapshot")) ≡ option_and_then (λ s. cond (nat_eq s.body.version n) (Some s.bytes) None) o
snapshot_found None n small h = refl
snapshot_found (Some s) n small h =
    ap (λ (t : Bool). cond t (Some s.bytes) None)
    (tells s.body.version n (codes "snapshot") (codes "snapshot") small h ∙ same_name s.body.version n (codes "snapshot"))

-- ---- the files of the shelf

abbrev shelf_files : Rows → List (Bytes × Bytes)
shelf_files rows = map (λ row. (dotted row.0.1 row.0.0, row.1.bytes)) rows

row_small : (row : Place × File Targets) → IsShelfRow row → row.0.1 ≤ last_number
row_small row h = subst (λ (n : ℕ). n ≤ last_number) h.version h.document.read.body.head.1.2.2

shelf_stamp : (rows : Rows) → All IsShelfRow rows → look_up (shelf_files rows) (codes "timestamp.json") ≡ None
shelf_stamp [] all = refl
shelf_stamp (row ∷ rows) all =
    rw (unlike (dotted row.0.1 row.0.0) (codes "timestamp.json") (λ e. no_timestamp row.0.1 row.0.0 (row_small row (All-head IsShelfRow row rows all)) (sym e)))
    (shelf_stamp rows (All-tail IsShelfRow row rows all))

-- no row is of a role with this name
shelf_other : (rows : Rows) (n : ℕ) (a : Bytes) → All IsShelfRow rows → n ≤ last_number → ((role : Name) → IsListable role → role ≡ a → ⊥)
    → look_up (shelf_files rows) (dotted n a) ≡ None
shelf_other [] n a all h none = refl
shelf_other (row ∷ rows) n a all h none =
    let here = All-head IsShelfRow row rows all in
    rw (tells row.0.1 n row.0.0 a (row_small row here) h ∙ other_name row.0.1 n row.0.0 a (none row.0.0 here.listable))
    (shelf_other rows n a (All-tail IsShelfRow row rows all) h none)

shelf_found : (rows : Rows) (n : ℕ) (a : Bytes) → All IsShelfRow rows → n ≤ last_number
    → look_up (shelf_files rows) (dotted n a) ≡ option_map (λ f. f.bytes) (row_at rows a n)
shelf_found [] n a all h = refl
shelf_found (row ∷ rows) n a all h =
    let test = tells row.0.1 n row.0.0 a (row_small row (All-head IsShelfRow row rows all)) h in
    let more = shelf_found rows n a (All-tail IsShelfRow row rows all) h in
    by_test (same_place row.0 (a, n)) (λ t. rw (test ∙ t) (rw t refl)) (λ f. rw (test ∙ f) (rw f more))

-- ---- all files of a valid state

pub root_small : {bs : List (Profile × Bytes)} {root : File Root} → IsRootChain bs root → root.body.version ≤ last_number
root_small (first {root = root} doc is meets) = doc.read.body.head.1.2.2
root_small (then {new = new} chain doc follows) = doc.read.body.head.1.2.2

roots_small : (T : Trusted) → IsTrusted T → AreSmall T 0 (length T.roots)
roots_small T valid = by_root T.root refl
  where
    by_root : (o : Option (File Root)) → T.root ≡ o → AreSmall T 0 (length T.roots)
    by_root None e j above below =
        let nothing : T ≡ nothing_trusted = subst (λ (o : Option (File Root)). IfNone o (T ≡ nothing_trusted)) e valid.none in
        let none : length T.roots ≡ 0 = ap (λ (U : Trusted). length U.roots) nothing in
        absurd (omega arith)
    by_root (Some root) e j above below =
        let chain : IsHeldUnder T root = subst (λ (o : Option (File Root)). IfSome o (IsHeldUnder T)) e valid.held in
        let most = root_small chain.chain in
        rw e (omega arith)

snapshot_small : (T : Trusted) → IsTrusted T → IsSmall T.snapshot
snapshot_small T valid = by_root T.root refl
  where
    of_held : (P : File Snapshot → Type 0) (o : Option (File Snapshot)) → IfSome o (λ s. IsFileOf snapshot_form s × P s) → IsSmall o
    of_held P None h = tt
    of_held P (Some s) h = h.0.read.body.head.1.2.2

    by_root : (o : Option (File Root)) → T.root ≡ o → IsSmall T.snapshot
    by_root None e =
        let nothing : T ≡ nothing_trusted = subst (λ (o : Option (File Root)). IfNone o (T ≡ nothing_trusted)) e valid.none in
        subst (λ (U : Trusted). IsSmall U.snapshot) (sym nothing) tt
    by_root (Some root) e = of_held _ T.snapshot (subst (λ (o : Option (File Root)). IfSome o (IsHeldUnder T)) e valid.held).snapshot

module _ (T : Trusted) (valid : IsTrusted T) where
  pub timestamp_found : metadata_of T (codes "timestamp.json") ≡ option_map (λ t. t.bytes) T.timestamp
  timestamp_found =
      stamp T.timestamp _
      (found_later (root_files T 0 T.roots) _ (codes "timestamp.json") (roots_stamp T 0 T.roots (roots_small T valid))
      ∙ (found_later (snapshot_files T.snapshot) _ (codes "timestamp.json") (snapshot_stamp T.snapshot (snapshot_small T valid)) ∙ shelf_stamp T.shelf valid.rows))

  pub root_found : (n : ℕ) → n ≤ last_number → metadata_of T (dotted n (codes "root")) ≡ option_map (λ r. r.1) (value_at nat_eq (root_rows T 0 T.roots) n)
  root_found n h =
      under T.timestamp _ n (codes "root") h
      ∙ (alone (root_files T 0 T.roots) _ (dotted n (codes "root"))
      (found_later (snapshot_files T.snapshot) _ (dotted n (codes "root")) (snapshot_other T.snapshot n (codes "root") (snapshot_small T valid) h (λ e. cc))
      ∙ shelf_other T.shelf n (codes "root") valid.rows h (λ role l e. l.0 e))
      ∙ roots_found T 0 T.roots n (roots_small T valid) h)

  pub snapshot_by_version : (n : ℕ) → n ≤ last_number
      → metadata_of T (dotted n (codes "snapshot")) ≡ option_and_then (λ s. cond (nat_eq s.body.version n) (Some s.bytes) None) T.snapshot
  snapshot_by_version n h =
      under T.timestamp _ n (codes "snapshot") h
      ∙ (found_later (root_files T 0 T.roots) _ (dotted n (codes "snapshot")) (roots_other T 0 T.roots n (codes "snapshot") (roots_small T valid) h (λ e. cc))
      ∙ (alone (snapshot_files T.snapshot) _ (dotted n (codes "snapshot")) (shelf_other T.shelf n (codes "snapshot") valid.rows h (λ role l e. l.2 e))
      ∙ snapshot_found T.snapshot n (snapshot_small T valid) h))

  pub role_found : (n : ℕ) (role : Name) → n ≤ last_number → IsListable role → metadata_of T (dotted n role) ≡ option_map (λ f. f.bytes) (row_at T.shelf role n)
  role_found n role h listable =
      under T.timestamp _ n role h
      ∙ (found_later (root_files T 0 T.roots) _ (dotted n role) (roots_other T 0 T.roots n role (roots_small T valid) h (λ e. listable.0 (sym e)))
      ∙ (found_later (snapshot_files T.snapshot) _ (dotted n role) (snapshot_other T.snapshot n role (snapshot_small T valid) h (λ e. listable.2 (sym e)))
      ∙ shelf_found T.shelf n role valid.rows h))
