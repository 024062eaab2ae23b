-- What is kept after more is put there.
use Rattle.std.proofs.Common.{◌≡◌, ℕ, ◌+◌, ◌≤◌, List, [], ◌∷◌, ◌++◌, map, length, Option, Some, None, cond, refl, ap, Bool, true, false, one-add, arith, length-append}
use Rattle.std.specs.List.{insert, position, position_or_len}
use Rattle.std.specs.Prelude.{not, nat_lt, option_map}
use Rattle.std.proofs.lemmas.Bool.{ltb-false}
use Rattle.std.proofs.lemmas.List.Sums.{prefix_len-le-length}
use Rattle.metadata.specs.File.{Bytes, File}
use Rattle.document_parts.specs.Documents.{Profile, Root, Timestamp, Snapshot}
use Rattle.delegations.specs.Delegation.{before}
use Rattle.delegations.specs.Rows.{Rows, with_row}
use Rattle.trust_rules.specs.State.{State, Trusted}
use Rattle.trust_rules.specs.Effects.{last_or, renewed, with_blobs}
use Rattle.delegations.proofs.Walk.{by_test}

-- what is put before the first that is greater stands at its place in the order
pub put_in_order : {A K V : Type 0} (below : K → K → Bool) (f : A → K × V) (xs : List A) (y : A)
    → map f (insert xs (position_or_len (λ x. below (f y).0 (f x).0) xs) y) ≡ with_row below (map f xs) (f y).0 (f y).1
put_in_order below f [] y = refl
put_in_order {A} {K} {V} below f (x ∷ xs) y = by_test (below (f y).0 (f x).0)
    (λ t. rw t refl)
    (λ e. rw (e, one-add) (ap (λ (l : List (K × V)). f x ∷ l) (put_in_order below f xs y)))

pub blobs_more : (blobs more : List (Bytes × Bytes)) (b : Bytes × Bytes) → with_blobs blobs (more ++ b ∷ []) ≡ with_row before (with_blobs blobs more) b.0 b.1
blobs_more blobs [] b = refl
blobs_more blobs (c ∷ more) b = blobs_more (with_row before blobs c.0 c.1) more b

-- the last of the changes, and what is renewed, as seen through f
pub last_seen : {A B : Type 0} (f : A → B) (o : Option A) (xs : List A) → option_map f (last_or o xs) ≡ last_or (option_map f o) (map f xs)
last_seen f o [] = refl
last_seen f o (x ∷ xs) = last_seen f (Some x) xs

pub renewed_seen : {A B : Type 0} (f : A → B) (emptied : Bool) (old new : Option A)
    → option_map f (renewed emptied old new) ≡ renewed emptied (option_map f old) (option_map f new)
renewed_seen f emptied old (Some new) = refl
renewed_seen f true old None = refl
renewed_seen f false old None = refl

pub at_first : {X : Type 0} (p : X → Bool) (xs : List X) (i : ℕ) → position p xs ≡ Some i → i ≡ position_or_len p xs
at_first p xs i h = by_test (nat_lt (position_or_len p xs) (length xs))
    (λ t. let k : Some (position_or_len p xs) ≡ Some i = rw t at h in cc)
    (λ f. let k : None ≡ Some i = rw f at h in cc)

pub at_none : {X : Type 0} (p : X → Bool) (xs : List X) → position p xs ≡ None → length xs ≡ position_or_len p xs
at_none p xs h = by_test (nat_lt (position_or_len p xs) (length xs))
    (λ t. let k : Some (position_or_len p xs) ≡ None = rw t at h in cc)
    (λ f. let low : length xs ≤ position_or_len p xs = ltb-false (position_or_len p xs) (length xs) f in
    let high : position_or_len p xs ≤ length xs = prefix_len-le-length (λ x. not (p x)) xs in
    omega arith)

pub none_before : (a b : Bytes) → length b ≡ 0 → before a b ≡ false
none_before [] [] h = refl
none_before (x ∷ a) [] h = refl
none_before a (y ∷ b) h = absurd (omega arith)

pub room_left : {A : Type 0} (n a b : ℕ) (ys : List A) (y : A) → n ≤ a + length ys → a ≤ b + 1 → n ≤ b + length (ys ++ y ∷ [])
room_left n a b ys y h k = rw (length-append ys (y ∷ [])) (omega arith)

pub map_twice : {A B C : Type 0} (g : B → C) (f : A → B) (xs : List A) → map (λ x. g (f x)) xs ≡ map g (map f xs)
map_twice g f [] = refl
map_twice {A} {B} {C} g f (x ∷ xs) = ap (λ (l : List C). g (f x) ∷ l) (map_twice g f xs)

-- what is trusted, of equal parts
pub same_trusted : (roots roots' : List (Profile × Bytes)) (root root' : Option (File Root)) (stamp stamp' : Option (File Timestamp))
    → (snap snap' : Option (File Snapshot)) (shelf shelf' : Rows)
    → roots ≡ roots' → root ≡ root' → stamp ≡ stamp' → snap ≡ snap' → shelf ≡ shelf'
    → ◌≡◌ {A = Trusted} (record { roots = roots; root = root; timestamp = stamp; snapshot = snap; shelf = shelf })
    (record { roots = roots'; root = root'; timestamp = stamp'; snapshot = snap'; shelf = shelf' })
same_trusted roots roots' root root' stamp stamp' snap snap' shelf shelf' e f g h i = rw (e, f, g, h, i) refl

-- states of equal parts
pub same_state : (roots roots' : List (Profile × Bytes)) (root root' : Option (File Root)) (stamp stamp' : Option (File Timestamp))
    → (snap snap' : Option (File Snapshot)) (shelf shelf' : Rows) (blobs blobs' : List (Bytes × Bytes))
    → roots ≡ roots' → root ≡ root' → stamp ≡ stamp' → snap ≡ snap' → shelf ≡ shelf' → blobs ≡ blobs'
    → ◌≡◌ {A = State} (record { trusted = record { roots = roots; root = root; timestamp = stamp; snapshot = snap; shelf = shelf }; blobs = blobs })
    (record { trusted = record { roots = roots'; root = root'; timestamp = stamp'; snapshot = snap'; shelf = shelf' }; blobs = blobs' })
same_state roots roots' root root' stamp stamp' snap snap' shelf shelf' blobs blobs' e f g h i j =
    let trusted = same_trusted roots roots' root root' stamp stamp' snap snap' shelf shelf' e f g h i in
    λ k. record { trusted = trusted k; blobs = j k }

pub map_emptied : {A B : Type 0} (f : A → B) (emptied : Bool) (xs : List A) → map f (cond emptied [] xs) ≡ cond emptied [] (map f xs)
map_emptied f true xs = refl
map_emptied f false xs = refl
