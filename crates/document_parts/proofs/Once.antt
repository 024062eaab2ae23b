-- Relations between a JSON value and what it stands for, which give one thing only of a value of the grammar.
use Rattle.std.proofs.Common.{◌≡◌, ℕ, zero, suc, ◌<◌, pos, List, [], ◌∷◌, Some, None, inl, inr, refl, sym, ap, ◌∙◌, subst, arith}
use Rattle.std.specs.List.{AllByRecursion}
use Rattle.std.specs.Ordering.{ordering_reverse}
use Rattle.std.specs.declared.cmp.Ordering.TheVariants.{Less, Greater}
use Rattle.std.proofs.lemmas.Cmp.{nat_list_cmp_total}
use Rattle.hex.specs.Hex.{encode_lower, IsBytes}
use Rattle.hex.proofs.HexLemmas.{decode_of-encode_lower}
use Rattle.canonical_json.specs.Json.{Json, null, boolean, integer, text, array, object, Items, no_items, item, Members, no_members, member, EachItem, EachMember, IsAmong, HasMember, names}
use Rattle.canonical_json.specs.Spelling.{IsBefore, AreRising, IsSound, IsProper}
use Rattle.document_parts.specs.Members.{Has, MayHave, IsArray, IsObject, ItemsAre, MembersAre, IsText, IsNumber}

abbrev pub IsOnce : {A : Type 0} → (Json → A → Type 0) → Type 0
IsOnce {A} R = (v : Json) (a b : A) → IsProper v → R v a → R v b → a ≡ b

-- ---- members

pub not-before : (a : List ℕ) → IsBefore a a → ⊥
not-before a h =
    let e : Less ≡ Greater = sym h ∙ (nat_list_cmp_total.antisymm a a ∙ ap ordering_reverse h) in
    cc

below-among : (n name : List ℕ) (x : Json) (ms : Members) → AreRising (n ∷ names ms) → IsAmong name x ms → IsBefore n name
below-among n name x no_members r k = absurd k
below-among n name x (member m v ms) r (inl k) = subst (λ (z : List ℕ). IsBefore n z) k.0 r.0
below-among n name x (member m v ms) r (inr k) = nat_list_cmp_total.trans n m name r.0 (below-among m name x ms r.1 k)

rising-rest : (n : List ℕ) (ms : Members) → AreRising (n ∷ names ms) → AreRising (names ms)
rising-rest n no_members r = tt
rising-rest n (member m v ms) r = r.1

among-once : (name : List ℕ) (x y : Json) (ms : Members) → AreRising (names ms) → IsAmong name x ms → IsAmong name y ms → x ≡ y
among-once name x y no_members r h k = absurd h
among-once name x y (member n v ms) r (inl h) (inl k) = sym h.1 ∙ k.1
among-once name x y (member n v ms) r (inl h) (inr k) =
    absurd (not-before name (subst (λ (z : List ℕ). IsBefore z name) h.0 (below-among n name y ms r k)))
among-once name x y (member n v ms) r (inr h) (inl k) =
    absurd (not-before name (subst (λ (z : List ℕ). IsBefore z name) k.0 (below-among n name x ms r h)))
among-once name x y (member n v ms) r (inr h) (inr k) = among-once name x y ms (rising-rest n ms r) h k

pub member_once : (v : Json) (name : List ℕ) (x y : Json) → IsProper v → HasMember v name x → HasMember v name y → x ≡ y
member_once (object ms) name x y p h k = among-once name x y ms p.0.1 h k
member_once null name x y p h k = absurd h
member_once (boolean b) name x y p h k = absurd h
member_once (integer z) name x y p h k = absurd h
member_once (text t) name x y p h k = absurd h
member_once (array vs) name x y p h k = absurd h

among-proper : (name : List ℕ) (x : Json) (ms : Members) → EachMember IsSound ms → IsAmong name x ms → IsProper x
among-proper name x no_members p h = absurd h
among-proper name x (member n v ms) p (inl h) = subst (λ (z : Json). IsProper z) h.1 p.0
among-proper name x (member n v ms) p (inr h) = among-proper name x ms p.1 h

pub member_proper : (v : Json) (name : List ℕ) (x : Json) → IsProper v → HasMember v name x → IsProper x
member_proper (object ms) name x p h = among-proper name x ms p.1 h
member_proper null name x p h = absurd h
member_proper (boolean b) name x p h = absurd h
member_proper (integer z) name x p h = absurd h
member_proper (text t) name x p h = absurd h
member_proper (array vs) name x p h = absurd h

-- ---- relations made of others

pub has-once : {A : Type 0} (name : List ℕ) (R : Json → A → Type 0) → IsOnce R → IsOnce (λ v a. Has v name (λ x. R x a))
has-once name R once v a b p (x, h, r) (y, k, s) =
    once x a b (member_proper v name x p h) r (subst (λ (z : Json). R z b) (sym (member_once v name x y p h k)) s)

pub may-once : {A : Type 0} (name : List ℕ) (R : Json → A → Type 0) → IsOnce R → IsOnce (λ v o. MayHave v name R o)
may-once name R once v None None p h k = refl
may-once name R once v None (Some b) p h k = absurd (h k.0 k.1)
may-once name R once v (Some a) None p h k = absurd (k h.0 h.1)
may-once name R once v (Some a) (Some b) p h k = ap (λ z. Some z) (has-once name R once v a b p h k)

items-once : {A : Type 0} (R : Json → A → Type 0) → IsOnce R → (vs : Items) (xs ys : List A) → EachItem IsSound vs → ItemsAre R vs xs → ItemsAre R vs ys → xs ≡ ys
items-once R once no_items [] [] p h k = refl
items-once R once no_items [] (y ∷ ys) p h k = absurd k
items-once R once no_items (x ∷ xs) ys p h k = absurd h
items-once R once (item v vs) [] ys p h k = absurd h
items-once R once (item v vs) (x ∷ xs) [] p h k = absurd k
items-once R once (item v vs) (x ∷ xs) (y ∷ ys) p h k =
    let first = once v x y p.0 h.0 k.0 in
    let rest = items-once R once vs xs ys p.1 h.1 k.1 in
    ap (λ z. z ∷ xs) first ∙ ap (λ zs. y ∷ zs) rest

pub array-once : {A : Type 0} (R : Json → A → Type 0) → IsOnce R → IsOnce (IsArray R)
array-once R once v xs ys p (vs, e, h) (ws, f, k) =
    let both : array vs ≡ array ws = sym e ∙ f in
    let same : vs ≡ ws = cc in
    items-once R once vs xs ys (subst (λ (z : Json). IsProper z) e p).1 h (subst (λ (z : Items). ItemsAre R z ys) (sym same) k)

abbrev pub IsOnceNamed : {A : Type 0} → (List ℕ → Json → A → Type 0) → Type 0
IsOnceNamed {A} R = (n : List ℕ) (v : Json) (a b : A) → IsProper v → R n v a → R n v b → a ≡ b

members-once : {A : Type 0} (R : List ℕ → Json → A → Type 0) → IsOnceNamed R → (ms : Members) (xs ys : List A) → EachMember IsSound ms → MembersAre R ms xs → MembersAre R ms ys → xs ≡ ys
members-once R once no_members [] [] p h k = refl
members-once R once no_members [] (y ∷ ys) p h k = absurd k
members-once R once no_members (x ∷ xs) ys p h k = absurd h
members-once R once (member n v ms) [] ys p h k = absurd h
members-once R once (member n v ms) (x ∷ xs) [] p h k = absurd k
members-once R once (member n v ms) (x ∷ xs) (y ∷ ys) p h k =
    let first = once n v x y p.0 h.0 k.0 in
    let rest = members-once R once ms xs ys p.1 h.1 k.1 in
    ap (λ z. z ∷ xs) first ∙ ap (λ zs. y ∷ zs) rest

pub object-once : {A : Type 0} (R : List ℕ → Json → A → Type 0) → IsOnceNamed R → IsOnce (IsObject R)
object-once R once v xs ys p (ms, e, h) (ns, f, k) =
    let both : object ms ≡ object ns = sym e ∙ f in
    let same : ms ≡ ns = cc in
    members-once R once ms xs ys (subst (λ (z : Json). IsProper z) e p).1 h (subst (λ (z : Members). MembersAre R z ys) (sym same) k)

-- ---- plain parts

pub text-once : IsOnce IsText
text-once v a b p h k =
    let both : text a ≡ text b = sym h ∙ k in
    cc

pub number-once : (low high : ℕ) → IsOnce (IsNumber low high)
number-once low high v a b p h k =
    let both : integer (pos a) ≡ integer (pos b) = sym h.0 ∙ k.0 in
    let inner : pos a ≡ pos b = cc in
    cc

bytes-are : (xs : List ℕ) → AllByRecursion (λ b. b < 256) xs → IsBytes xs
bytes-are [] h i = omega arith
bytes-are (x ∷ xs) h zero = h.0
bytes-are (x ∷ xs) h (suc i) = bytes-are xs h.1 i

pub hex-once : (xs ys : List ℕ) → AllByRecursion (λ b. b < 256) xs → AllByRecursion (λ b. b < 256) ys → encode_lower xs ≡ encode_lower ys → xs ≡ ys
hex-once xs ys p q e =
    let f = sym (decode_of-encode_lower xs (bytes-are xs p)) in
    let g = decode_of-encode_lower ys (bytes-are ys q) in
    cc
