-- What a reader meets: a value with its separators and its closing bracket, from the front on.
use Rattle.std.proofs.Common.{◌≡◌, ℕ, ◌≤◌, length, ap₂, arith, List, [], ◌∷◌, ◌++◌, Bool, true, false, if◌then◌else◌, Option, Some, None, refl, sym, ap, ◌∙◌, append_assoc, flat_map, IsUtf8, Less, Equal, Greater, Ordering}
use Rattle.std.specs.Ordering.{is_lt, nat_cmp}
use Rattle.std.specs.Cmp.Lexicographic.{slice_cmp}
use Rattle.std.specs.List.{AllByRecursion, join_with_byte}
use Rattle.canonical_json.specs.Json.{Json, Items, no_items, item, Members, no_members, member, Everywhere, EachItem, EachMember, depth, items_depth, members_depth, names}
use Rattle.canonical_json.specs.Spelling.{byte_spelling, text_spelling, spelling, item_spellings, member_spellings, AreRising, IsSound, IntegerFits, IsProper, IsAllowed}
use Rattle.canonical_json.specs.steps.Texts.{closed_text}
use Rattle.canonical_json.specs.steps.Reading.{Outcome, got, bad, reading, as_read, is_behind, most}
use Rattle.canonical_json.specs.declared.ReadFault.{ReadFault}

-- ---- the text of a list behind its bracket, and behind one of its values

abbrev pub items_tail : Items → List ℕ
items_tail no_items = 93 ∷ []
items_tail (item v vs) = 44 ∷ (spelling v ++ items_tail vs)

abbrev pub items_text : Items → List ℕ
items_text no_items = 93 ∷ []
items_text (item v vs) = spelling v ++ items_tail vs

pub items_text_is : (vs : Items) → join_with_byte 44 (item_spellings vs) ++ 93 ∷ [] ≡ items_text vs
items_text_is no_items = refl
items_text_is (item v no_items) = refl
items_text_is (item v (item w ws)) =
    append_assoc (spelling v) (44 ∷ join_with_byte 44 (item_spellings (item w ws))) (93 ∷ []) ∙ ap (λ (x : List ℕ). spelling v ++ 44 ∷ x) (items_text_is (item w ws))

abbrev pub member_text : List ℕ → Json → List ℕ
member_text n v = text_spelling n ++ 58 ∷ spelling v

abbrev pub members_tail : Members → List ℕ
members_tail no_members = 125 ∷ []
members_tail (member n v ms) = 44 ∷ (member_text n v ++ members_tail ms)

abbrev pub members_text : Members → List ℕ
members_text no_members = 125 ∷ []
members_text (member n v ms) = member_text n v ++ members_tail ms

pub members_text_is : (ms : Members) → join_with_byte 44 (member_spellings ms) ++ 125 ∷ [] ≡ members_text ms
members_text_is no_members = refl
members_text_is (member n v no_members) = refl
members_text_is (member n v (member m w ms)) =
    append_assoc (member_text n v) (44 ∷ join_with_byte 44 (member_spellings (member m w ms))) (125 ∷ [])
    ∙ ap (λ (x : List ℕ). member_text n v ++ 44 ∷ x) (members_text_is (member m w ms))

pub text_closed_is : (t rest : List ℕ) → text_spelling t ++ rest ≡ 34 ∷ closed_text t rest
text_closed_is t rest = ap (λ (x : List ℕ). 34 ∷ x) (append_assoc (flat_map byte_spelling t) (34 ∷ []) rest)

-- a member and what follows it, from its opening mark on
pub member_closed_is : (n : List ℕ) (v : Json) (rest : List ℕ) → member_text n v ++ rest ≡ 34 ∷ closed_text n (58 ∷ (spelling v ++ rest))
member_closed_is n v rest = append_assoc (text_spelling n) (58 ∷ spelling v) rest ∙ text_closed_is n (58 ∷ (spelling v ++ rest))

-- a member's bytes before its value
abbrev pub member_front : List ℕ → List ℕ
member_front k = 34 ∷ closed_text k (58 ∷ [])

pub member_front_is : (k rest : List ℕ) → member_front k ++ rest ≡ 34 ∷ closed_text k (58 ∷ rest)
member_front_is k rest = ap (λ (xs : List ℕ). 34 ∷ xs) (append_assoc (flat_map byte_spelling k) (34 ∷ 58 ∷ []) rest)

-- ---- what holds of a value that is read

abbrev pub Good : Bool → ℕ → Json → Type 0
Good limited levels v = IsProper v × (limited ≡ true → Everywhere IntegerFits v) × (depth v ≤ levels)

-- within the limits of a canonical text
pub allowed : (v : Json) → Good true 32 v → IsAllowed v
allowed v g = record { proper = g.0; integers = g.1 refl; nesting = g.2 }

pub good : (v : Json) → IsAllowed v → Good true 32 v
good v a = (a.proper, (λ l. a.integers), a.nesting)

abbrev pub GoodItems : Bool → ℕ → Items → Type 0
GoodItems limited levels vs = EachItem IsSound vs × (limited ≡ true → EachItem IntegerFits vs) × (items_depth vs ≤ levels)

abbrev pub IsFull : Items → Type 0
IsFull no_items = ⊥
IsFull (item v vs) = Unit {0}

abbrev pub HasMembers : Members → Type 0
HasMembers no_members = ⊥
HasMembers (member n v ms) = Unit {0}

-- behind a value stands a comma before the next
pub full_tail : (vs : Items) → IsFull vs → items_tail vs ≡ 44 ∷ items_text vs
full_tail no_items h = absurd h
full_tail (item v vs) h = refl

pub full_members_tail : (ms : Members) → HasMembers ms → members_tail ms ≡ 44 ∷ members_text ms
full_members_tail no_members h = absurd h
full_members_tail (member n v ms) h = refl

abbrev pub RisingBehind : Option (List ℕ) → List (List ℕ) → Type 0
RisingBehind None ns = AreRising ns
RisingBehind (Some m) ns = AreRising (m ∷ ns)

abbrev pub GoodMembers : Bool → ℕ → Option (List ℕ) → Members → Type 0
GoodMembers limited levels before ms =
    EachMember IsSound ms × (limited ≡ true → EachMember IntegerFits ms) × (members_depth ms ≤ levels) × AllByRecursion IsUtf8 (names ms) × RisingBehind before (names ms)

less_from_test : (o : Ordering) → is_lt o ≡ true → o ≡ Less
less_from_test Less e = refl
less_from_test Equal e = cc
less_from_test Greater e = cc

pub rising_more : (before : Option (List ℕ)) (k : List ℕ) (ns : List (List ℕ)) → is_behind before k ≡ true → RisingBehind (Some k) ns → RisingBehind before (k ∷ ns)
rising_more None k ns e h = h
rising_more (Some m) k ns e h = (less_from_test (slice_cmp nat_cmp m k) e, h)

test_from_less : (o : Ordering) → o ≡ Less → is_lt o ≡ true
test_from_less o e = ap is_lt e

pub rising_first : (before : Option (List ℕ)) (k : List ℕ) (ns : List (List ℕ)) → RisingBehind before (k ∷ ns) → (is_behind before k ≡ true) × RisingBehind (Some k) ns
rising_first None k ns h = (refl, h)
rising_first (Some m) k ns h = (test_from_less (slice_cmp nat_cmp m k) h.0, h.1)

abbrev pub Room : Bool → Bool → ℕ → Type 0
Room limited minus n = limited ≡ true → n ≤ most minus

-- ---- taking outcomes apart

pub by_test : {A C : Type 0} (t : Bool) (x y r : A) → (if t then x else y) ≡ r → (t ≡ true → x ≡ r → C) → (t ≡ false → y ≡ r → C) → C
by_test true x y r e f g = f refl e
by_test false x y r e f g = g refl e

pub got_parts : {A : Type 0} (x y : A) (s r : List ℕ) → got x s ≡ got y r → (x ≡ y) × (s ≡ r)
got_parts x y s r e = (cc, cc)

pub bad_got : {A : Type 0} (e : ReadFault) (s : List ℕ) (x : A) (r : List ℕ) → bad e s ≡ got x r → ⊥
bad_got e s x r h = cc

pub reading_got : {A B : Type 0} (o : Outcome A) (k : A → List ℕ → Outcome B) (y : B) (r : List ℕ) → reading o k ≡ got y r
    → (x : A) × (s : List ℕ) × (o ≡ got x s) × (k x s ≡ got y r)
reading_got (got x s) k y r e = (x, s, refl, e)
reading_got (bad f s) k y r e = absurd (bad_got f s y r e)

pub as_read_got : {A B : Type 0} (f : A → B) (o : Outcome A) (y : B) (r : List ℕ) → as_read f o ≡ got y r → (x : A) × (o ≡ got x r) × (y ≡ f x)
as_read_got f (got x s) y r e = let p = got_parts (f x) y s r e in (x, ap (got x) p.1, sym p.0)
as_read_got f (bad g s) y r e = absurd (bad_got g s y r e)

-- ---- beginnings

-- of two beginnings of the same bytes the shorter begins the longer
pub shorter_begins : (xs ys more rest : List ℕ) → xs ++ more ≡ ys ++ rest → length xs ≤ length ys → (between : List ℕ) × (ys ≡ xs ++ between) × (more ≡ between ++ rest)
shorter_begins [] ys more rest e h = (ys, refl, e)
shorter_begins (x ∷ xs) [] more rest e h = absurd (omega arith)
shorter_begins (x ∷ xs) (y ∷ ys) more rest e h =
    let head : x ≡ y = cc in
    let tail : xs ++ more ≡ ys ++ rest = cc in
    let b = shorter_begins xs ys more rest tail (omega arith) in
    (b.0, ap₂ (λ (c : ℕ) (zs : List ℕ). c ∷ zs) (sym head) b.1, b.2)
