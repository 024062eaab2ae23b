-- What is spelled is read, whatever follows it that is no digit.
use Rattle.std.proofs.Common.{◌≡◌, ◌≢◌, ℕ, zero, suc, ◌+◌, ◌-◌, ◌*◌, ◌/◌, ◌%◌, ◌<◌, ◌≤◌, ◌⊎◌, inl, inr, ℤ, pos, negsuc, List, [], ◌∷◌, ◌++◌, Bool, true, false, nat_lt, if◌then◌else◌, Option, Some, None, length, codes, refl, sym, ap, ◌∙◌, append_assoc, IsUtf8, arith, ne_eqb, lt-ltb, le-leb, FitsSigned, w64, length-append}
use Rattle.std.proofs.lemmas.Bool.{and_from, cases_lt}
use Rattle.std.proofs.lemmas.Str.{is_utf8-from_IsUtf8}
use Rattle.canonical_json.specs.Json.{Json, null, boolean, integer, text, array, object, Items, no_items, item, Members, no_members, member, names, IsInteger}
use Rattle.canonical_json.specs.Spelling.{spelling, numeral, integer_spelling}
use Rattle.canonical_json.specs.steps.Texts.{closed_text}
use Rattle.canonical_json.specs.steps.Reading.{Outcome, got, bad, reading, as_read, word_at, mark_at, checked_text, utf8_at, is_behind, name_at, is_digit, most, has_room, digits_at, signed, number_at, value_with, more_items, items_at, list_at, more_members, members_at, object_at, value_at}
use Rattle.canonical_json.specs.declared.ReadFault.TheVariants.{NotCanonical}
use Rattle.canonical_json.proofs.TextLaws.{text_again}
use Rattle.canonical_json.proofs.Forms.{items_tail, items_text, items_text_is, members_tail, members_text, members_text_is, member_text, text_closed_is, member_closed_is, Good, GoodItems, GoodMembers, rising_first, Room}
use Rattle.canonical_json.proofs.Sound.{numeral_more, numeral_digit}

-- what follows is no digit
abbrev pub Ends : List ℕ → Type 0
Ends [] = Unit {0}
Ends (b ∷ bs) = is_digit b ≡ false

pub digit_test : (b : ℕ) → 48 ≤ b → b < 58 → is_digit b ≡ true
digit_test b l h = and_from (nat_lt 47 b) (nat_lt b 58) (lt-ltb 47 b (omega arith)) (lt-ltb b 58 h)

pub room_test : (limited minus : Bool) (n : ℕ) → Room limited minus n → has_room limited minus n ≡ true
room_test true minus n r = le-leb n (most minus) (r refl)
room_test false minus n r = refl

pub digits_take : (limited minus : Bool) (n b : ℕ) (bs : List ℕ) → is_digit b ≡ true → has_room limited minus (n * 10 + (b - 48)) ≡ true
    → digits_at limited minus n (b ∷ bs) ≡ digits_at limited minus (n * 10 + (b - 48)) bs
unfolding digits_at
digits_take limited minus n b bs d r = rw (d, r) refl

pub digits_end : (limited minus : Bool) (n : ℕ) (rest : List ℕ) → Ends rest → digits_at limited minus n rest ≡ got n rest
unfolding digits_at
digits_end limited minus n [] h = refl
digits_end limited minus n (b ∷ bs) h = rw h refl

abbrev Runs : Bool → Bool → ℕ → Type 0
Runs limited minus n =
    (f : ℕ) × (t : List ℕ) × (0 < f) × (f < 10) × (numeral n ≡ (48 + f) ∷ t) × ((rest : List ℕ) → digits_at limited minus f (t ++ rest) ≡ digits_at limited minus n rest)

less_room : (limited minus : Bool) (q n : ℕ) → q ≤ n → Room limited minus n → Room limited minus q
less_room limited minus q n l r e = let k = r e in omega arith

runs_on : (limited minus : Bool) (q r n : ℕ) → 0 < q → r < 10 → q * 10 + r ≡ n → Room limited minus n → Runs limited minus q → Runs limited minus n
runs_on limited minus q r n some l e room run =
    let code : 48 + r - 48 ≡ r = omega arith in
    let fits : has_room limited minus (q * 10 + (48 + r - 48)) ≡ true = rw (code, e) (room_test limited minus n room) in
    let taken = λ (rest : List ℕ). digits_take limited minus q (48 + r) rest (digit_test (48 + r) (omega arith) (omega arith)) fits ∙ ap (λ (k : ℕ). digits_at limited minus (q * 10 + k) rest) code
    ∙ ap (λ (k : ℕ). digits_at limited minus k rest) e in (
      run.0,
      run.1 ++ (48 + r) ∷ [],
      run.2,
      run.3,
      ap numeral (sym e) ∙ numeral_more q r some l ∙ ap (λ (xs : List ℕ). xs ++ (48 + r) ∷ []) run.4,
      λ rest. ap (digits_at limited minus run.0) (append_assoc run.1 ((48 + r) ∷ []) rest) ∙ run.5 ((48 + r) ∷ rest) ∙ taken rest,
    )

numeral_run : (limited minus : Bool) (fuel n : ℕ) → n ≤ fuel → 0 < n → Room limited minus n → Runs limited minus n
numeral_run limited minus zero n l h room = absurd (omega arith)
numeral_run limited minus (suc fuel) n l h room = by_size (cases_lt n 10) (numeral_run limited minus fuel (n / 10))
  where
    by_size : (n < 10) ⊎ (10 ≤ n) → (n / 10 ≤ fuel → 0 < n / 10 → Room limited minus (n / 10) → Runs limited minus (n / 10)) → Runs limited minus n
    by_size (inl s) ih = (n, [], h, s, numeral_digit n s, λ rest. refl)
    by_size (inr s) ih = runs_on limited minus (n / 10) (n % 10) n (omega arith) (omega arith) (omega arith) room (ih (omega arith) (omega arith) (less_room limited minus (n / 10) n (omega arith) room))

pub number_again : (limited minus : Bool) (n : ℕ) (rest : List ℕ) → 0 < n → Room limited minus n → Ends rest → number_at limited minus (numeral n ++ rest) ≡ got (integer (signed minus n)) rest
number_again limited minus n rest h room ends =
    let run = numeral_run limited minus n n (omega arith) h room in
    let code : 48 + run.0 - 48 ≡ run.0 = omega arith in
    let digits = run.5 rest ∙ digits_end limited minus n rest ends in
    ap (λ (xs : List ℕ). number_at limited minus (xs ++ rest)) run.4
    ∙ first_digit run.0 run.1 run.2 run.3
    ∙ ap (as_read (λ n. integer (signed minus n))) (ap (λ (k : ℕ). digits_at limited minus k (run.1 ++ rest)) code ∙ digits)
  where
    first_digit : (f : ℕ) (t : List ℕ) → 0 < f → f < 10
        → number_at limited minus ((48 + f) ∷ (t ++ rest)) ≡ as_read (λ n. integer (signed minus n)) (digits_at limited minus (48 + f - 48) (t ++ rest))
    first_digit f t p q = rw (ne_eqb (48 + f) 48 (λ e. omega arith), digit_test (48 + f) (omega arith) (omega arith)) refl

pub value_digit : (limited : Bool) (a o : List ℕ → Outcome Json) (b : ℕ) (bs : List ℕ) → 48 ≤ b → b < 58 → value_with limited a o (b ∷ bs) ≡ number_at limited false (b ∷ bs)
value_digit limited a o b bs l h =
    rw (ne_eqb b 34 (λ e. omega arith), ne_eqb b 91 (λ e. omega arith), ne_eqb b 123 (λ e. omega arith), ne_eqb b 110 (λ e. omega arith), ne_eqb b 116 (λ e. omega arith), ne_eqb b 102 (λ e. omega arith), ne_eqb b 45 (λ e. omega arith)) refl

-- ---- texts

pub utf8_again : (t rest : List ℕ) → IsUtf8 t → utf8_at (closed_text t rest) ≡ got t rest
utf8_again t rest u = ap (checked_text (closed_text t rest)) (text_again t rest) ∙ rw (is_utf8-from_IsUtf8 t u) refl

pub name_again : (before : Option (List ℕ)) (n rest : List ℕ) → IsUtf8 n → is_behind before n ≡ true → name_at before (34 ∷ closed_text n rest) ≡ got n rest
name_again before n rest u h =
    ap (λ (o : Outcome (List ℕ)). reading o (λ m rest2. if is_behind before m then got m rest2 else bad NotCanonical (closed_text n rest))) (utf8_again n rest u) ∙ rw h refl

-- ---- how a value begins

numeral_head : (n : ℕ) → (b : ℕ) × (bs : List ℕ) × (numeral n ≡ b ∷ bs) × (48 ≤ b) × (b < 58)
unfolding numeral
numeral_head zero = (48, [], refl, omega arith, omega arith)
numeral_head (suc n) =
    let run = numeral_run false false (suc n) (suc n) (omega arith) (omega arith) (λ e. cc) in
    (48 + run.0, run.1, run.4, omega arith, omega arith)

pub spelling_head : (v : Json) → (b : ℕ) × (bs : List ℕ) × (spelling v ≡ b ∷ bs) × (b ≢ 93)
spelling_head null = (_, _, refl, λ e. omega arith)
spelling_head (boolean true) = (_, _, refl, λ e. omega arith)
spelling_head (boolean false) = (_, _, refl, λ e. omega arith)
spelling_head (integer (pos n)) = let h = numeral_head n in (h.0, h.1, h.2, λ e. omega arith)
spelling_head (integer (negsuc n)) = (_, _, refl, λ e. omega arith)
spelling_head (text t) = (_, _, refl, λ e. omega arith)
spelling_head (array vs) = (_, _, refl, λ e. omega arith)
spelling_head (object ms) = (_, _, refl, λ e. omega arith)

pub some_length : (v : Json) → 0 < length (spelling v)
some_length v = let h = spelling_head v in let e = ap length h.2 in omega arith

-- ---- values

-- a value that no bracket begins is read alike at each level
pub by_level : (limited : Bool) (levels : ℕ) (bs : List ℕ) (out : Outcome Json) → ((a o : List ℕ → Outcome Json) → value_with limited a o bs ≡ out) → value_at limited levels bs ≡ out
unfolding value_at
by_level limited zero bs out h = h _ _
by_level limited (suc levels) bs out h = h _ _

word_null : (limited : Bool) (levels : ℕ) (rest : List ℕ) → value_at limited levels (codes "null" ++ rest) ≡ got null rest
unfolding word_at
word_null limited levels rest = by_level limited levels _ _ (λ a o. refl)

word_true : (limited : Bool) (levels : ℕ) (rest : List ℕ) → value_at limited levels (codes "true" ++ rest) ≡ got (boolean true) rest
unfolding word_at
word_true limited levels rest = by_level limited levels _ _ (λ a o. refl)

word_false : (limited : Bool) (levels : ℕ) (rest : List ℕ) → value_at limited levels (codes "false" ++ rest) ≡ got (boolean false) rest
unfolding word_at
word_false limited levels rest = by_level limited levels _ _ (λ a o. refl)

text_value_again : (limited : Bool) (levels : ℕ) (t rest : List ℕ) → IsUtf8 t → value_at limited levels (spelling (text t) ++ rest) ≡ got (text t) rest
text_value_again limited levels t rest u =
    by_level limited levels _ _ (λ a o. ap (value_with limited a o) (text_closed_is t rest) ∙ ap (as_read text) (utf8_again t rest u))

integer_again : (limited : Bool) (levels : ℕ) (z : ℤ) (rest : List ℕ) → (limited ≡ true → FitsSigned w64 z) → Ends rest → value_at limited levels (integer_spelling z ++ rest) ≡ got (integer z) rest
unfolding numeral
integer_again limited levels (pos zero) rest fits ends = by_level limited levels _ _ (λ a o. refl)
integer_again limited levels (pos (suc n)) rest fits ends =
    let head = numeral_head (suc n) in
    let room : Room limited false (suc n) = λ l. let k = (fits l).sfits in omega arith in
    by_level limited levels _ _ (λ a o.
    ap (λ (xs : List ℕ). value_with limited a o (xs ++ rest)) head.2 ∙ value_digit limited a o head.0 (head.1 ++ rest) head.3 head.4
    ∙ ap (λ (xs : List ℕ). number_at limited false (xs ++ rest)) (sym head.2) ∙ number_again limited false (suc n) rest (omega arith) room ends)
integer_again limited levels (negsuc n) rest fits ends =
    let room : Room limited true (suc n) = λ l. let k = (fits l).sfits in omega arith in
    by_level limited levels _ _ (λ a o. number_again limited true (suc n) rest (omega arith) room ends)

-- ---- lists and objects

items_step : (p : List ℕ → Outcome Json) (n : ℕ) (v : Json) (vs : Items) (s rest : List ℕ) → 0 < n → p (spelling v ++ s) ≡ got v s → more_items (items_at p (n - 1)) s ≡ got vs rest
    → items_at p n (spelling v ++ s) ≡ got (item v vs) rest
unfolding items_at
items_step p zero v vs s rest h e f = absurd (omega arith)
items_step p (suc m) v vs s rest h e f =
    let less : suc m - 1 ≡ m = omega arith in
    ap (λ (o : Outcome Json). reading o (λ v rest. as_read (item v) (more_items (items_at p m) rest))) e ∙ ap (as_read (item v)) (ap (λ (k : ℕ). more_items (items_at p k) s) (sym less) ∙ f)

members_step : (p : List ℕ → Outcome Json) (before : Option (List ℕ)) (n : ℕ) (k : List ℕ) (v : Json) (ms : Members) (s rest : List ℕ) → 0 < n → IsUtf8 k → is_behind before k ≡ true
    → p (spelling v ++ s) ≡ got v s → more_members (members_at p (Some k) (n - 1)) s ≡ got ms rest → members_at p before n (member_text k v ++ s) ≡ got (member k v ms) rest
unfolding members_at
members_step p before zero k v ms s rest h u b e f = absurd (omega arith)
members_step p before (suc m) k v ms s rest h u b e f =
    let less : suc m - 1 ≡ m = omega arith in
    ap (λ (o : Outcome (List ℕ)). reading o (λ k after. reading (mark_at 58 after) (λ u behind. reading (p behind) (λ v rest. as_read (member k v) (more_members (members_at p (Some k) m) rest)))))
    (ap (name_at before) (member_closed_is k v s) ∙ name_again before k (58 ∷ (spelling v ++ s)) u b)
    ∙ ap (λ (o : Outcome Json). reading o (λ v rest. as_read (member k v) (more_members (members_at p (Some k) m) rest))) e
    ∙ ap (as_read (member k v)) (ap (λ (j : ℕ). more_members (members_at p (Some k) j) s) (sym less) ∙ f)

tail_ends : (vs : Items) (rest : List ℕ) → Ends (items_tail vs ++ rest)
tail_ends no_items rest = refl
tail_ends (item v vs) rest = refl

members_tail_ends : (ms : Members) (rest : List ℕ) → Ends (members_tail ms ++ rest)
members_tail_ends no_members rest = refl
members_tail_ends (member n v ms) rest = refl

pub list_first : (p : List ℕ → Outcome Json) (b : ℕ) (bs : List ℕ) → b ≢ 93 → list_at p (b ∷ bs) ≡ items_at p (suc (suc (length bs))) (b ∷ bs)
list_first p b bs h = rw (ne_eqb b 93 h) refl

abbrev Again : Bool → Json → Type 0
Again limited v = (levels : ℕ) (rest : List ℕ) → Good limited levels v → Ends rest → value_at limited levels (spelling v ++ rest) ≡ got v rest

-- the same, whatever follows
abbrev AgainAlone : Bool → Json → Type 0
AgainAlone limited v = (levels : ℕ) (rest : List ℕ) → Good limited levels v → value_at limited levels (spelling v ++ rest) ≡ got v rest

abbrev ItemsAgain : Bool → Items → Type 0
ItemsAgain limited vs =
    (levels n : ℕ) (rest : List ℕ) → GoodItems limited levels vs → length (items_tail vs) ≤ suc n → more_items (items_at (value_at limited levels) n) (items_tail vs ++ rest) ≡ got vs rest

abbrev MembersAgain : Bool → Members → Type 0
MembersAgain limited ms =
    (levels n : ℕ) (before : List ℕ) (rest : List ℕ) → GoodMembers limited levels (Some before) ms → length (members_tail ms) ≤ suc n
    → more_members (members_at (value_at limited levels) (Some before) n) (members_tail ms ++ rest) ≡ got ms rest

first_items : (limited : Bool) (v : Json) (vs : Items) → Again limited v → ItemsAgain limited vs → (levels n : ℕ) (rest : List ℕ) → GoodItems limited levels (item v vs) → length (items_text (item v vs)) ≤ n
    → items_at (value_at limited levels) n (items_text (item v vs) ++ rest) ≡ got (item v vs) rest
first_items limited v vs one more levels n rest g l =
    let some = some_length v in
    let long = length-append (spelling v) (items_tail vs) in
    ap (items_at (value_at limited levels) n) (append_assoc (spelling v) (items_tail vs) rest)
    ∙ items_step (value_at limited levels) n v vs (items_tail vs ++ rest) rest (omega arith)
    (one levels (items_tail vs ++ rest) (g.0.0, (λ e. (g.1 e).0), (let d = g.2 in omega arith)) (tail_ends vs rest))
    (more levels (n - 1) rest (g.0.1, (λ e. (g.1 e).1), (let d = g.2 in omega arith)) (omega arith))

first_members : (limited : Bool) (k : List ℕ) (v : Json) (ms : Members) → Again limited v → MembersAgain limited ms → (before : Option (List ℕ)) (levels n : ℕ) (rest : List ℕ)
    → GoodMembers limited levels before (member k v ms) → length (members_text (member k v ms)) ≤ n
    → members_at (value_at limited levels) before n (members_text (member k v ms) ++ rest) ≡ got (member k v ms) rest
first_members limited k v ms one more before levels n rest g l =
    let some : 0 < length (member_text k v) = omega arith in
    let long = length-append (member_text k v) (members_tail ms) in
    let order = rising_first before k (names ms) g.4 in
    ap (members_at (value_at limited levels) before n) (append_assoc (member_text k v) (members_tail ms) rest)
    ∙ members_step (value_at limited levels) before n k v ms (members_tail ms ++ rest) rest (omega arith) g.3.0 order.0
    (one levels (members_tail ms ++ rest) (g.0.0, (λ e. (g.1 e).0), (let d = g.2 in omega arith)) (members_tail_ends ms rest))
    (more levels (n - 1) k rest (g.0.1, (λ e. (g.1 e).1), (let d = g.2 in omega arith), g.3.1, order.1) (omega arith))

array_again : (limited : Bool) (vs : Items) → ((levels : ℕ) (rest : List ℕ) → GoodItems limited levels vs → list_at (value_at limited levels) (items_text vs ++ rest) ≡ got vs rest) → AgainAlone limited (array vs)
unfolding value_at
array_again limited vs h zero rest g = absurd (let d = g.2 in omega arith)
array_again limited vs h (suc levels) rest g =
    ap (λ (xs : List ℕ). as_read array (list_at (value_at limited levels) (xs ++ rest))) (items_text_is vs) ∙ ap (as_read array) (h levels rest (g.0.1, (λ e. (g.1 e).1), (let d = g.2 in omega arith)))

object_again : (limited : Bool) (ms : Members) → ((levels : ℕ) (rest : List ℕ) → GoodMembers limited levels None ms → object_at (value_at limited levels) (members_text ms ++ rest) ≡ got ms rest)
    → AgainAlone limited (object ms)
unfolding value_at
object_again limited ms h zero rest g = absurd (let d = g.2 in omega arith)
object_again limited ms h (suc levels) rest g =
    ap (λ (xs : List ℕ). as_read object (object_at (value_at limited levels) (xs ++ rest))) (members_text_is ms)
    ∙ ap (as_read object) (h levels rest (g.0.1, (λ e. (g.1 e).1), (let d = g.2 in omega arith), g.0.0.0, g.0.0.1))

list_whole : (limited : Bool) (v : Json) (vs : Items) → Again limited v → ItemsAgain limited vs → (levels : ℕ) (rest : List ℕ) → GoodItems limited levels (item v vs)
    → list_at (value_at limited levels) (items_text (item v vs) ++ rest) ≡ got (item v vs) rest
list_whole limited v vs one more levels rest g =
    let head = spelling_head v in
    let begins : items_text (item v vs) ++ rest ≡ head.0 ∷ ((head.1 ++ items_tail vs) ++ rest) = ap (λ (xs : List ℕ). (xs ++ items_tail vs) ++ rest) head.2 in
    let long = ap length begins in
    let split = length-append (items_text (item v vs)) rest in
    ap (list_at (value_at limited levels)) begins
    ∙ list_first (value_at limited levels) head.0 ((head.1 ++ items_tail vs) ++ rest) head.3
    ∙ ap (items_at (value_at limited levels) (suc (suc (length ((head.1 ++ items_tail vs) ++ rest))))) (sym begins)
    ∙ first_items limited v vs one more levels (suc (suc (length ((head.1 ++ items_tail vs) ++ rest)))) rest g (omega arith)

object_whole : (limited : Bool) (k : List ℕ) (v : Json) (ms : Members) → Again limited v → MembersAgain limited ms → (levels : ℕ) (rest : List ℕ) → GoodMembers limited levels None (member k v ms)
    → object_at (value_at limited levels) (members_text (member k v ms) ++ rest) ≡ got (member k v ms) rest
object_whole limited k v ms one more levels rest g =
    let split = length-append (members_text (member k v ms)) rest in
    first_members limited k v ms one more None levels _ rest g (omega arith)

mutual
  pub value_again : (limited : Bool) (v : Json) → Again limited v
  value_again limited null levels rest g ends = word_null limited levels rest
  value_again limited (boolean true) levels rest g ends = word_true limited levels rest
  value_again limited (boolean false) levels rest g ends = word_false limited levels rest
  value_again limited (integer z) levels rest g ends = integer_again limited levels z rest g.1 ends
  value_again limited (text t) levels rest g ends = text_value_again limited levels t rest g.0
  value_again limited (array no_items) levels rest g ends = array_again limited no_items (λ levels rest g. refl) levels rest g
  value_again limited (array (item v vs)) levels rest g ends = array_again limited (item v vs) (list_whole limited v vs (value_again limited v) (items_again limited vs)) levels rest g
  value_again limited (object no_members) levels rest g ends = object_again limited no_members (λ levels rest g. refl) levels rest g
  value_again limited (object (member k v ms)) levels rest g ends = object_again limited (member k v ms) (object_whole limited k v ms (value_again limited v) (members_again limited ms)) levels rest g

  items_again : (limited : Bool) (vs : Items) → ItemsAgain limited vs
  items_again limited no_items levels n rest g l = refl
  items_again limited (item v vs) levels n rest g l = first_items limited v vs (value_again limited v) (items_again limited vs) levels n rest g (omega arith)

  members_again : (limited : Bool) (ms : Members) → MembersAgain limited ms
  members_again limited no_members levels n before rest g l = refl
  members_again limited (member k v ms) levels n before rest g l = first_members limited k v ms (value_again limited v) (members_again limited ms) (Some before) levels n rest g (omega arith)

-- only an integer ends where no digit follows: any other value ends by itself
pub value_alone : (limited : Bool) (v : Json) → (IsInteger v → ⊥) → AgainAlone limited v
value_alone limited null other levels rest g = word_null limited levels rest
value_alone limited (boolean true) other levels rest g = word_true limited levels rest
value_alone limited (boolean false) other levels rest g = word_false limited levels rest
value_alone limited (integer z) other levels rest g = absurd (other tt)
value_alone limited (text t) other levels rest g = text_value_again limited levels t rest g.0
value_alone limited (array no_items) other levels rest g = array_again limited no_items (λ levels rest g. refl) levels rest g
value_alone limited (array (item v vs)) other levels rest g = array_again limited (item v vs) (list_whole limited v vs (value_again limited v) (items_again limited vs)) levels rest g
value_alone limited (object no_members) other levels rest g = object_again limited no_members (λ levels rest g. refl) levels rest g
value_alone limited (object (member k v ms)) other levels rest g = object_again limited (member k v ms) (object_whole limited k v ms (value_again limited v) (members_again limited ms)) levels rest g
