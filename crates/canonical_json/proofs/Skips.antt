-- A value that is passed over in a canonical text, and a name that is looked for.
use Rattle.std.proofs.Common.{◌≡◌, ◌≢◌, ℕ, zero, suc, ◌+◌, ◌-◌, ◌*◌, ◌/◌, ◌%◌, ◌<◌, ◌≤◌, ◌⊎◌, inl, inr, true, false, ◌==◌, ◌||◌, List, [], ◌∷◌, ◌++◌, length, refl, sym, subst, ◌∙◌, ap, arith, append_assoc, flat_map, Some, None, codes, ℤ, pos, negsuc, ne_eqb, length-append}
use Rattle.std.proofs.lemmas.Bool.{cases_lt}
use Rattle.std.proofs.lemmas.List.{append_cancel_right}
use Rattle.canonical_json.proofs.Sound.{numeral_more, numeral_digit}
use Rattle.canonical_json.specs.Json.{Json, null, boolean, integer, text, array, object, Items, no_items, item, Members, no_members, member, HasMember, IsAmong}
use Rattle.canonical_json.specs.Spelling.{spelling, byte_spelling, member_front, text_spelling, numeral, integer_spelling, IsCanonical}
use Rattle.canonical_json.specs.steps.Texts.{closed_text, text_at}
use Rattle.canonical_json.specs.steps.Skipping.{step_over, step_outside, or_behind, behind_value, EndsWith}
use Rattle.canonical_json.specs.declared.members.Place.{Place}
use Rattle.canonical_json.specs.declared.members.Place.TheVariants.{Outside, InText, BehindSlash}
use Rattle.canonical_json.proofs.TextLaws.{special, text_again, some_pair}
use Rattle.canonical_json.proofs.Forms.{items_tail, items_text_is, members_text, members_tail, members_text_is, member_text, member_closed_is, text_closed_is}

heads : {a b : ℕ} {xs ys : List ℕ} → a ∷ xs ≡ b ∷ ys → a ≡ b
heads e = cc

tails : {a b : ℕ} {xs ys : List ℕ} → a ∷ xs ≡ b ∷ ys → xs ≡ ys
tails e = cc

-- ---- one byte

pub passed : (inside later : ℕ) (place next : Place) (b : ℕ) (bs : List ℕ) → step_over inside place b ≡ Some (next, later) → behind_value inside place (b ∷ bs) ≡ behind_value later next bs
unfolding behind_value
passed inside later place next b bs e = ap (or_behind (b ∷ bs) (λ s. behind_value s.1 s.0 bs)) e

pub stopped : (inside : ℕ) (place : Place) (b : ℕ) (bs : List ℕ) → step_over inside place b ≡ None → behind_value inside place (b ∷ bs) ≡ b ∷ bs
unfolding behind_value
stopped inside place b bs e = ap (or_behind (b ∷ bs) (λ s. behind_value s.1 s.0 bs)) e

pub ended : (inside : ℕ) (place : Place) → behind_value inside place [] ≡ []
unfolding behind_value
ended inside place = refl

pub none_left : (inside : ℕ) (place : Place) (bs : List ℕ) → length bs ≡ 0 → behind_value inside place bs ≡ bs
none_left inside place [] e = ended inside place
none_left inside place (b ∷ bs) e = absurd (omega arith)

-- ---- texts

text_passed : (inside : ℕ) (t rest : List ℕ) → behind_value inside InText (closed_text t rest) ≡ behind_value inside Outside rest
text_passed inside [] rest = passed inside inside InText Outside 34 rest refl
text_passed inside (c ∷ cs) rest = by_kind (special c) (text_passed inside cs rest)
  where
    by_kind : ((c == 34) || (c == 92) ≡ true) ⊎ (((c == 34) || (c == 92) ≡ false) × (c ≢ 34) × (c ≢ 92)) → behind_value inside InText (closed_text cs rest) ≡ behind_value inside Outside rest
        → behind_value inside InText (closed_text (c ∷ cs) rest) ≡ behind_value inside Outside rest
    by_kind (inl e) ih = rw e (passed inside inside InText BehindSlash 92 (c ∷ closed_text cs rest) refl ∙ passed inside inside BehindSlash InText c (closed_text cs rest) refl ∙ ih)
    by_kind (inr e) ih = rw e.0 (passed inside inside InText InText c (closed_text cs rest) (rw (ne_eqb c 34 e.1, ne_eqb c 92 e.2) refl) ∙ ih)

-- ---- bytes that open and close nothing

abbrev IsPlain : ℕ → Type 0
IsPlain b = (b ≢ 34) × (b ≢ 91) × (b ≢ 123) × (b ≢ 93) × (b ≢ 125) × (b ≢ 44)

abbrev ArePlain : List ℕ → Type 0
ArePlain [] = Unit {0}
ArePlain (b ∷ bs) = IsPlain b × ArePlain bs

plain_step : (inside b : ℕ) → IsPlain b → step_outside inside b ≡ Some (Outside, inside)
plain_step inside b p = rw (ne_eqb b 34 p.0, ne_eqb b 91 p.1, ne_eqb b 123 p.2, ne_eqb b 93 p.3, ne_eqb b 125 p.4, ne_eqb b 44 p.5) refl

plain_passed : (inside : ℕ) (bs rest : List ℕ) → ArePlain bs → behind_value inside Outside (bs ++ rest) ≡ behind_value inside Outside rest
plain_passed inside [] rest p = refl
plain_passed inside (b ∷ bs) rest p = passed inside inside Outside Outside b (bs ++ rest) (plain_step inside b p.0) ∙ plain_passed inside bs rest p.1

pub letter : (b : ℕ) → 94 ≤ b → b ≤ 122 → IsPlain b
letter b l h = ((λ e. omega arith), (λ e. omega arith), (λ e. omega arith), (λ e. omega arith), (λ e. omega arith), (λ e. omega arith))

digit_plain : (d : ℕ) → d < 10 → IsPlain (48 + d)
digit_plain d l = ((λ e. omega arith), (λ e. omega arith), (λ e. omega arith), (λ e. omega arith), (λ e. omega arith), (λ e. omega arith))

plain_both : (xs ys : List ℕ) → ArePlain xs → ArePlain ys → ArePlain (xs ++ ys)
plain_both [] ys p q = q
plain_both (x ∷ xs) ys p q = (p.0, plain_both xs ys p.1 q)

numeral_plain : (fuel n : ℕ) → n ≤ fuel → ArePlain (numeral n)
numeral_plain zero n l =
    let small : n < 10 = omega arith in
    subst ArePlain (sym (numeral_digit n small)) (digit_plain n small, tt)
numeral_plain (suc fuel) n l = by_size (cases_lt n 10) (numeral_plain fuel (n / 10))
  where
    by_size : (n < 10) ⊎ (10 ≤ n) → (n / 10 ≤ fuel → ArePlain (numeral (n / 10))) → ArePlain (numeral n)
    by_size (inl small) ih = subst ArePlain (sym (numeral_digit n small)) (digit_plain n small, tt)
    by_size (inr large) ih =
        let parts : n / 10 * 10 + n % 10 ≡ n = omega arith in
        let last : n % 10 < 10 = omega arith in
        subst ArePlain (sym (numeral_more (n / 10) (n % 10) (omega arith) last) ∙ ap numeral parts) (plain_both (numeral (n / 10)) ((48 + n % 10) ∷ []) (ih (omega arith)) (digit_plain (n % 10) last, tt))

integer_plain : (z : ℤ) → ArePlain (integer_spelling z)
integer_plain (pos n) = numeral_plain n n (omega arith)
integer_plain (negsuc n) = (((λ e. omega arith), (λ e. omega arith), (λ e. omega arith), (λ e. omega arith), (λ e. omega arith), (λ e. omega arith)), numeral_plain (suc n) (suc n) (omega arith))

-- ---- brackets and commas

closes : (n inside b : ℕ) → n ≡ inside + 1 → (b ≡ 93) ⊎ (b ≡ 125) → step_outside n b ≡ Some (Outside, inside)
closes n inside b e (inl is) =
    let back : n - 1 ≡ inside = omega arith in
    rw (is, ne_eqb n 0 (λ z. omega arith), back) refl
closes n inside b e (inr is) =
    let back : n - 1 ≡ inside = omega arith in
    rw (is, ne_eqb n 0 (λ z. omega arith), back) refl

comma_inside : (n inside : ℕ) → n ≡ inside + 1 → step_outside n 44 ≡ Some (Outside, n)
comma_inside n inside e = rw (ne_eqb n 0 (λ z. omega arith)) refl

text_outside : (inside : ℕ) (t rest : List ℕ) → behind_value inside Outside (text_spelling t ++ rest) ≡ behind_value inside Outside rest
text_outside inside t rest = ap (behind_value inside Outside) (text_closed_is t rest) ∙ passed inside inside Outside InText 34 (closed_text t rest) refl ∙ text_passed inside t rest

-- ---- values

mutual
  pub value_passed : (v : Json) (inside : ℕ) (rest : List ℕ) → behind_value inside Outside (spelling v ++ rest) ≡ behind_value inside Outside rest
  value_passed null inside rest =
      plain_passed inside (codes "null") rest (letter 110 (omega arith) (omega arith), (letter 117 (omega arith) (omega arith), (letter 108 (omega arith) (omega arith), (letter 108 (omega arith) (omega arith), tt))))
  value_passed (boolean true) inside rest =
      plain_passed inside (codes "true") rest (letter 116 (omega arith) (omega arith), (letter 114 (omega arith) (omega arith), (letter 117 (omega arith) (omega arith), (letter 101 (omega arith) (omega arith), tt))))
  value_passed (boolean false) inside rest =
      plain_passed inside (codes "false") rest (letter 102 (omega arith) (omega arith), (letter 97 (omega arith) (omega arith), (letter 108 (omega arith) (omega arith), (letter 115 (omega arith) (omega arith), (letter 101 (omega arith) (omega arith), tt)))))
  value_passed (integer z) inside rest = plain_passed inside (integer_spelling z) rest (integer_plain z)
  value_passed (text t) inside rest = text_outside inside t rest
  value_passed (array no_items) inside rest =
      passed inside (inside + 1) Outside Outside 91 (93 ∷ rest) refl ∙ passed (inside + 1) inside Outside Outside 93 rest (closes (inside + 1) inside 93 refl (inl refl))
  value_passed (array (item v vs)) inside rest =
      ap (λ (xs : List ℕ). behind_value inside Outside (91 ∷ (xs ++ rest))) (items_text_is (item v vs))
      ∙ passed inside (inside + 1) Outside Outside 91 ((spelling v ++ items_tail vs) ++ rest) refl
      ∙ ap (behind_value (inside + 1) Outside) (append_assoc (spelling v) (items_tail vs) rest)
      ∙ value_passed v (inside + 1) (items_tail vs ++ rest) ∙ items_passed vs (inside + 1) inside refl rest
  value_passed (object no_members) inside rest =
      passed inside (inside + 1) Outside Outside 123 (125 ∷ rest) refl ∙ passed (inside + 1) inside Outside Outside 125 rest (closes (inside + 1) inside 125 refl (inr refl))
  value_passed (object (member n v ms)) inside rest =
      ap (λ (xs : List ℕ). behind_value inside Outside (123 ∷ (xs ++ rest))) (members_text_is (member n v ms))
      ∙ passed inside (inside + 1) Outside Outside 123 ((member_text n v ++ members_tail ms) ++ rest) refl
      ∙ ap (behind_value (inside + 1) Outside) (append_assoc (member_text n v) (members_tail ms) rest ∙ append_assoc (text_spelling n) (58 ∷ spelling v) (members_tail ms ++ rest))
      ∙ text_outside (inside + 1) n (58 ∷ (spelling v ++ (members_tail ms ++ rest)))
      ∙ passed (inside + 1) (inside + 1) Outside Outside 58 (spelling v ++ (members_tail ms ++ rest)) refl
      ∙ value_passed v (inside + 1) (members_tail ms ++ rest) ∙ members_passed ms (inside + 1) inside refl rest

  items_passed : (vs : Items) (n inside : ℕ) → n ≡ inside + 1 → (rest : List ℕ) → behind_value n Outside (items_tail vs ++ rest) ≡ behind_value inside Outside rest
  items_passed no_items n inside e rest = passed n inside Outside Outside 93 rest (closes n inside 93 e (inl refl))
  items_passed (item v vs) n inside e rest =
      passed n n Outside Outside 44 ((spelling v ++ items_tail vs) ++ rest) (comma_inside n inside e)
      ∙ ap (behind_value n Outside) (append_assoc (spelling v) (items_tail vs) rest)
      ∙ value_passed v n (items_tail vs ++ rest) ∙ items_passed vs n inside e rest

  members_passed : (ms : Members) (n inside : ℕ) → n ≡ inside + 1 → (rest : List ℕ) → behind_value n Outside (members_tail ms ++ rest) ≡ behind_value inside Outside rest
  members_passed no_members n inside e rest = passed n inside Outside Outside 125 rest (closes n inside 125 e (inr refl))
  members_passed (member m v ms) n inside e rest =
      passed n n Outside Outside 44 ((member_text m v ++ members_tail ms) ++ rest) (comma_inside n inside e)
      ∙ ap (behind_value n Outside) (append_assoc (member_text m v) (members_tail ms) rest ∙ append_assoc (text_spelling m) (58 ∷ spelling v) (members_tail ms ++ rest))
      ∙ text_outside n m (58 ∷ (spelling v ++ (members_tail ms ++ rest)))
      ∙ passed n n Outside Outside 58 (spelling v ++ (members_tail ms ++ rest)) refl
      ∙ value_passed v n (members_tail ms ++ rest) ∙ members_passed ms n inside e rest

-- ---- a name

-- what is left of a name, its closing mark and the colon
abbrev pub front_left : List ℕ → List ℕ
front_left left = flat_map byte_spelling left ++ 34 ∷ 58 ∷ []

-- where the front of a member is that of this name, the member is of this name
pub same_name : (n name : List ℕ) (v : Json) (tail value : List ℕ) → member_text n v ++ tail ≡ member_front name ++ value → (n ≡ name) × (value ≡ spelling v ++ tail)
same_name n name v tail value e =
    let one = text_again n (58 ∷ (spelling v ++ tail)) in
    let two = text_again name (58 ∷ value) in
    let texts : 34 ∷ closed_text n (58 ∷ (spelling v ++ tail)) ≡ 34 ∷ closed_text name (58 ∷ value) =
    sym (member_closed_is n v tail) ∙ e ∙ append_assoc (text_spelling name) (58 ∷ []) value ∙ text_closed_is name (58 ∷ value) in
    let same : closed_text n (58 ∷ (spelling v ++ tail)) ≡ closed_text name (58 ∷ value) = tails texts in
    let both = some_pair n (58 ∷ (spelling v ++ tail)) name (58 ∷ value) (sym one ∙ ap text_at same ∙ two) in
    (both.0, sym (tails both.1))

pub name_front : (name : List ℕ) (v : Json) (tail : List ℕ) → member_text name v ++ tail ≡ member_front name ++ (spelling v ++ tail)
name_front name v tail = append_assoc (text_spelling name) (58 ∷ spelling v) tail ∙ sym (append_assoc (text_spelling name) (58 ∷ []) (spelling v ++ tail))

-- ---- an object

-- what stands behind a value of a member
tail_stays : (ms : Members) → behind_value 0 Outside (members_tail ms) ≡ members_tail ms
tail_stays no_members = stopped 0 Outside 125 [] refl
tail_stays (member n v ms) = stopped 0 Outside 44 (member_text n v ++ members_tail ms) refl

pub behind_found : (v : Json) (ms : Members) → behind_value 0 Outside (spelling v ++ members_tail ms) ≡ members_tail ms
behind_found v ms = value_passed v 0 (members_tail ms) ∙ tail_stays ms

pub behind_member : (n : List ℕ) (v : Json) (ms : Members) → behind_value 0 Outside (members_text (member n v ms)) ≡ members_tail ms
behind_member n v ms =
    ap (behind_value 0 Outside) (append_assoc (text_spelling n) (58 ∷ spelling v) (members_tail ms)) ∙ text_outside 0 n (58 ∷ (spelling v ++ members_tail ms))
    ∙ passed 0 0 Outside Outside 58 (spelling v ++ members_tail ms) refl ∙ behind_found v ms

-- the members that are left of an object, at whose text the search stands: any of that name is among them
pub record IsLeft (v : Json) (name at : List ℕ) : Type 0 where
  pub members : Members
  pub text : at ≡ members_text members
  pub all : (x : Json) → HasMember v name x → IsAmong name x members
  pub only : (x : Json) → IsAmong name x members → HasMember v name x

first_byte : (n : ℕ) (b : ℕ) (bs : List ℕ) → numeral n ≡ b ∷ bs → (b ≡ 123) → ⊥
first_byte n b bs e is = let p = subst ArePlain e (numeral_plain n n (omega arith)) in p.0.2 is

other_first : {A : Type 0} (b : ℕ) (bs at bytes : List ℕ) → b ≢ 123 → bytes ≡ b ∷ bs → bytes ≡ 123 ∷ at → A
other_first b bs at bytes n s e = absurd (n (heads (sym s ∙ e)))

-- behind its brace, all members of an object are left
pub all_left : (v : Json) (bytes name at : List ℕ) → IsCanonical v bytes → bytes ≡ 123 ∷ at → IsLeft v name at
all_left null bytes name at c e = other_first 110 _ at bytes (λ z. omega arith) c.spelled e
all_left (boolean true) bytes name at c e = other_first 116 _ at bytes (λ z. omega arith) c.spelled e
all_left (boolean false) bytes name at c e = other_first 102 _ at bytes (λ z. omega arith) c.spelled e
all_left (integer (pos n)) bytes name at c e = absurd (first_byte n 123 at (sym c.spelled ∙ e) refl)
all_left (integer (negsuc n)) bytes name at c e = other_first 45 _ at bytes (λ z. omega arith) c.spelled e
all_left (text t) bytes name at c e = other_first 34 _ at bytes (λ z. omega arith) c.spelled e
all_left (array vs) bytes name at c e = other_first 91 _ at bytes (λ z. omega arith) c.spelled e
all_left (object ms) bytes name at c e = record {
  members = ms;
  text = tails (sym e ∙ c.spelled ∙ ap (λ (xs : List ℕ). 123 ∷ xs) (members_text_is ms));
  all = λ x h. h;
  only = λ x h. h;
}

-- only an object has a member
pub brace_first : (v x : Json) (bytes name : List ℕ) → IsCanonical v bytes → HasMember v name x → (at : List ℕ) × (bytes ≡ 123 ∷ at)
brace_first (object ms) x bytes name c h = (_, c.spelled)
brace_first null x bytes name c h = absurd h
brace_first (boolean b) x bytes name c h = absurd h
brace_first (integer z) x bytes name c h = absurd h
brace_first (text t) x bytes name c h = absurd h
brace_first (array vs) x bytes name c h = absurd h

abbrev IsOther : List ℕ → List ℕ → Type 0
IsOther name at = (rest : List ℕ) → at ≡ member_front name ++ rest → ⊥

abbrev Finds : Json → List ℕ → Members → Type 0
Finds v name ms = ((x : Json) → HasMember v name x → IsAmong name x ms) × ((x : Json) → IsAmong name x ms → HasMember v name x)

brace_apart : (a b : ℕ) → a ≡ 44 → b ≡ 125 → a ≡ b → ⊥
brace_apart a b e f h = omega arith

brace_or_comma : (next at behind : List ℕ) → behind ≡ behind_value 0 Outside at → behind ≡ 44 ∷ next → behind_value 0 Outside at ≡ 125 ∷ [] → ⊥
brace_or_comma next at behind b e t = brace_apart 44 125 refl refl (heads (sym e ∙ b ∙ t))

not_this : (name n at : List ℕ) (x y : Json) (ms : Members) → IsOther name at → at ≡ members_text (member n x ms) → IsAmong name y (member n x ms) → IsAmong name y ms
not_this name n at x y ms other t (inl p) = absurd (other (spelling x ++ members_tail ms) (t ∙ ap (λ k. members_text (member k x ms)) p.0 ∙ name_front name x (members_tail ms)))
not_this name n at x y ms other t (inr p) = p

left_behind : (v x y : Json) (name n m at behind next : List ℕ) (ms : Members) → IsOther name at → behind ≡ behind_value 0 Outside at → behind ≡ 44 ∷ next
    → at ≡ members_text (member n x (member m y ms)) → Finds v name (member n x (member m y ms)) → IsLeft v name next
left_behind v x y name n m at behind next ms other b e t finds = record {
  members = member m y ms;
  text = tails (sym e ∙ b ∙ ap (behind_value 0 Outside) t ∙ behind_member n x (member m y ms));
  all = λ z has. not_this name n at x z (member m y ms) other t (finds.0 z has);
  only = λ z among. finds.1 z (inr among);
}

left_among : (v : Json) (name at behind next : List ℕ) (ms : Members) → IsOther name at → behind ≡ behind_value 0 Outside at → behind ≡ 44 ∷ next → at ≡ members_text ms → Finds v name ms → IsLeft v name next
left_among v name at behind next no_members other b e t finds = absurd (brace_or_comma next at behind b e (ap (behind_value 0 Outside) t ∙ stopped 0 Outside 125 [] refl))
left_among v name at behind next (member n x no_members) other b e t finds = absurd (brace_or_comma next at behind b e (ap (behind_value 0 Outside) t ∙ behind_member n x no_members))
left_among v name at behind next (member n x (member m y ms)) other b e t finds = left_behind v x y name n m at behind next ms other b e t finds

-- the member at the front is of another name
pub next_left : (v : Json) (name at behind next : List ℕ) → IsLeft v name at → ((rest : List ℕ) → at ≡ member_front name ++ rest → ⊥) → behind ≡ behind_value 0 Outside at → behind ≡ 44 ∷ next
    → IsLeft v name next
next_left v name at behind next l other b e = left_among v name at behind next l.members other b e l.text (l.all, l.only)

among_none : (x : Json) (name at behind : List ℕ) (ms : Members) → IsOther name at → behind ≡ behind_value 0 Outside at → ((next : List ℕ) → behind ≡ 44 ∷ next → ⊥) → at ≡ members_text ms → IsAmong name x ms → ⊥
among_none x name at behind no_members other b end t among = among
among_none x name at behind (member n y no_members) other b end t among = not_this name n at y x no_members other t among
among_none x name at behind (member n y (member m z ms)) other b end t among = end (members_text (member m z ms)) (b ∙ ap (behind_value 0 Outside) t ∙ behind_member n y (member m z ms))

-- no member follows the one at the front, which is of another name
pub none_behind : (v x : Json) (name at behind : List ℕ) → IsLeft v name at → ((rest : List ℕ) → at ≡ member_front name ++ rest → ⊥) → behind ≡ behind_value 0 Outside at
    → ((next : List ℕ) → behind ≡ 44 ∷ next → ⊥) → HasMember v name x → ⊥
none_behind v x name at behind l other b end has = among_none x name at behind l.members other b end l.text (l.all x has)

found_among : (v : Json) (name at value found : List ℕ) (ms : Members) → at ≡ member_front name ++ value → value ≡ found ++ behind_value 0 Outside value → at ≡ members_text ms
    → ((x : Json) → IsAmong name x ms → HasMember v name x) → (x : Json) × HasMember v name x × (found ≡ spelling x)
found_among v name at value found no_members front part t only = absurd (let h : 125 ≡ 34 = heads (sym t ∙ front) in omega arith)
found_among v name at value found (member n x ms) front part t only =
    let same = same_name n name x (members_tail ms) value (sym t ∙ front) in
    let cut = ap (behind_value 0 Outside) same.1 ∙ behind_found x ms in
    (x, only x (inl (same.0, refl)), append_cancel_right found (spelling x) (members_tail ms) (ap (λ (xs : List ℕ). found ++ xs) (sym cut) ∙ sym part ∙ same.1))

-- the member at the front is of this name
pub found_here : (v : Json) (name at value found : List ℕ) → IsLeft v name at → at ≡ member_front name ++ value → value ≡ found ++ behind_value 0 Outside value
    → (x : Json) × HasMember v name x × (found ≡ spelling x)
found_here v name at value found l front part = found_among v name at value found l.members front part l.text l.only

-- ---- the end of bytes, and what stands behind its first byte

pub more_behind : (bytes at behind : List ℕ) (b : ℕ) (next : List ℕ) → EndsWith bytes at → EndsWith at behind → behind ≡ b ∷ next → EndsWith bytes next
more_behind bytes at behind b next f g e = (
  f.0 ++ (g.0 ++ b ∷ []),
  f.1 ∙ ap (λ (xs : List ℕ). f.0 ++ xs) (g.1 ∙ ap (λ (xs : List ℕ). g.0 ++ xs) e ∙ sym (append_assoc g.0 (b ∷ []) next)) ∙ sym (append_assoc f.0 (g.0 ++ b ∷ []) next),
)

pub shorter_behind : (at behind : List ℕ) (b : ℕ) (next : List ℕ) → EndsWith at behind → behind ≡ b ∷ next → length next < length at
shorter_behind at behind b next g e =
    let all = ap length g.1 ∙ length-append g.0 behind in
    let one = ap length e in
    omega arith
