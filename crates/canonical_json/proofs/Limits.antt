-- Where the reader stops at a limit: what stands before that place may go on to a text within the limits, and with
-- the byte there only to a text beyond them; and whatever follows, the reader stops there.
use Rattle.std.proofs.Common.{◌≡◌, ◌≢◌, ℕ, ◌+◌, ◌-◌, ◌*◌, ◌<◌, ◌≤◌, ◌⊎◌, inl, inr, List, [], ◌∷◌, ◌++◌, Bool, true, false, ◌==◌, Option, Some, None, length, codes, refl, sym, subst, ap, ap₂, ◌∙◌, append_assoc, append-nil, arith, eqb-true}
use Rattle.std.proofs.lemmas.Bool.{eqb-false}
use Rattle.std.specs.Str.{is_utf8}
use Rattle.canonical_json.specs.Json.{Json, null, boolean, integer, text}
use Rattle.canonical_json.specs.Spelling.{spelling, numeral, IsProper}
use Rattle.canonical_json.specs.steps.Texts.{text_at}
use Rattle.canonical_json.specs.Faults.{IsOpening, IsDigit}
use Rattle.canonical_json.specs.steps.Reading.{Outcome, got, bad, reading, as_read, word_at, mark_at, checked_text, utf8_at, is_behind, name_at, is_digit, has_room, digits_at, signed, number_at, value_with}
use Rattle.canonical_json.specs.declared.ReadFault.{ReadFault}
use Rattle.canonical_json.specs.declared.ReadFault.TheVariants.{NotCanonical, TooDeep, IntegerRange, OutOfMemory}
use Rattle.canonical_json.proofs.Forms.{Good, Room, by_test}
use Rattle.canonical_json.proofs.Sound.{numeral_more, numeral_digit, digit_range, sign_bytes, signed_spelling, signed_fits, small_room, room_from}
use Rattle.canonical_json.proofs.Complete.{digit_test, digits_take, value_digit}

-- the byte at which a limit is met
abbrev pub LimitByte : ReadFault → ℕ → Type 0
LimitByte TooDeep c = IsOpening c
LimitByte IntegerRange c = IsDigit c
LimitByte NotCanonical c = ⊥
LimitByte OutOfMemory c = ⊥

-- the bytes begin one of these texts, and so do the bytes with that byte behind them
abbrev pub Front : {A : Type 0} → (A → Type 0) → (A → List ℕ) → List ℕ → Type 0
Front P spelled front = (v : _) × (more : List ℕ) × P v × (front ++ more ≡ spelled v)

abbrev pub FrontWith : {A : Type 0} → (A → Type 0) → (A → List ℕ) → List ℕ → ℕ → Type 0
FrontWith P spelled front c = (v : _) × (more : List ℕ) × P v × (front ++ c ∷ more ≡ spelled v)

-- the bytes up to the limit, and what holds of them and of the byte there
pub record Limit (Holds : List ℕ → ℕ → Type 0) (e : ReadFault) (bs rest : List ℕ) : Type 0 where
  pub front : List ℕ
  pub c : ℕ
  pub behind : List ℕ
  pub ends : rest ≡ c ∷ behind
  pub splits : bs ≡ front ++ c ∷ behind
  pub byte : LimitByte e c
  pub holds : Holds front c

abbrev pub Stays : {A : Type 0} → (List ℕ → Outcome A) → ReadFault → List ℕ → ℕ → Type 0
Stays p e front c = (more : List ℕ) → p (front ++ c ∷ more) ≡ bad e (c ∷ more)

-- the same for a reader with a bound on its turns that is no less than the count of the bytes
abbrev pub StaysWithin : {A : Type 0} → (ℕ → List ℕ → Outcome A) → ReadFault → List ℕ → ℕ → Type 0
StaysWithin p e front c = (n : ℕ) (more : List ℕ) → length (front ++ c ∷ more) ≤ n → p n (front ++ c ∷ more) ≡ bad e (c ∷ more)

pub record ValueHolds (p : List ℕ → Outcome Json) (levels : ℕ) (e : ReadFault) (front : List ℕ) (c : ℕ) : Type 0 where
  pub stays : Stays p e front c
  pub can : Front (Good true levels) spelling front
  pub beyond : FrontWith IsProper spelling front c

-- behind bytes that were read before
pub limit_on : (H K : List ℕ → ℕ → Type 0) (e : ReadFault) (pre bs whole rest : List ℕ) → whole ≡ pre ++ bs
    → ((front : List ℕ) (c : ℕ) (behind : List ℕ) → LimitByte e c → bs ≡ front ++ c ∷ behind → H front c → K (pre ++ front) c) → Limit H e bs rest → Limit K e whole rest
limit_on H K e pre bs whole rest split h l =
    record {
      front = pre ++ l.front;
      c = l.c;
      behind = l.behind;
      ends = l.ends;
      splits = split ∙ ap (λ (xs : List ℕ). pre ++ xs) l.splits ∙ sym (append_assoc pre l.front (l.c ∷ l.behind));
      byte = l.byte;
      holds = h l.front l.c l.behind l.byte l.splits l.holds;
    }

-- ---- taking outcomes apart

pub bad_parts : {A : Type 0} (e f : ReadFault) (r s : List ℕ) → ◌≡◌ {A = Outcome A} (bad e r) (bad f s) → (e ≡ f) × (r ≡ s)
bad_parts e f r s h = (cc, cc)

pub got_bad : {A : Type 0} (x : A) (r : List ℕ) (e : ReadFault) (s : List ℕ) → got x r ≡ bad e s → ⊥
got_bad x r e s h = cc

pub no_limit : {A : Type 0} (s : List ℕ) (e : ReadFault) (rest : List ℕ) → e ≢ NotCanonical → ◌≡◌ {A = Outcome A} (bad NotCanonical s) (bad e rest) → ⊥
no_limit s e rest limit h = limit (sym (bad_parts NotCanonical e s rest h).0)

pub reading_bad : {A B : Type 0} (o : Outcome A) (k : A → List ℕ → Outcome B) (e : ReadFault) (r : List ℕ) → reading o k ≡ bad e r
    → (o ≡ bad e r) ⊎ ((x : A) × (s : List ℕ) × (o ≡ got x s) × (k x s ≡ bad e r))
reading_bad (got x s) k e r h = inr (x, s, refl, h)
reading_bad (bad f s) k e r h = let p = bad_parts f e s r h in inl (ap₂ bad p.0 p.1)

pub as_read_bad : {A B : Type 0} (f : A → B) (o : Outcome A) (e : ReadFault) (r : List ℕ) → as_read f o ≡ bad e r → o ≡ bad e r
as_read_bad f (got x s) e r h = absurd (got_bad (f x) s e r h)
as_read_bad f (bad g s) e r h = let p = bad_parts g e s r h in ap₂ bad p.0 p.1

-- ---- what stops at no limit

abbrev pub Never : {A : Type 0} → (List ℕ → Outcome A) → Type 0
Never p = (bs : List ℕ) (e : ReadFault) (rest : List ℕ) → e ≢ NotCanonical → p bs ≡ bad e rest → ⊥

word_never : (v : Json) (ws : List ℕ) → Never (word_at v ws)
unfolding word_at
word_never v [] bs e rest limit h = got_bad v bs e rest h
word_never v (w ∷ ws) [] e rest limit h = no_limit [] e rest limit h
word_never v (w ∷ ws) (b ∷ bs) e rest limit h = by_test (b == w) _ _ _ h (λ t f. word_never v ws bs e rest limit f) (λ t f. no_limit (b ∷ bs) e rest limit f)

pub mark_never : (c : ℕ) → Never (mark_at c)
mark_never c [] e rest limit h = no_limit [] e rest limit h
mark_never c (b ∷ bs) e rest limit h = by_test (b == c) _ _ _ h (λ t f. got_bad tt bs e rest f) (λ t f. no_limit (b ∷ bs) e rest limit f)

checked_never : (bs : List ℕ) (o : Option (List ℕ × List ℕ)) (e : ReadFault) (rest : List ℕ) → e ≢ NotCanonical → checked_text bs o ≡ bad e rest → ⊥
checked_never bs None e rest limit h = no_limit bs e rest limit h
checked_never bs (Some r) e rest limit h = by_test (is_utf8 r.0) _ _ _ h (λ t f. got_bad r.0 r.1 e rest f) (λ t f. no_limit bs e rest limit f)

utf8_never : Never utf8_at
utf8_never bs e rest limit h = checked_never bs (text_at bs) e rest limit h

pub name_never : (before : Option (List ℕ)) → Never (name_at before)
name_never before bs e rest limit h =
    elim (reading_bad (mark_at 34 bs) _ e rest h) as (λ s. ⊥) [
      | inl f ↦ mark_never 34 bs e rest limit f
      | inr a ↦ elim (reading_bad (utf8_at a.1) _ e rest a.3) as (λ s. ⊥) [
        | inl f ↦ utf8_never a.1 e rest limit f
        | inr n ↦ by_test (is_behind before n.0) _ _ _ n.3 (λ t f. got_bad n.0 n.1 e rest f) (λ t f. no_limit a.1 e rest limit f)
      ]
    ]

-- ---- integers

-- what the digits so far hold, behind the digits that make n
record DigitsHold (minus : Bool) (n : ℕ) (e : ReadFault) (front : List ℕ) (c : ℕ) : Type 0 where
  pub stays : Stays (digits_at true minus n) e front c
  pub number : ℕ
  pub some : 0 < number
  pub room : Room true minus number
  pub spelled : numeral n ++ front ≡ numeral number
  pub digit : IsDigit c

numeral_with : (n b : ℕ) → 0 < n → is_digit b ≡ true → numeral (n * 10 + (b - 48)) ≡ numeral n ++ b ∷ []
numeral_with n b some d =
    let r = digit_range b d in
    let back : 48 + (b - 48) ≡ b = omega arith in
    numeral_more n (b - 48) some (omega arith) ∙ ap (λ (c : ℕ). numeral n ++ c ∷ []) back

digits_beyond : (minus : Bool) (n b : ℕ) (bs : List ℕ) → is_digit b ≡ true → has_room true minus (n * 10 + (b - 48)) ≡ false → digits_at true minus n (b ∷ bs) ≡ bad IntegerRange (b ∷ bs)
unfolding digits_at
digits_beyond minus n b bs d r = rw (d, r) refl

digits_limit : (minus : Bool) (n : ℕ) (bs : List ℕ) (e : ReadFault) (rest : List ℕ) → 0 < n → Room true minus n → digits_at true minus n bs ≡ bad e rest
    → Limit (DigitsHold minus n e) e bs rest
unfolding digits_at
digits_limit minus n [] e rest some room h = absurd (got_bad n [] e rest h)
digits_limit minus n (b ∷ bs) e rest some room h =
    by_test (is_digit b) _ _ _ h
    (λ d f. by_test (has_room true minus (n * 10 + (b - 48))) _ _ _ f
    (λ r g. let range = digit_range b d in
    limit_on (DigitsHold minus (n * 10 + (b - 48)) e) (DigitsHold minus n e) e (b ∷ []) bs (b ∷ bs) rest refl
    (λ front c behind byte splits k. record {
      stays = λ more. digits_take true minus n b (front ++ c ∷ more) d r ∙ k.stays more;
      number = k.number;
      some = k.some;
      room = k.room;
      spelled = sym (ap (λ (xs : List ℕ). xs ++ front) (numeral_with n b some d) ∙ append_assoc (numeral n) (b ∷ []) front) ∙ k.spelled;
      digit = k.digit;
    })
    (digits_limit minus (n * 10 + (b - 48)) bs e rest (omega arith) (room_from true minus _ r) g))
    (λ r g. let range = digit_range b d in
    let p = bad_parts IntegerRange e (b ∷ bs) rest g in
    subst (λ (x : ReadFault). Limit (DigitsHold minus n x) x (b ∷ bs) rest) p.0 (record {
      front = [];
      c = b;
      behind = bs;
      ends = sym p.1;
      splits = refl;
      byte = (range.0, omega arith);
      holds = record {
        stays = λ more. digits_beyond minus n b more d r;
        number = n;
        some = some;
        room = room;
        spelled = append-nil (numeral n);
        digit = (range.0, omega arith);
      };
    })))
    (λ d f. absurd (got_bad n (b ∷ bs) e rest f))

-- the same behind a sign, with the first digit
record NumberHolds (minus : Bool) (levels : ℕ) (e : ReadFault) (front : List ℕ) (c : ℕ) : Type 0 where
  pub stays : Stays (number_at true minus) e front c
  pub first : ℕ
  pub later : List ℕ
  pub begins : front ≡ first ∷ later
  pub low : 48 ≤ first
  pub high : first < 58
  pub can : Front (Good true levels) spelling (sign_bytes minus ++ front)
  pub beyond : FrontWith IsProper spelling (sign_bytes minus ++ front) c

number_first : (minus : Bool) (b : ℕ) (bs : List ℕ) → b == 48 ≡ false → is_digit b ≡ true → number_at true minus (b ∷ bs) ≡ as_read (λ n. integer (signed minus n)) (digits_at true minus (b - 48) bs)
number_first minus b bs z d = rw (z, d) refl

number_holds : (minus : Bool) (levels : ℕ) (e : ReadFault) (b : ℕ) (front : List ℕ) (c : ℕ) → b == 48 ≡ false → is_digit b ≡ true → DigitsHold minus (b - 48) e front c → NumberHolds minus levels e (b ∷ front) c
number_holds minus levels e b front c z d k =
    let range = digit_range b d in
    let back : 48 + (b - 48) ≡ b = omega arith in
    let digits : b ∷ front ≡ numeral k.number =
    ap (λ (x : ℕ). x ∷ front) (sym back) ∙ ap (λ (xs : List ℕ). xs ++ front) (sym (numeral_digit (b - 48) (omega arith))) ∙ k.spelled in
    let low = k.digit.0 in
    let high = k.digit.1 in
    let next = k.number * 10 + (c - 48) in
    let some : 0 < next = let s = k.some in omega arith in
    record {
      stays = λ more. number_first minus b (front ++ c ∷ more) z d ∙ ap (as_read (λ n. integer (signed minus n))) (k.stays more);
      first = b;
      later = front;
      begins = refl;
      low = range.0;
      high = range.1;
      can = (
        integer (signed minus k.number),
        [],
        (tt, signed_fits true minus k.number k.some k.room, omega arith),
        append-nil (sign_bytes minus ++ b ∷ front) ∙ ap (λ (xs : List ℕ). sign_bytes minus ++ xs) digits ∙ sym (signed_spelling minus k.number k.some),
      );
      beyond = (
        integer (signed minus next),
        [],
        tt,
        append_assoc (sign_bytes minus) (b ∷ front) (c ∷ [])
            ∙ ap (λ (xs : List ℕ). sign_bytes minus ++ (xs ++ c ∷ [])) digits
            ∙ ap (λ (xs : List ℕ). sign_bytes minus ++ xs) (sym (numeral_with k.number c k.some (digit_test c low (omega arith))))
            ∙ sym (signed_spelling minus next some),
      );
    }

number_limit : (minus : Bool) (levels : ℕ) (bs : List ℕ) (e : ReadFault) (rest : List ℕ) → e ≢ NotCanonical → number_at true minus bs ≡ bad e rest → Limit (NumberHolds minus levels e) e bs rest
number_limit minus levels [] e rest limit h = absurd (no_limit [] e rest limit h)
number_limit minus levels (b ∷ bs) e rest limit h =
    by_test (b == 48) _ _ _ h
    (λ z f. by_test minus _ _ _ f (λ m g. absurd (no_limit (b ∷ bs) e rest limit g)) (λ m g. absurd (got_bad (integer _) bs e rest g)))
    (λ z f. by_test (is_digit b) _ _ _ f
    (λ d g. let range = digit_range b d in
    let some : 0 < b - 48 = let apart = eqb-false b 48 z in omega arith in
    limit_on (DigitsHold minus (b - 48) e) (NumberHolds minus levels e) e (b ∷ []) bs (b ∷ bs) rest refl
    (λ front c behind byte splits k. number_holds minus levels e b front c z d k)
    (digits_limit minus (b - 48) bs e rest some (small_room true minus (b - 48) (omega arith)) (as_read_bad _ _ e rest g)))
    (λ d g. absurd (no_limit (b ∷ bs) e rest limit g)))

-- ---- values

module _ (levels : ℕ) (a o : List ℕ → Outcome Json) where
  abbrev pub HoldsHere : ReadFault → List ℕ → ℕ → Type 0
  HoldsHere e = ValueHolds (value_with true a o) levels e

  abbrev pub LimitBehind : ℕ → (List ℕ → Outcome Json) → Type 0
  LimitBehind c p = (bs : List ℕ) (e : ReadFault) (rest : List ℕ) → e ≢ NotCanonical → p bs ≡ bad e rest → Limit (HoldsHere e) e (c ∷ bs) rest

  at_head : (e : ReadFault) (b c : ℕ) (bs rest : List ℕ) → b == c ≡ true → Limit (HoldsHere e) e (c ∷ bs) rest → Limit (HoldsHere e) e (b ∷ bs) rest
  at_head e b c bs rest t = subst (λ (d : ℕ). Limit (HoldsHere e) e (d ∷ bs) rest) (sym (eqb-true b c t))

  minus_limit : LimitBehind 45 (number_at true true)
  minus_limit bs e rest limit h =
      limit_on (NumberHolds true levels e) (HoldsHere e) e (45 ∷ []) bs (45 ∷ bs) rest refl
      (λ front c behind byte splits k. record { stays = k.stays; can = k.can; beyond = k.beyond })
      (number_limit true levels bs e rest limit h)

  digit_limit : (bs : List ℕ) (e : ReadFault) (rest : List ℕ) → e ≢ NotCanonical → number_at true false bs ≡ bad e rest → Limit (HoldsHere e) e bs rest
  digit_limit bs e rest limit h =
      limit_on (NumberHolds false levels e) (HoldsHere e) e [] bs bs rest refl
      (λ front c behind byte splits k. record {
        stays = λ more.
            ap (λ (xs : List ℕ). value_with true a o (xs ++ c ∷ more)) k.begins
            ∙ value_digit true a o k.first (k.later ++ c ∷ more) k.low k.high
            ∙ ap (λ (xs : List ℕ). number_at true false (xs ++ c ∷ more)) (sym k.begins)
            ∙ k.stays more;
        can = k.can;
        beyond = k.beyond;
      })
      (number_limit false levels bs e rest limit h)

  pub value_with_limit : LimitBehind 91 a → LimitBehind 123 o → (bs : List ℕ) (e : ReadFault) (rest : List ℕ) → e ≢ NotCanonical → value_with true a o bs ≡ bad e rest → Limit (HoldsHere e) e bs rest
  value_with_limit lists objects [] e rest limit h = absurd (no_limit [] e rest limit h)
  value_with_limit lists objects (b ∷ bs) e rest limit h =
      by_test (b == 34) _ _ _ h (λ t f. absurd (utf8_never bs e rest limit (as_read_bad text _ e rest f)))
      (λ t h. by_test (b == 91) _ _ _ h (λ t f. at_head e b 91 bs rest t (lists bs e rest limit f))
      (λ t h. by_test (b == 123) _ _ _ h (λ t f. at_head e b 123 bs rest t (objects bs e rest limit f))
      (λ t h. by_test (b == 110) _ _ _ h (λ t f. absurd (word_never null (codes "ull") bs e rest limit f))
      (λ t h. by_test (b == 116) _ _ _ h (λ t f. absurd (word_never (boolean true) (codes "rue") bs e rest limit f))
      (λ t h. by_test (b == 102) _ _ _ h (λ t f. absurd (word_never (boolean false) (codes "alse") bs e rest limit f))
      (λ t h. by_test (b == 45) _ _ _ h (λ t f. at_head e b 45 bs rest t (minus_limit bs e rest limit f))
      (λ t f. digit_limit (b ∷ bs) e rest limit f)))))))
