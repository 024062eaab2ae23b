-- What is read is spelled so.
use Rattle.std.proofs.Common.{◌≡◌, ℕ, zero, suc, ◌+◌, ◌-◌, ◌*◌, ◌/◌, ◌%◌, ◌<◌, ◌≤◌, ℤ, pos, List, [], ◌∷◌, ◌++◌, Bool, true, false, ◌==◌, nat_lt, Option, Some, None, length, codes, map, refl, sym, subst, ap, ap₂, ◌∙◌, append_assoc, IsUtf8, arith, eqb-true, ltb-true, leb-true, FitsSigned, w64}
use Rattle.std.proofs.lemmas.Int.Digits.{digits_of_step}
use Rattle.std.proofs.lemmas.Bool.{and_parts, eqb-false}
use Rattle.std.proofs.lemmas.Nat.{div-mul-add, mod-mul-add}
use Rattle.std.proofs.lemmas.Str.{IsUtf8-from_is_utf8}
use Rattle.std.specs.Int.Digits.{digits_of}
use Rattle.std.specs.Str.{is_utf8}
use Rattle.canonical_json.specs.Json.{Json, null, boolean, integer, text, array, object, Items, no_items, item, Members, no_members, member}
use Rattle.canonical_json.specs.Spelling.{spelling, numeral, integer_spelling}
use Rattle.canonical_json.specs.steps.Texts.{text_at, closed_text}
use Rattle.canonical_json.specs.steps.Reading.{Outcome, got, as_read, word_at, mark_at, checked_text, utf8_at, is_behind, name_at, is_digit, most, has_room, digits_at, signed, number_at, value_with, more_items, items_at, list_at, more_members, members_at, object_at, value_at}
use Rattle.canonical_json.proofs.TextLaws.{text_takes}
use Rattle.canonical_json.proofs.Forms.{items_tail, items_text, items_text_is, members_tail, members_text, members_text_is, member_text, text_closed_is, member_closed_is, Good, GoodItems, IsFull, HasMembers, GoodMembers, rising_more, Room, by_test, got_parts, bad_got, reading_got, as_read_got}

pub word_sound : (v : Json) (ws bs : List ℕ) (x : Json) (rest : List ℕ) → word_at v ws bs ≡ got x rest → (x ≡ v) × (bs ≡ ws ++ rest)
unfolding word_at
word_sound v [] bs x rest e = let p = got_parts v x bs rest e in (sym p.0, p.1)
word_sound v (w ∷ ws) [] x rest e = absurd (bad_got _ _ x rest e)
word_sound v (w ∷ ws) (b ∷ bs) x rest e =
    by_test (b == w) _ _ _ e (λ t f. let ih = word_sound v ws bs x rest f in (ih.0, ap₂ (λ (c : ℕ) (r : List ℕ). c ∷ r) (eqb-true b w t) ih.1)) (λ t f. absurd (bad_got _ _ x rest f))

pub mark_sound : (c : ℕ) (bs : List ℕ) (u : Unit {0}) (rest : List ℕ) → mark_at c bs ≡ got u rest → bs ≡ c ∷ rest
mark_sound c [] u rest e = absurd (bad_got _ _ u rest e)
mark_sound c (b ∷ bs) u rest e =
    by_test (b == c) _ _ _ e (λ t f. ap₂ (λ (c : ℕ) (r : List ℕ). c ∷ r) (eqb-true b c t) (got_parts tt u bs rest f).1) (λ t f. absurd (bad_got _ _ u rest f))

checked_sound : (bs : List ℕ) (o : Option (List ℕ × List ℕ)) (t rest : List ℕ) → text_at bs ≡ o → checked_text bs o ≡ got t rest → IsUtf8 t × (bs ≡ closed_text t rest)
checked_sound bs None t rest h e = absurd (bad_got _ _ t rest e)
checked_sound bs (Some r) t rest h e =
    by_test (is_utf8 r.0) _ _ _ e
    (λ u f. let p = got_parts r.0 t r.1 rest f in
    (IsUtf8-from_is_utf8 t (ap is_utf8 (sym p.0) ∙ u), text_takes rest bs t (h ∙ ap₂ (λ (x y : List ℕ). Some (x, y)) p.0 p.1)))
    (λ u f. absurd (bad_got _ _ t rest f))

pub utf8_sound : (bs t rest : List ℕ) → utf8_at bs ≡ got t rest → IsUtf8 t × (bs ≡ closed_text t rest)
utf8_sound bs t rest e = checked_sound bs (text_at bs) t rest refl e

pub name_sound : (before : Option (List ℕ)) (bs n rest : List ℕ) → name_at before bs ≡ got n rest → IsUtf8 n × (is_behind before n ≡ true) × (bs ≡ 34 ∷ closed_text n rest)
name_sound before bs n rest e =
    let a = reading_got (mark_at 34 bs) _ n rest e in
    let b = reading_got (utf8_at a.1) _ n rest a.3 in
    by_test (is_behind before b.0) _ _ _ b.3
    (λ t f. let p = got_parts b.0 n b.1 rest f in
    let u = utf8_sound a.1 n rest (b.2 ∙ ap₂ (λ (x y : List ℕ). got x y) p.0 p.1) in
    (u.0, ap (is_behind before) (sym p.0) ∙ t, mark_sound 34 bs a.0 a.1 a.2 ∙ ap (λ (x : List ℕ). 34 ∷ x) u.1))
    (λ t f. absurd (bad_got _ _ n rest f))

-- ---- integers

map_push : (f : ℕ → ℕ) (xs : List ℕ) (x : ℕ) → map f (xs ++ x ∷ []) ≡ map f xs ++ f x ∷ []
map_push f [] x = refl
map_push f (y ∷ xs) x = ap (λ (zs : List ℕ). f y ∷ zs) (map_push f xs x)

numeral_of : (n : ℕ) → 0 < n → numeral n ≡ map (λ d. 48 + d) (digits_of 10 n)
unfolding numeral
numeral_of zero h = absurd (omega arith)
numeral_of (suc n) h = refl

pub numeral_more : (n d : ℕ) → 0 < n → d < 10 → numeral (n * 10 + d) ≡ numeral n ++ (48 + d) ∷ []
numeral_more n d h l =
    let step = digits_of_step 10 (n * 10 + d) (omega arith) (omega arith)
    ∙ ap₂ (λ (q r : ℕ). digits_of 10 q ++ r ∷ []) (div-mul-add n 10 d l) (mod-mul-add n 10 d l) in
    numeral_of (n * 10 + d) (omega arith) ∙ ap (map (λ d. 48 + d)) step ∙ map_push (λ d. 48 + d) (digits_of 10 n) d ∙ ap (λ (xs : List ℕ). xs ++ (48 + d) ∷ []) (sym (numeral_of n h))

pub numeral_digit : (d : ℕ) → d < 10 → numeral d ≡ (48 + d) ∷ []
unfolding numeral
numeral_digit zero l = refl
numeral_digit (suc d) l =
    let q : suc d / 10 ≡ 0 = omega arith in
    let r : suc d % 10 ≡ suc d = omega arith in
    ap (map (λ d. 48 + d)) (digits_of_step 10 (suc d) (omega arith) (omega arith) ∙ ap₂ (λ (q r : ℕ). digits_of 10 q ++ r ∷ []) q r)

pub digit_range : (b : ℕ) → is_digit b ≡ true → (48 ≤ b) × (b < 58)
digit_range b e = let p = and_parts (nat_lt 47 b) (nat_lt b 58) e in (ltb-true 47 b p.0, ltb-true b 58 p.1)

pub room_from : (limited minus : Bool) (n : ℕ) → has_room limited minus n ≡ true → Room limited minus n
room_from true minus n e l = leb-true n (most minus) e
room_from false minus n e l = cc

pub digits_sound : (limited minus : Bool) (n : ℕ) (bs : List ℕ) (k : ℕ) (rest : List ℕ) → 0 < n → Room limited minus n → digits_at limited minus n bs ≡ got k rest
    → (0 < k) × Room limited minus k × (numeral n ++ bs ≡ numeral k ++ rest)
unfolding digits_at
digits_sound limited minus n [] k rest h r e =
    let p = got_parts n k [] rest e in
    (rw (← p.0) h, rw (← p.0) r, ap₂ (λ (x : ℕ) (y : List ℕ). numeral x ++ y) p.0 p.1)
digits_sound limited minus n (b ∷ bs) k rest h r e =
    by_test (is_digit b) _ _ _ e
    (λ t f. by_test (has_room limited minus (n * 10 + (b - 48))) _ _ _ f
    (λ u g.
    let d = digit_range b t in
    let ih = digits_sound limited minus (n * 10 + (b - 48)) bs k rest (omega arith) (room_from limited minus _ u) g in
    let back : 48 + (b - 48) ≡ b = omega arith in
    let more = numeral_more n (b - 48) h (omega arith) ∙ ap (λ (c : ℕ). numeral n ++ c ∷ []) back in
    (ih.0, ih.1, sym (ap (λ (x : List ℕ). x ++ bs) more ∙ append_assoc (numeral n) (b ∷ []) bs) ∙ ih.2))
    (λ u g. absurd (bad_got _ _ k rest g)))
    (λ t f. let p = got_parts n k (b ∷ bs) rest f in
    (rw (← p.0) h, rw (← p.0) r, ap₂ (λ (x : ℕ) (y : List ℕ). numeral x ++ y) p.0 p.1))

abbrev pub sign_bytes : Bool → List ℕ
sign_bytes true = 45 ∷ []
sign_bytes false = []

pub signed_spelling : (minus : Bool) (n : ℕ) → 0 < n → integer_spelling (signed minus n) ≡ sign_bytes minus ++ numeral n
signed_spelling true zero h = absurd (omega arith)
signed_spelling true (suc n) h = refl
signed_spelling false n h = refl

pub signed_fits : (limited minus : Bool) (n : ℕ) → 0 < n → Room limited minus n → limited ≡ true → FitsSigned w64 (signed minus n)
signed_fits limited true zero h r l = absurd (omega arith)
signed_fits limited true (suc n) h r l = let k = r l in record { sfits = omega arith }
signed_fits limited false n h r l = let k = r l in record { sfits = omega arith }

pub small_room : (limited minus : Bool) (n : ℕ) → n < 10 → Room limited minus n
small_room limited true n h l = omega arith
small_room limited false n h l = omega arith

number_zero : (minus : Bool) (b : ℕ) (bs : List ℕ) (v : Json) (rest : List ℕ) → b ≡ 48 → minus ≡ false → (limited : Bool) → got (integer (pos 0)) bs ≡ got v rest
    → (z : ℤ) × (v ≡ integer z) × (limited ≡ true → FitsSigned w64 z) × (sign_bytes minus ++ b ∷ bs ≡ integer_spelling z ++ rest)
unfolding numeral
number_zero minus b bs v rest e m limited f =
    let p = got_parts (integer (pos 0)) v bs rest f in
    (pos 0, sym p.0, (λ l. record { sfits = omega arith }), rw m (ap₂ (λ (c : ℕ) (r : List ℕ). c ∷ r) e p.1))

pub number_sound : (limited minus : Bool) (bs : List ℕ) (v : Json) (rest : List ℕ) → number_at limited minus bs ≡ got v rest
    → (z : ℤ) × (v ≡ integer z) × (limited ≡ true → FitsSigned w64 z) × (sign_bytes minus ++ bs ≡ integer_spelling z ++ rest)
number_sound limited minus [] v rest e = absurd (bad_got _ _ v rest e)
number_sound limited minus (b ∷ bs) v rest e =
    by_test (b == 48) _ _ _ e
    (λ t f. by_test minus _ _ _ f (λ m g. absurd (bad_got _ _ v rest g)) (λ m g. number_zero minus b bs v rest (eqb-true b 48 t) m limited g))
    (λ t f. by_test (is_digit b) _ _ _ f
    (λ u g.
    let d = digit_range b u in
    let some : 0 < b - 48 = let apart = eqb-false b 48 t in omega arith in
    let r = as_read_got (λ n. integer (signed minus n)) _ v rest g in
    let s = digits_sound limited minus (b - 48) bs r.0 rest some (small_room limited minus (b - 48) (omega arith)) r.1 in
    let back : 48 + (b - 48) ≡ b = omega arith in
    let first : b ∷ bs ≡ numeral (b - 48) ++ bs = ap (λ (c : ℕ). c ∷ bs) (sym back) ∙ ap (λ (xs : List ℕ). xs ++ bs) (sym (numeral_digit (b - 48) (omega arith))) in (
      signed minus r.0,
      r.2,
      signed_fits limited minus r.0 s.0 s.1,
      ap (λ (xs : List ℕ). sign_bytes minus ++ xs) (first ∙ s.2) ∙ sym (append_assoc (sign_bytes minus) (numeral r.0) rest)
          ∙ ap (λ (xs : List ℕ). xs ++ rest) (sym (signed_spelling minus r.0 s.0)),
    ))
    (λ u g. absurd (bad_got _ _ v rest g)))

-- ---- values

good_at : (limited : Bool) (levels : ℕ) (bs : List ℕ) (v w : Json) (rest : List ℕ) → v ≡ w → Good limited levels w × (bs ≡ spelling w ++ rest) → Good limited levels v × (bs ≡ spelling v ++ rest)
good_at limited levels bs v w rest e h = subst (λ (x : Json). Good limited levels x × (bs ≡ spelling x ++ rest)) (sym e) h

abbrev pub SoundFrom : Bool → ℕ → ℕ → (List ℕ → Outcome Json) → Type 0
SoundFrom limited levels c p = (bs : List ℕ) (v : Json) (rest : List ℕ) → p bs ≡ got v rest → Good limited levels v × (c ∷ bs ≡ spelling v ++ rest)

abbrev pub SoundReader : Bool → ℕ → (List ℕ → Outcome Json) → Type 0
SoundReader limited levels p = (bs : List ℕ) (v : Json) (rest : List ℕ) → p bs ≡ got v rest → Good limited levels v × (bs ≡ spelling v ++ rest)

head_is : (b c : ℕ) (bs xs : List ℕ) → b ≡ c → c ∷ bs ≡ xs → b ∷ bs ≡ xs
head_is b c bs xs e h = ap (λ (d : ℕ). d ∷ bs) e ∙ h

word_good : (limited : Bool) (levels : ℕ) (w : Json) (c : ℕ) (ws : List ℕ) → Good limited levels w → spelling w ≡ c ∷ ws → SoundFrom limited levels c (word_at w ws)
word_good limited levels w c ws g spelled bs v rest e =
    let s = word_sound w ws bs v rest e in
    good_at limited levels (c ∷ bs) v w rest s.0 (g, ap (λ (xs : List ℕ). c ∷ xs) s.1 ∙ ap (λ (xs : List ℕ). xs ++ rest) (sym spelled))

number_good : (limited minus : Bool) (levels : ℕ) (bs : List ℕ) (v : Json) (rest : List ℕ) → number_at limited minus bs ≡ got v rest → Good limited levels v × (sign_bytes minus ++ bs ≡ spelling v ++ rest)
number_good limited minus levels bs v rest e =
    let s = number_sound limited minus bs v rest e in
    good_at limited levels (sign_bytes minus ++ bs) v (integer s.0) rest s.1 ((tt, s.2, omega arith), s.3)

text_good : (limited : Bool) (levels : ℕ) → SoundFrom limited levels 34 (λ bs. as_read text (utf8_at bs))
text_good limited levels bs v rest e =
    let r = as_read_got text (utf8_at bs) v rest e in
    let s = utf8_sound bs r.0 rest r.1 in
    good_at limited levels (34 ∷ bs) v (text r.0) rest r.2 ((s.0, λ l. tt, omega arith), ap (λ (xs : List ℕ). 34 ∷ xs) s.1 ∙ sym (text_closed_is r.0 rest))

pub value_with_sound : (limited : Bool) (levels : ℕ) (a o : List ℕ → Outcome Json) → SoundFrom limited levels 91 a → SoundFrom limited levels 123 o → SoundReader limited levels (value_with limited a o)
value_with_sound limited levels a o lists objects [] v rest e = absurd (bad_got _ _ v rest e)
value_with_sound limited levels a o lists objects (b ∷ bs) v rest e =
    by_test (b == 34) _ _ _ e (λ t f. let s = text_good limited levels bs v rest f in (s.0, head_is b 34 bs _ (eqb-true b 34 t) s.1))
    (λ t e. by_test (b == 91) _ _ _ e (λ t f. let s = lists bs v rest f in (s.0, head_is b 91 bs _ (eqb-true b 91 t) s.1))
    (λ t e. by_test (b == 123) _ _ _ e (λ t f. let s = objects bs v rest f in (s.0, head_is b 123 bs _ (eqb-true b 123 t) s.1))
    (λ t e. by_test (b == 110) _ _ _ e (λ t f. let s = word_good limited levels null 110 (codes "ull") (tt, λ l. tt, omega arith) refl bs v rest f in (s.0, head_is b 110 bs _ (eqb-true b 110 t) s.1))
    (λ t e. by_test (b == 116) _ _ _ e (λ t f. let s = word_good limited levels (boolean true) 116 (codes "rue") (tt, λ l. tt, omega arith) refl bs v rest f in (s.0, head_is b 116 bs _ (eqb-true b 116 t) s.1))
    (λ t e. by_test (b == 102) _ _ _ e (λ t f. let s = word_good limited levels (boolean false) 102 (codes "alse") (tt, λ l. tt, omega arith) refl bs v rest f in (s.0, head_is b 102 bs _ (eqb-true b 102 t) s.1))
    (λ t e. by_test (b == 45) _ _ _ e (λ t f. let s = number_good limited true levels bs v rest f in (s.0, head_is b 45 bs _ (eqb-true b 45 t) s.1))
    (λ t f. number_good limited false levels (b ∷ bs) v rest f)))))))

-- ---- lists and objects

member_joined : (bs k after behind : List ℕ) (v : Json) (later : List ℕ) (ms : Members) (rest : List ℕ) → bs ≡ 34 ∷ closed_text k after → after ≡ 58 ∷ behind → behind ≡ spelling v ++ later
    → later ≡ members_tail ms ++ rest → bs ≡ members_text (member k v ms) ++ rest
member_joined bs k after behind v later ms rest name colon value tail =
    name ∙ ap (λ (xs : List ℕ). 34 ∷ closed_text k xs) (colon ∙ ap (λ (xs : List ℕ). 58 ∷ xs) (value ∙ ap (λ (xs : List ℕ). spelling v ++ xs) tail))
    ∙ sym (member_closed_is k v (members_tail ms ++ rest)) ∙ sym (append_assoc (member_text k v) (members_tail ms) rest)

module _ (limited : Bool) (levels : ℕ) (p : List ℕ → Outcome Json) (sound : SoundReader limited levels p) where
  more_items_sound : (next : List ℕ → Outcome Items) → ((bs : List ℕ) (vs : Items) (rest : List ℕ) → next bs ≡ got vs rest → GoodItems limited levels vs × IsFull vs × (bs ≡ items_text vs ++ rest))
      → (bs : List ℕ) (vs : Items) (rest : List ℕ) → more_items next bs ≡ got vs rest → GoodItems limited levels vs × (bs ≡ items_tail vs ++ rest)
  more_items_sound next h [] vs rest e = absurd (bad_got _ _ vs rest e)
  more_items_sound next h (b ∷ bs) vs rest e =
      by_test (b == 44) _ _ _ e
      (λ t f. let s = h bs vs rest f in (s.0, full_tail vs b bs rest (eqb-true b 44 t) s.1 s.2))
      (λ t f. by_test (b == 93) _ _ _ f
      (λ u g. let q = got_parts no_items vs bs rest g in
      subst (λ (x : Items). GoodItems limited levels x × (b ∷ bs ≡ items_tail x ++ rest)) q.0
      ((tt, λ l. tt, omega arith), ap₂ (λ (c : ℕ) (r : List ℕ). c ∷ r) (eqb-true b 93 u) q.1))
      (λ u g. absurd (bad_got _ _ vs rest g)))
    where
      full_tail : (vs : Items) (b : ℕ) (bs rest : List ℕ) → b ≡ 44 → IsFull vs → bs ≡ items_text vs ++ rest → b ∷ bs ≡ items_tail vs ++ rest
      full_tail no_items b bs rest e f h = absurd f
      full_tail (item v vs) b bs rest e f h = ap₂ (λ (c : ℕ) (r : List ℕ). c ∷ r) e h

  pub items_sound : (n : ℕ) (bs : List ℕ) (vs : Items) (rest : List ℕ) → items_at p n bs ≡ got vs rest → GoodItems limited levels vs × IsFull vs × (bs ≡ items_text vs ++ rest)
  unfolding items_at
  items_sound zero bs vs rest e = absurd (bad_got _ _ vs rest e)
  items_sound (suc n) bs vs rest e =
      let a = reading_got (p bs) _ vs rest e in
      let b = as_read_got (item a.0) (more_items (items_at p n) a.1) vs rest a.3 in
      let s = sound bs a.0 a.1 a.2 in
      let m = more_items_sound (items_at p n) (items_sound n) a.1 b.0 rest b.1 in
      subst (λ (x : Items). GoodItems limited levels x × IsFull x × (bs ≡ items_text x ++ rest)) (sym b.2) (
        ((s.0.0, m.0.0), (λ l. (s.0.1 l, m.0.1 l)), (let x = s.0.2 in let y = m.0.2 in omega arith)),
        tt,
        s.1 ∙ ap (λ (xs : List ℕ). spelling a.0 ++ xs) m.1 ∙ sym (append_assoc (spelling a.0) (items_tail b.0) rest),
      )

  pub list_sound : SoundFrom limited (suc levels) 91 (λ bs. as_read array (list_at p bs))
  list_sound bs v rest e =
      let a = as_read_got array (list_at p bs) v rest e in
      let s = inside bs a.0 rest a.1 in
      good_at limited (suc levels) (91 ∷ bs) v (array a.0) rest a.2 (
        ((tt, s.0.0), (λ l. (tt, s.0.1 l)), (let x = s.0.2 in omega arith)),
        ap (λ (xs : List ℕ). 91 ∷ xs) (s.1 ∙ ap (λ (xs : List ℕ). xs ++ rest) (sym (items_text_is a.0))),
      )
    where
      inside : (bs : List ℕ) (vs : Items) (rest : List ℕ) → list_at p bs ≡ got vs rest → GoodItems limited levels vs × (bs ≡ items_text vs ++ rest)
      inside [] vs rest e = absurd (bad_got _ _ vs rest e)
      inside (b ∷ bs) vs rest e =
          by_test (b == 93) _ _ _ e
          (λ u g. let q = got_parts no_items vs bs rest g in
          subst (λ (x : Items). GoodItems limited levels x × (b ∷ bs ≡ items_text x ++ rest)) q.0
          ((tt, λ l. tt, omega arith), ap₂ (λ (c : ℕ) (r : List ℕ). c ∷ r) (eqb-true b 93 u) q.1))
          (λ u g. let s = items_sound (suc (suc (length bs))) (b ∷ bs) vs rest g in (s.0, s.2))

  more_members_sound : (before : List ℕ) (next : List ℕ → Outcome Members)
      → ((bs : List ℕ) (ms : Members) (rest : List ℕ) → next bs ≡ got ms rest → GoodMembers limited levels (Some before) ms × HasMembers ms × (bs ≡ members_text ms ++ rest))
      → (bs : List ℕ) (ms : Members) (rest : List ℕ) → more_members next bs ≡ got ms rest → GoodMembers limited levels (Some before) ms × (bs ≡ members_tail ms ++ rest)
  more_members_sound before next h [] ms rest e = absurd (bad_got _ _ ms rest e)
  more_members_sound before next h (b ∷ bs) ms rest e =
      by_test (b == 44) _ _ _ e
      (λ t f. let s = h bs ms rest f in (s.0, full_tail ms b bs rest (eqb-true b 44 t) s.1 s.2))
      (λ t f. by_test (b == 125) _ _ _ f
      (λ u g. let q = got_parts no_members ms bs rest g in
      subst (λ (x : Members). GoodMembers limited levels (Some before) x × (b ∷ bs ≡ members_tail x ++ rest)) q.0
      ((tt, (λ l. tt), omega arith, tt, tt), ap₂ (λ (c : ℕ) (r : List ℕ). c ∷ r) (eqb-true b 125 u) q.1))
      (λ u g. absurd (bad_got _ _ ms rest g)))
    where
      full_tail : (ms : Members) (b : ℕ) (bs rest : List ℕ) → b ≡ 44 → HasMembers ms → bs ≡ members_text ms ++ rest → b ∷ bs ≡ members_tail ms ++ rest
      full_tail no_members b bs rest e f h = absurd f
      full_tail (member n v ms) b bs rest e f h = ap₂ (λ (c : ℕ) (r : List ℕ). c ∷ r) e h

  pub members_sound : (before : Option (List ℕ)) (n : ℕ) (bs : List ℕ) (ms : Members) (rest : List ℕ) → members_at p before n bs ≡ got ms rest
      → GoodMembers limited levels before ms × HasMembers ms × (bs ≡ members_text ms ++ rest)
  unfolding members_at
  members_sound before zero bs ms rest e = absurd (bad_got _ _ ms rest e)
  members_sound before (suc n) bs ms rest e =
      let a = reading_got (name_at before bs) _ ms rest e in
      let c = reading_got (mark_at 58 a.1) _ ms rest a.3 in
      let w = reading_got (p c.1) _ ms rest c.3 in
      let b = as_read_got (member a.0 w.0) (more_members (members_at p (Some a.0) n) w.1) ms rest w.3 in
      let k = name_sound before bs a.0 a.1 a.2 in
      let colon = mark_sound 58 a.1 c.0 c.1 c.2 in
      let s = sound c.1 w.0 w.1 w.2 in
      let m = more_members_sound a.0 (members_at p (Some a.0) n) (members_sound (Some a.0) n) w.1 b.0 rest b.1 in
      subst (λ (x : Members). GoodMembers limited levels before x × HasMembers x × (bs ≡ members_text x ++ rest)) (sym b.2) (
        ((s.0.0, m.0.0), (λ l. (s.0.1 l, m.0.1 l)), (let x = s.0.2 in let y = m.0.2 in omega arith), (k.0, m.0.3), rising_more before a.0 _ k.1 m.0.4),
        tt,
        member_joined bs a.0 a.1 c.1 w.0 w.1 b.0 rest k.2 colon s.1 m.1,
      )

  pub object_sound : SoundFrom limited (suc levels) 123 (λ bs. as_read object (object_at p bs))
  object_sound bs v rest e =
      let a = as_read_got object (object_at p bs) v rest e in
      let s = inside bs a.0 rest a.1 in
      good_at limited (suc levels) (123 ∷ bs) v (object a.0) rest a.2 (
        (((s.0.3, s.0.4), s.0.0), (λ l. (tt, s.0.1 l)), (let x = s.0.2 in omega arith)),
        ap (λ (xs : List ℕ). 123 ∷ xs) (s.1 ∙ ap (λ (xs : List ℕ). xs ++ rest) (sym (members_text_is a.0))),
      )
    where
      inside : (bs : List ℕ) (ms : Members) (rest : List ℕ) → object_at p bs ≡ got ms rest → GoodMembers limited levels None ms × (bs ≡ members_text ms ++ rest)
      inside [] ms rest e = absurd (bad_got _ _ ms rest e)
      inside (b ∷ bs) ms rest e =
          by_test (b == 125) _ _ _ e
          (λ u g. let q = got_parts no_members ms bs rest g in
          subst (λ (x : Members). GoodMembers limited levels None x × (b ∷ bs ≡ members_text x ++ rest)) q.0
          ((tt, (λ l. tt), omega arith, tt, tt), ap₂ (λ (c : ℕ) (r : List ℕ). c ∷ r) (eqb-true b 125 u) q.1))
          (λ u g. let s = members_sound None (suc (suc (length bs))) (b ∷ bs) ms rest g in (s.0, s.2))

pub value_sound : (limited : Bool) (levels : ℕ) → SoundReader limited levels (value_at limited levels)
unfolding value_at
value_sound limited zero bs v rest e =
    value_with_sound limited zero _ _ (λ bs v rest f. absurd (bad_got _ _ v rest f)) (λ bs v rest f. absurd (bad_got _ _ v rest f)) bs v rest e
value_sound limited (suc levels) bs v rest e =
    value_with_sound limited (suc levels) _ _ (list_sound limited levels (value_at limited levels) (value_sound limited levels))
    (object_sound limited levels (value_at limited levels) (value_sound limited levels)) bs v rest e
