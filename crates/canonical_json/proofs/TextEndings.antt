-- What begins a text goes on to some text in a few bytes: cut the text where it may be cut.
use Rattle.std.proofs.Common.{◌≡◌, ℕ, zero, suc, ◌+◌, ◌*◌, ◌^◌, ◌<◌, ◌≤◌, ◌⊎◌, inl, inr, ℤ, pos, negsuc, List, [], ◌∷◌, ◌++◌, Bool, true, false, cond, ◌==◌, ◌||◌, if◌then◌else◌, length, map, flat_map, refl, sym, subst, ap, ◌∙◌, append_assoc, append-nil, arith, IsUtf8, Less, Equal, Greater, Ordering, ltb-true, length-append, FitsSigned, w64}
use Rattle.std.proofs.lemmas.Bool.{and_parts, and_from, cases_lt}
use Rattle.std.proofs.lemmas.Grind.{flat_map-append}
use Rattle.std.proofs.lemmas.Int.Digits.{all_below_base_digits_of, length-digits_of-le}
use Rattle.std.proofs.lemmas.List.{length-map}
use Rattle.std.proofs.lemmas.Str.{length-encode, len_utf8_bounds}
use Rattle.std.proofs.Math.Utf8.{encode, encodes, scalar, scalars, scalar_cases}
use Rattle.std.specs.Cmp.Lexicographic.{slice_cmp}
use Rattle.std.specs.Int.Digits.{digits_of}
use Rattle.std.specs.List.{AllByRecursion}
use Rattle.std.specs.Ordering.{nat_cmp, ordering_then}
use Rattle.canonical_json.specs.Spelling.{byte_spelling, numeral, integer_spelling, IsBefore}
use Rattle.canonical_json.specs.steps.Texts.{closed_text}
use Rattle.canonical_json.proofs.Forms.{shorter_begins}

-- ---- bytes

abbrev pub Bytes : List ℕ → Type 0
Bytes xs = AllByRecursion (λ b. b < 256) xs

pub bytes_append : (xs ys : List ℕ) → Bytes xs → Bytes ys → Bytes (xs ++ ys)
bytes_append [] ys h k = k
bytes_append (x ∷ xs) ys h k = (h.0, bytes_append xs ys h.1 k)

pub bytes_behind : (xs ys : List ℕ) → Bytes (xs ++ ys) → Bytes ys
bytes_behind [] ys h = h
bytes_behind (x ∷ xs) ys h = bytes_behind xs ys h.1

bytes_cond : (t : Bool) (xs ys : List ℕ) → (t ≡ true → Bytes xs) → Bytes ys → Bytes (cond t xs ys)
bytes_cond true xs ys h k = h refl
bytes_cond false xs ys h k = k

encode_bytes : (c : ℕ) → scalar c ≡ true → Bytes (encode c)
unfolding encode
encode_bytes c s =
    bytes_cond _ _ _ (λ t. let h = ltb-true c 128 t in (omega arith, tt))
    (bytes_cond _ _ _ (λ t. let h = ltb-true c 2048 t in (omega arith, (omega arith, tt)))
    (bytes_cond _ _ _ (λ t. let h = ltb-true c 65536 t in (omega arith, (omega arith, (omega arith, tt))))
    (let h : c < 1114112 = elim (scalar_cases c s) as (λ d. c < 1114112) [ inl k ↦ omega arith | inr k ↦ omega arith ] in
    (omega arith, (omega arith, (omega arith, (omega arith, tt)))))))

encodes_bytes : (cs : List ℕ) → scalars cs ≡ true → Bytes (encodes cs)
encodes_bytes [] s = tt
encodes_bytes (c ∷ cs) s = let p = and_parts (scalar c) (scalars cs) s in bytes_append (encode c) (encodes cs) (encode_bytes c p.0) (encodes_bytes cs p.1)

spelled_byte : (b : ℕ) → b < 256 → Bytes (byte_spelling b)
spelled_byte b h = bytes_cond ((b == 34) || (b == 92)) (92 ∷ b ∷ []) (b ∷ []) (λ t. (omega arith, (h, tt))) (h, tt)

spelled_bytes : (t : List ℕ) → Bytes t → Bytes (flat_map byte_spelling t)
spelled_bytes [] h = tt
spelled_bytes (b ∷ t) h = bytes_append (byte_spelling b) (flat_map byte_spelling t) (spelled_byte b h.0) (spelled_bytes t h.1)

length_if : (t : Bool) (b : ℕ) → (1 ≤ length (if t then 92 ∷ b ∷ [] else b ∷ [])) × (length (if t then 92 ∷ b ∷ [] else b ∷ []) ≤ 2)
length_if true b = (omega arith, omega arith)
length_if false b = (omega arith, omega arith)

pub spelled_length : (t : List ℕ) → (length t ≤ length (flat_map byte_spelling t)) × (length (flat_map byte_spelling t) ≤ 2 * length t)
spelled_length [] = (omega arith, omega arith)
spelled_length (b ∷ t) =
    let rest = spelled_length t in
    let one = length_if ((b == 34) || (b == 92)) b in
    let both = length-append (byte_spelling b) (flat_map byte_spelling t) in
    (omega arith, omega arith)

-- ---- a text that is cut behind so many characters

record Cut (k : ℕ) (text : List ℕ) : Type 0 where
  pub chars : List ℕ
  pub behind : List ℕ
  pub are : scalars chars ≡ true
  pub splits : text ≡ encodes chars ++ behind
  pub long : (k ≤ length (encodes chars)) ⊎ (behind ≡ [])
  pub short : length (encodes chars) ≤ 4 * k

cut_behind : (k : ℕ) (cs : List ℕ) → scalars cs ≡ true → Cut k (encodes cs)
cut_behind zero cs s = record { chars = []; behind = encodes cs; are = refl; splits = refl; long = inl (omega arith); short = omega arith }
cut_behind (suc k) [] s = record { chars = []; behind = []; are = refl; splits = refl; long = inr refl; short = omega arith }
cut_behind (suc k) (c ∷ cs) s = one_more (and_parts (scalar c) (scalars cs) s) (cut_behind k cs (and_parts (scalar c) (scalars cs) s).1)
  where
    one_more : (scalar c ≡ true) × (scalars cs ≡ true) → Cut k (encodes cs) → Cut (suc k) (encodes (c ∷ cs))
    one_more p r =
        let size = length-encode c in
        let bounds = len_utf8_bounds c in
        let both = length-append (encode c) (encodes r.chars) in
        let short = r.short in
        record {
          chars = c ∷ r.chars;
          behind = r.behind;
          are = and_from (scalar c) (scalars r.chars) p.0 r.are;
          splits = ap (λ (xs : List ℕ). encode c ++ xs) r.splits ∙ sym (append_assoc (encode c) (encodes r.chars) r.behind);
          long = elim r.long as (λ d. (suc k ≤ length (encodes (c ∷ r.chars))) ⊎ (r.behind ≡ [])) [ inl h ↦ inl (omega arith) | inr h ↦ inr h ];
          short = omega arith;
        }

-- ---- a name that is cut stands behind the name before it, where it is longer than that

then_less : (o p q : Ordering) → ordering_then o p ≡ Less → (p ≡ Less → q ≡ Less) → ordering_then o q ≡ Less
then_less Less p q e f = refl
then_less Equal p q e f = f e
then_less Greater p q e f = e

longer_behind : (m a b : List ℕ) → length m < length a → IsBefore m (a ++ b) → IsBefore m a
longer_behind [] [] b l e = absurd (omega arith)
longer_behind [] (y ∷ a) b l e = refl
longer_behind (x ∷ m) [] b l e = absurd (omega arith)
longer_behind (x ∷ m) (y ∷ a) b l e = then_less (nat_cmp x y) (slice_cmp nat_cmp m (a ++ b)) (slice_cmp nat_cmp m a) e (longer_behind m a b (omega arith))

pub cut_stands_behind : (m a b : List ℕ) → (length m < length a) ⊎ (b ≡ []) → IsBefore m (a ++ b) → IsBefore m a
cut_stands_behind m a b (inl l) e = longer_behind m a b l e
cut_stands_behind m a b (inr h) e = subst (IsBefore m) (ap (λ (xs : List ℕ). a ++ xs) h ∙ append-nil a) e

-- ---- what begins a text in its marks

-- either the closing mark is among the bytes, or they begin the text behind its opening mark
pub by_closing : (t rest xs more : List ℕ) → xs ++ more ≡ 34 ∷ closed_text t rest
    → ((ys : List ℕ) × (xs ≡ 34 ∷ closed_text t ys) × (rest ≡ ys ++ more)) ⊎ ((ys : List ℕ) × (xs ++ ys ≡ 34 ∷ flat_map byte_spelling t))
by_closing t rest xs more e =
    elim (cases_lt (length (34 ∷ flat_map byte_spelling t)) (length xs))
    as (λ d. ((ys : List ℕ) × (xs ≡ 34 ∷ closed_text t ys) × (rest ≡ ys ++ more)) ⊎ ((ys : List ℕ) × (xs ++ ys ≡ 34 ∷ flat_map byte_spelling t))) [
      | inl h ↦
          let one = length-append (34 ∷ flat_map byte_spelling t) (34 ∷ []) in
          let b = shorter_begins ((34 ∷ flat_map byte_spelling t) ++ 34 ∷ []) xs rest more (append_assoc (34 ∷ flat_map byte_spelling t) (34 ∷ []) rest ∙ sym e) (omega arith) in
          inl (b.0, b.1 ∙ append_assoc (34 ∷ flat_map byte_spelling t) (34 ∷ []) b.0, b.2)
      | inr h ↦ let b = shorter_begins xs (34 ∷ flat_map byte_spelling t) more (34 ∷ rest) e h in inr (b.0, sym b.1)
    ]

-- a text within which the bytes end, of which few bytes are left
pub record CutText (most : ℕ) (text xs : List ℕ) : Type 0 where
  pub front : List ℕ
  pub behind : List ℕ
  pub utf8 : IsUtf8 front
  pub splits : text ≡ front ++ behind
  pub long : (most < length front) ⊎ (behind ≡ [])
  pub more : List ℕ
  pub spells : xs ++ more ≡ 34 ∷ flat_map byte_spelling front
  pub few : length more ≤ 8 * most + 9
  pub bytes : Bytes more

spelled_parts : (t front behind : List ℕ) → t ≡ front ++ behind → 34 ∷ flat_map byte_spelling t ≡ (34 ∷ flat_map byte_spelling front) ++ flat_map byte_spelling behind
spelled_parts t front behind e = ap (λ (zs : List ℕ). 34 ∷ flat_map byte_spelling zs) e ∙ ap (λ (zs : List ℕ). 34 ∷ zs) (flat_map-append byte_spelling front behind)

cut_holds : (most : ℕ) (t xs ys front behind : List ℕ) → length xs ≤ most → xs ++ ys ≡ 34 ∷ flat_map byte_spelling t → t ≡ front ++ behind → (most < length front) ⊎ (behind ≡ [])
    → length xs ≤ length (34 ∷ flat_map byte_spelling front)
cut_holds most t xs ys front behind l e splits (inl h) = let size = spelled_length front in omega arith
cut_holds most t xs ys front behind l e splits (inr h) =
    let both = length-append xs ys in
    let all = ap length e in
    let same : t ≡ front = splits ∙ ap (λ (zs : List ℕ). front ++ zs) h ∙ append-nil front in
    let count = ap (λ (zs : List ℕ). length (34 ∷ flat_map byte_spelling zs)) same in
    omega arith

cut_spelled : (most : ℕ) (t xs ys front behind : List ℕ) → length xs ≤ most → xs ++ ys ≡ 34 ∷ flat_map byte_spelling t → IsUtf8 front → Bytes front → t ≡ front ++ behind
    → (most < length front) ⊎ (behind ≡ []) → length front ≤ 4 * suc most → CutText most t xs
cut_spelled most t xs ys front behind l e utf8 bytes splits long short =
    let size = spelled_length front in
    let b =
    shorter_begins xs (34 ∷ flat_map byte_spelling front) ys (flat_map byte_spelling behind) (e ∙ spelled_parts t front behind splits) (cut_holds most t xs ys front behind l e splits long) in
    let parts = length-append xs b.0 in
    let count = ap length b.1 in
    record {
      front = front;
      behind = behind;
      utf8 = utf8;
      splits = splits;
      long = long;
      more = b.0;
      spells = sym b.1;
      few = omega arith;
      bytes = bytes_behind xs b.0 (subst Bytes b.1 (omega arith, spelled_bytes front bytes));
    }

pub cut_text : (most : ℕ) (t xs ys : List ℕ) → IsUtf8 t → length xs ≤ most → xs ++ ys ≡ 34 ∷ flat_map byte_spelling t → CutText most t xs
cut_text most t xs ys u l e = by_cut (subst (Cut (suc most)) u.1.1 (cut_behind (suc most) u.0 u.1.0))
  where
    by_cut : Cut (suc most) t → CutText most t xs
    by_cut c = cut_spelled most t xs ys (encodes c.chars) c.behind l e (c.chars, (c.are, refl)) (encodes_bytes c.chars c.are) c.splits c.long c.short

-- ---- integers within the limit have few digits

digit_bytes : (ds : List ℕ) → AllByRecursion (λ d. d < 10) ds → Bytes (map (λ d. 48 + d) ds)
digit_bytes [] h = tt
digit_bytes (d ∷ ds) h = let below : d < 10 = h.0 in (omega arith, digit_bytes ds h.1)

numeral_bytes : (n : ℕ) → Bytes (numeral n)
unfolding numeral
numeral_bytes zero = (omega arith, tt)
numeral_bytes (suc n) = digit_bytes (digits_of 10 (suc n)) (all_below_base_digits_of 10 (suc n) (omega arith))

numeral_length : (n : ℕ) → n < 10 ^ 20 → length (numeral n) ≤ 20
unfolding numeral
numeral_length zero h = omega arith
numeral_length (suc n) h =
    let same = length-map (digits_of 10 (suc n)) (λ d. 48 + d) in
    let few = length-digits_of-le 10 20 (suc n) (omega arith) h in
    omega arith

pub integer_bytes : (z : ℤ) → Bytes (integer_spelling z)
integer_bytes (pos n) = numeral_bytes n
integer_bytes (negsuc n) = (omega arith, numeral_bytes (suc n))

pub integer_length : (z : ℤ) → FitsSigned w64 z → length (integer_spelling z) ≤ 21
integer_length (pos n) fits = let k = fits.sfits in let few = numeral_length n (omega arith) in omega arith
integer_length (negsuc n) fits = let k = fits.sfits in let few = numeral_length (suc n) (omega arith) in omega arith
