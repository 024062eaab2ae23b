-- Laws of documents with their names and lengths before them.
use Rattle.std.proofs.Common.{◌≡◌, ◌≢◌, ℕ, zero, suc, ◌^◌, ◌<◌, ◌≤◌, List, [], ◌∷◌, ◌++◌, length, take, drop, get_or, true, refl, sym, ap, ◌∙◌, arith, append_assoc, append-nil, length-append, subst}
use Rattle.std.specs.List.{flat_map, AllByRecursion, list_all}
use Rattle.std.specs.Char.{is_ascii_digit, digit_value}
use Rattle.std.specs.Int.{IsInRange}
use Rattle.std.proofs.Math.Nat.{pow-le-pow_right}
use Rattle.std.proofs.lemmas.Int.Digits.{digits_value-lt}
use Rattle.std.specs.Str.{IsUtf8}
use Rattle.std.specs.Str.Parse.{AllDigits, digits_value}
use Rattle.std.specs.Fmt.{decimal}
use Rattle.std.proofs.lemmas.Fmt.{decimal_is_IsNumeral, decimal_injective, decimal-digits_value, decimal_nonempty, length-decimal-le, first_decimal, decimal_digit}
use Rattle.std.proofs.lemmas.Str.{IsUtf8-from_ascii}
use Rattle.std.proofs.lemmas.Str.Parse.{IsNumeralModel, numerals_by_value, tells_digits, not_in_digits, digit_from_value}
use Rattle.std.proofs.lemmas.Bool.{and_parts, and_from}
use Rattle.std.proofs.lemmas.Bool.Decides.{nat_tests}
use Rattle.std.proofs.Math.Seq.{take-append_seam, drop-append_seam}
use Rattle.path_patterns.specs.Bytes.{is_name_start, is_name_byte}
use Rattle.path_patterns.specs.Grammar.{IsName}
use Rattle.limits.specs.Limits.{most_documents}
use Rattle.http_messages.specs.Framing.{Document, frame, CanStand, IsBatch, Opens, BeginsWithDocument}
use Rattle.http_messages.specs.steps.Cutting.{Lacks, Cuts}

-- ---- two texts around a byte

tail-lacks : (c h : ℕ) (t : List ℕ) → Lacks c (h ∷ t) → Lacks c t
tail-lacks c h t l k lt = l (suc k) (omega arith)

pub split-once : (c : ℕ) (a b x y : List ℕ) → Lacks c a → Lacks c b → a ++ c ∷ x ≡ b ++ c ∷ y → (a ≡ b) × (x ≡ y)
split-once c [] [] x y la lb e = (refl, (cc))
split-once c [] (h ∷ t) x y la lb e = absurd (lb 0 (omega arith) (cc))
split-once c (h ∷ t) [] x y la lb e = absurd (la 0 (omega arith) (cc))
split-once c (h ∷ t) (g ∷ s) x y la lb e =
    let head : h ≡ g = cc in
    let tails : t ++ c ∷ x ≡ s ++ c ∷ y = cc in
    let more = split-once c t s x y (tail-lacks c h t la) (tail-lacks c g s lb) tails in
    ((cc), more.1)

pub lacks-none : (c : ℕ) (a x : List ℕ) → Lacks c (a ++ c ∷ x) → ⊥
lacks-none c [] x l = l 0 (omega arith) refl
lacks-none c (h ∷ t) x l = lacks-none c t x (tail-lacks c h (t ++ c ∷ x) l)

-- ---- names

start-is : (c : ℕ) → is_name_start c ≡ true → (c ≢ 32) × (c < 128)
start-is c e = (grind (arith, nat_tests), grind (arith, nat_tests))

byte-is : (c : ℕ) → is_name_byte c ≡ true → (c ≢ 32) × (c < 128)
byte-is c e = (grind (arith, nat_tests), grind (arith, nat_tests))

bytes-are : (cs : List ℕ) → list_all is_name_byte cs ≡ true → (k : ℕ) → (k < length cs → get_or cs k 0 ≢ 32) × (get_or cs k 0 < 128)
bytes-are [] h k = ((λ lt. absurd (omega arith)), omega arith)
bytes-are (c ∷ cs) h zero = let b = byte-is c (and_parts (is_name_byte c) (list_all is_name_byte cs) h).0 in ((λ lt. b.0), b.1)
bytes-are (c ∷ cs) h (suc k) =
    let more = bytes-are cs (and_parts (is_name_byte c) (list_all is_name_byte cs) h).1 k in ((λ lt. more.0 (omega arith)), more.1)

name-is : (name : List ℕ) → IsName name → (k : ℕ) → (k < length name → get_or name k 0 ≢ 32) × (get_or name k 0 < 128)
name-is [] h k = absurd h
name-is (c ∷ cs) h zero = let b = start-is c h.0 in ((λ lt. b.0), b.1)
name-is (c ∷ cs) h (suc k) = let more = bytes-are cs h.1 k in ((λ lt. more.0 (omega arith)), more.1)

pub name-lacks : (name : List ℕ) → IsName name → Lacks 32 name
name-lacks name h k lt = (name-is name h k).0 lt

pub name-text : (name : List ℕ) → IsName name → IsUtf8 name
name-text name h = IsUtf8-from_ascii name (λ k. (name-is name h k).1)

-- ---- lengths

own : IsNumeralModel (AllDigits 10) (digits_value 10)
own = numerals_by_value (AllDigits 10) tells_digits

pub length-lacks : (n : ℕ) → n < 10000000 → Lacks 10 (decimal n)
length-lacks n h k lt = not_in_digits own (decimal n) 10 (decimal_is_IsNumeral n (omega arith)).0.1 (λ r. omega (arith, r.0)) k lt

digits-from : (ds : List ℕ) → list_all is_ascii_digit ds ≡ true → AllDigits 10 ds
digits-from [] e = tt
digits-from (c ∷ cs) e =
    let both = and_parts (is_ascii_digit c) (list_all is_ascii_digit cs) e in (digit-less c both.0, digits-from cs both.1)
  where
    digit-less : (c : ℕ) → is_ascii_digit c ≡ true → digit_value c < 10
    digit-less c e = grind (arith, nat_tests)

digits-to : (ds : List ℕ) → AllDigits 10 ds → list_all is_ascii_digit ds ≡ true
digits-to [] h = refl
digits-to (c ∷ cs) h = and_from (is_ascii_digit c) (list_all is_ascii_digit cs) (is-digit c (digit_from_value c h.0)) (digits-to cs h.1)
  where
    is-digit : (c : ℕ) → IsInRange 48 57 c → is_ascii_digit c ≡ true
    is-digit c r = let low = r.0 in let high = r.1 in grind (arith, nat_tests)

-- digits with no zero in front of others are the decimal of their value
pub length-is : (ds : List ℕ) → 0 < length ds → length ds ≤ 7 → list_all is_ascii_digit ds ≡ true → (1 < length ds → get_or ds 0 0 ≢ 48)
    → (ds ≡ decimal (digits_value 10 ds)) × (digits_value 10 ds < 10000000)
length-is ds some few digits leading =
    let all = digits-from ds digits in
    let most : 10 ^ length ds ≤ 10 ^ 7 = pow-le-pow_right (omega arith) few in
    let less : digits_value 10 ds < 10000000 = omega (arith, digits_value-lt 10 ds all, most) in
    (sym (decimal-digits_value own ds all some (λ e. by (length ds) refl e) (omega (arith, less))), less)
  where
    by : (n : ℕ) → length ds ≡ n → get_or ds 0 0 ≡ 48 → length ds ≡ 1
    by zero e z = absurd (omega arith)
    by (suc zero) e z = e
    by (suc (suc n)) e z = absurd (leading (omega arith) z)

-- what the decimal of a short length is
pub length-some : (n : ℕ) → n < 10000000 → 0 < length (decimal n)
length-some n h = decimal_nonempty n (omega (arith, h))

pub length-few : (n : ℕ) → n < 10000000 → length (decimal n) ≤ 7
length-few n h = length-decimal-le 7 n (omega arith) (omega (arith, h)) (omega (arith, h))

pub length-digits : (n : ℕ) → n < 10000000 → list_all is_ascii_digit (decimal n) ≡ true
length-digits n h = digits-to (decimal n) (decimal_is_IsNumeral n (omega (arith, h))).0.1

pub length-zero : (n : ℕ) → n < 10000000 → 1 < length (decimal n) → get_or (decimal n) 0 0 ≢ 48
length-zero zero h l e = omega (arith, l, ap (λ (x : List ℕ). length x) (decimal_digit 0 (omega arith)))
length-zero (suc n) h l e = omega (arith, e, first_decimal (suc n) (omega arith) (omega (arith, h)))

-- ---- one document

regroup : (name digits bytes more : List ℕ) → name ++ 32 ∷ (digits ++ 10 ∷ (bytes ++ more)) ≡ (name ++ 32 ∷ (digits ++ 10 ∷ bytes)) ++ more
regroup name digits bytes more =
    sym (append_assoc name (32 ∷ (digits ++ 10 ∷ bytes)) more ∙ ap (λ l. name ++ 32 ∷ l) (append_assoc digits (10 ∷ bytes) more))

pub has-space : (text : List ℕ) (d : Document) (more : List ℕ) → Opens text d more → Lacks 32 text → ⊥
has-space text d more opens lacks =
    lacks-none 32 d.0 (decimal (length d.1) ++ 10 ∷ (d.1 ++ more)) (subst (Lacks 32) (opens.whole ∙ sym (regroup d.0 (decimal (length d.1)) d.1 more)) lacks)

-- the name and what stands behind it
pub behind-name : (text : List ℕ) (d : Document) (more name rest : List ℕ) → Opens text d more → text ≡ name ++ 32 ∷ rest → Lacks 32 name
    → (d.0 ≡ name) × (decimal (length d.1) ++ 10 ∷ (d.1 ++ more) ≡ rest)
behind-name text d more name rest opens e lacks =
    split-once 32 d.0 name (decimal (length d.1) ++ 10 ∷ (d.1 ++ more)) rest (name-lacks d.0 opens.stands.name) lacks
    (regroup d.0 (decimal (length d.1)) d.1 more ∙ sym opens.whole ∙ e)

-- the digits and what stands behind them
pub behind-digits : (n : ℕ) (x digits y : List ℕ) → n < 10000000 → decimal n ++ 10 ∷ x ≡ digits ++ 10 ∷ y → Lacks 10 digits
    → (decimal n ≡ digits) × (x ≡ y)
behind-digits n x digits y h e lacks = split-once 10 (decimal n) digits x y (length-lacks n h) lacks e

-- the decimals of short lengths are apart
pub one-length : (m n : ℕ) → m < 10000000 → n < 10000000 → decimal m ≡ decimal n → m ≡ n
one-length m n a b e = decimal_injective m n (omega (arith, a)) (omega (arith, b)) e

same-lengths : (a b x y : List ℕ) → length a ≡ length b → a ++ x ≡ b ++ y → (a ≡ b) × (x ≡ y)
same-lengths a b x y l e = (
  sym (take-append_seam a x) ∙ ap (take (length a)) e ∙ ap (λ n. take n (b ++ y)) l ∙ take-append_seam b y,
  sym (drop-append_seam a x) ∙ ap (drop (length a)) e ∙ ap (λ n. drop n (b ++ y)) l ∙ drop-append_seam b y,
)

-- a text has one document at its front
pub one-front : (text : List ℕ) (d e : Document) (x y : List ℕ) → Opens text d x → Opens text e y → (d ≡ e) × (x ≡ y)
one-front text d e x y a b =
    let names = behind-name text d x e.0 (decimal (length e.1) ++ 10 ∷ (e.1 ++ y)) a (b.whole ∙ sym (regroup e.0 (decimal (length e.1)) e.1 y)) (name-lacks e.0 b.stands.name) in
    let digits = behind-digits (length d.1) (d.1 ++ x) (decimal (length e.1)) (e.1 ++ y) a.stands.short names.1 (length-lacks (length e.1) b.stands.short) in
    let len : length d.1 ≡ length e.1 = one-length (length d.1) (length e.1) a.stands.short b.stands.short digits.0 in
    let bytes = same-lengths d.1 e.1 x y len digits.1 in
    let same : (d.0, d.1) ≡ (e.0, e.1) = rw (names.0, bytes.0) refl in
    (same, bytes.1)

frame-not-empty : (d : Document) (more : List ℕ) → [] ≡ frame d ++ more → ⊥
frame-not-empty d more e =
    let l : 0 ≡ length (frame d ++ more) = ap length e in
    omega (arith, simp length-append at l)

-- a document that was cut off opens the text where its name is one
pub cut-opens : (text : List ℕ) (d : Document) (rest : List ℕ) → Cuts text d rest → IsName d.0 → Opens text d rest
cut-opens text d rest cuts name = record { stands = record { name = name; short = cuts.short }; whole = cuts.whole }

-- and where it is none, nothing opens the text
pub cut-none : (text : List ℕ) (d : Document) (rest : List ℕ) → Cuts text d rest → (IsName d.0 → ⊥) → (e : Document) (more : List ℕ) → Opens text e more → ⊥
cut-none text d rest cuts none e more opens =
    let whole = cuts.whole ∙ sym (regroup d.0 (decimal (length d.1)) d.1 rest) in
    let names = behind-name text e more d.0 (decimal (length d.1) ++ 10 ∷ (d.1 ++ rest)) opens whole cuts.name in
    none (subst IsName names.0 opens.stands.name)

-- ---- all documents

-- documents at the front and a document behind them: the text begins with one
pub begins : (body : List ℕ) (done : List Document) (rest : List ℕ) → body ≡ flat_map frame done ++ rest → AllByRecursion CanStand done
    → BeginsWithDocument rest → BeginsWithDocument body
begins body [] rest e all h = subst BeginsWithDocument (sym e) h
begins body (d ∷ ds) rest e all h =
    (d, flat_map frame ds ++ rest, record { stands = all.0; whole = e ∙ append_assoc (frame d) (flat_map frame ds) rest })

-- documents whose texts begin a whole batch are its first
pub front-of : (done docs : List Document) (rest : List ℕ) → AllByRecursion CanStand done → AllByRecursion CanStand docs
    → flat_map frame done ++ rest ≡ flat_map frame docs → (more : List Document) × (docs ≡ done ++ more) × AllByRecursion CanStand more × (rest ≡ flat_map frame more)
front-of [] docs rest a b e = (docs, refl, b, e)
front-of (d ∷ ds) [] rest a b e = absurd (frame-not-empty d (flat_map frame ds ++ rest) (sym e ∙ append_assoc (frame d) (flat_map frame ds) rest))
front-of (d ∷ ds) (c ∷ cs) rest a b e =
    let first : Opens (flat_map frame (c ∷ cs)) d (flat_map frame ds ++ rest) = record { stands = a.0; whole = sym e ∙ append_assoc (frame d) (flat_map frame ds) rest } in
    let other : Opens (flat_map frame (c ∷ cs)) c (flat_map frame cs) = record { stands = b.0; whole = refl } in
    let one = one-front (flat_map frame (c ∷ cs)) d c (flat_map frame ds ++ rest) (flat_map frame cs) first other in
    let (more, is, all, left) = front-of ds cs rest a.1 b.1 one.1 in
    (more, ap (λ x. x ∷ cs) (sym one.0) ∙ ap (λ l. d ∷ l) is, all, left)

-- a whole batch that begins with these documents, and what is left of it
pub left-over : (body : List ℕ) (done docs : List Document) (rest : List ℕ) → body ≡ flat_map frame done ++ rest → AllByRecursion CanStand done → IsBatch body docs
    → (more : List Document) × (docs ≡ done ++ more) × AllByRecursion CanStand more × (rest ≡ flat_map frame more)
left-over body done docs rest e all batch = front-of done docs rest all batch.each (sym e ∙ batch.whole)

no-more : (more : List Document) → [] ≡ flat_map frame more → more ≡ []
no-more [] e = refl
no-more (d ∷ ds) e = absurd (frame-not-empty d (flat_map frame ds) e)

pub one-batch : (body : List ℕ) (a b : List Document) → IsBatch body a → IsBatch body b → a ≡ b
one-batch body a b x y =
    let (more, is, all, rest) = left-over body a b [] (x.whole ∙ sym (append-nil (flat_map frame a))) x.each y in
    sym (is ∙ ap (λ l. a ++ l) (no-more more rest) ∙ append-nil a)

-- at the end of a body without a document
pub none-at-all : (body : List ℕ) (docs : List Document) → body ≡ [] → IsBatch body docs → ⊥
none-at-all body docs e batch =
    let none = no-more docs (sym e ∙ batch.whole) in
    omega (arith, batch.least, ap (λ (l : List Document). length l) none)

-- too many documents, as something is left
pub too-many : (body : List ℕ) (done docs : List Document) (rest : List ℕ) → body ≡ flat_map frame done ++ rest → AllByRecursion CanStand done
    → length done ≡ most_documents → 0 < length rest → IsBatch body docs → ⊥
too-many body done docs rest e all full some batch =
    let (more, is, each, left) = left-over body done docs rest e all batch in
    by more is left
  where
    by : (more : List Document) → docs ≡ done ++ more → rest ≡ flat_map frame more → ⊥
    by [] is left = omega (arith, ap (λ (l : List ℕ). length l) left)
    by (d ∷ ds) is left = omega (arith, batch.most, full, simp length-append at (ap (λ (l : List Document). length l) is))

-- something is left that begins with no document
pub ill-framed : (body : List ℕ) (done docs : List Document) (rest : List ℕ) → body ≡ flat_map frame done ++ rest → AllByRecursion CanStand done
    → 0 < length rest → ((d : Document) (later : List ℕ) → Opens rest d later → ⊥) → IsBatch body docs → ⊥
ill-framed body done docs rest e all some none batch =
    let (more, is, each, left) = left-over body done docs rest e all batch in
    by more each left
  where
    by : (more : List Document) → AllByRecursion CanStand more → rest ≡ flat_map frame more → ⊥
    by [] each left = omega (arith, ap (λ (l : List ℕ). length l) left)
    by (d ∷ ds) each left = none d (flat_map frame ds) (record { stands = each.0; whole = left })

pub nothing : {A : Type 0} (l : List A) → length l ≡ 0 → l ≡ []
nothing [] e = refl
nothing (x ∷ xs) e = absurd (omega arith)
