-- What `parse` reads of the spelling of a value.
use Rattle.std.proofs.Common.{◌≡◌, ℕ, pos, negsuc, ◌<◌, ◌≤◌, ◌^◌, List, ◌∷◌, Result, Ok, Err, true, false, IsUtf8, refl, sym, ◌∙◌, ap, subst, arith}
use Rattle.std.specs.Char.{digit_value}
use Rattle.std.specs.Fmt.{decimal}
use Rattle.std.specs.Str.Parse.{ParsesUnsigned}
use Rattle.std.proofs.lemmas.Fmt.{parse-decimal, IsAscii-decimal}
use Rattle.std.proofs.lemmas.Str.{IsUtf8-from_ascii}
use Rattle.std.proofs.lemmas.Str.Parse.{digit_from_value}
use Rattle.canonical_json.specs.Json.{Json, null, boolean, integer, text, array, object, Everywhere, HasMember}
use Rattle.canonical_json.specs.Spelling.{spelling, numeral, IntegerFits, IsCanonical}
use Rattle.canonical_json.proofs.Numerals.{numeral_is_decimal}
use Rattle.document_parts.proofs.Once.{member_once}
use Rattle.drafting.proofs.Inside.{member_fits}

abbrev Reads : {E : Type 0} → Json → Result ℕ E → Type 0
Reads x (Ok n) = x ≡ integer (pos n)
Reads x (Err e) = (n : ℕ) → x ≡ integer (pos n) → ⊥

natural : {E : Type 0} (m : ℕ) (r : Result ℕ E) → m < 2 ^ 63 → ParsesUnsigned 64 10 (numeral m) r → r ≡ Ok m
natural m r less h = parse-decimal 64 m (numeral m) r (omega (arith, less)) (omega (arith, less)) (numeral_is_decimal m (omega (arith, less))) h

same_ok : {E : Type 0} (m n : ℕ) (r : Result ℕ E) → r ≡ Ok m → r ≡ Ok n → m ≡ n
same_ok m n r a b = cc

no_ok : {E : Type 0} (m : ℕ) (e : E) (r : Result ℕ E) → r ≡ Ok m → r ≡ Err e → ⊥
no_ok m e r a b = cc

-- a byte that is no digit
no_digit : (c : ℕ) → digit_value c < 10 → (48 ≤ c → c ≤ 57 → ⊥) → ⊥
no_digit c h apart = let d = digit_from_value c h in apart d.0 d.1

reads : {E : Type 0} (x : Json) (r : Result ℕ E) → Everywhere IntegerFits x → ParsesUnsigned 64 10 (spelling x) r → Reads x r
reads null (Ok n) f h = absurd (no_digit 110 h.0.0.1.0 (λ a b. omega (arith, a, b)))
reads (boolean true) (Ok n) f h = absurd (no_digit 116 h.0.0.1.0 (λ a b. omega (arith, a, b)))
reads (boolean false) (Ok n) f h = absurd (no_digit 102 h.0.0.1.0 (λ a b. omega (arith, a, b)))
reads (text t) (Ok n) f h = absurd (no_digit 34 h.0.0.1.0 (λ a b. omega (arith, a, b)))
reads (array vs) (Ok n) f h = absurd (no_digit 91 h.0.0.1.0 (λ a b. omega (arith, a, b)))
reads (object ms) (Ok n) f h = absurd (no_digit 123 h.0.0.1.0 (λ a b. omega (arith, a, b)))
reads (integer (negsuc m)) (Ok n) f h = absurd (no_digit 45 h.0.0.1.0 (λ a b. omega (arith, a, b)))
reads {E} (integer (pos m)) (Ok n) f h = ap (λ (k : ℕ). integer (pos k)) (same_ok {E = E} m n (Ok n) (natural m (Ok n) f.sfits h) refl)
reads null (Err e) f h = λ n is. cc
reads (boolean b) (Err e) f h = λ n is. cc
reads (text t) (Err e) f h = λ n is. cc
reads (array vs) (Err e) f h = λ n is. cc
reads (object ms) (Err e) f h = λ n is. cc
reads (integer (negsuc m)) (Err e) f h = λ n is. cc
reads {E} (integer (pos m)) (Err e) f h = absurd (no_ok {E = E} m e (Err e) (natural m (Err e) f.sfits h) refl)

abbrev pub IsNumberAt : {E : Type 0} → Json → List ℕ → Result ℕ E → Type 0
IsNumberAt part name (Ok n) = HasMember part name (integer (pos n))
IsNumberAt part name (Err e) = (n : ℕ) → HasMember part name (integer (pos n)) → ⊥

at_member : {E : Type 0} (part : Json) (bytes name : List ℕ) (x : Json) (r : Result ℕ E) → IsCanonical part bytes → HasMember part name x → Reads x r → IsNumberAt part name r
at_member part bytes name x (Ok n) c has is = subst (λ (y : Json). HasMember part name y) is has
at_member part bytes name x (Err e) c has none = λ n h. none n (member_once part name x (integer (pos n)) c.allowed.proper has h)

-- what is parsed of the spelling of a member
pub number_at : {E : Type 0} (part : Json) (bytes name s : List ℕ) (x : Json) (r : Result ℕ E) → IsCanonical part bytes → HasMember part name x → s ≡ spelling x
    → ParsesUnsigned 64 10 s r → IsNumberAt part name r
number_at {E} part bytes name s x r c has is h =
    at_member part bytes name x r c has
    (reads x r (member_fits part name x c.allowed.integers has) (subst (λ (t : List ℕ). ParsesUnsigned {E = E} 64 10 t r) is h))

-- a number is spelled in UTF-8
pub number_utf8 : (part : Json) (bytes name s : List ℕ) (x : Json) (n : ℕ) → IsCanonical part bytes → HasMember part name x → s ≡ spelling x
    → HasMember part name (integer (pos n)) → IsUtf8 s
number_utf8 part bytes name s x n c has is h =
    let same : x ≡ integer (pos n) = member_once part name x (integer (pos n)) c.allowed.proper has h in
    let fits = member_fits part name (integer (pos n)) c.allowed.integers h in
    let less : n < 2 ^ 63 = fits.sfits in
    let spelled : s ≡ decimal n = is ∙ ap spelling same ∙ numeral_is_decimal n (omega (arith, less)) in
    subst (λ (t : List ℕ). IsUtf8 t) (sym spelled) (IsUtf8-from_ascii (decimal n) (IsAscii-decimal n (omega (arith, less))))
