-- What a document calls a key.
use Rattle.std.proofs.Common.{◌≡◌, ℕ, zero, suc, ◌<◌, List, [], ◌∷◌, Option, Some, None, IfSome, IfNone, Bor, IsUtf8, IsTrue, true, ◌&&◌, codes, get_or, refl, sym, ◌∙◌, ap, subst, rules, arith}
use Rattle.std.specs.List.{list_all}
use Rattle.std.proofs.lemmas.Bool.{and_parts}
use Rattle.std.proofs.lemmas.Bool.Decides.{nat_tests}
use Rattle.std.proofs.lemmas.Str.{IsUtf8-from_ascii}
use Rattle.path_patterns.specs.Bytes.{is_hex}
use Rattle.path_patterns.specs.Grammar.{IsHex}
use Rattle.canonical_json.specs.Json.{Json, text, HasMember}
use Rattle.canonical_json.specs.Spelling.{text_spelling, spelling, IsCanonical}
use Rattle.document_parts.proofs.Once.{member_once, member_proper}
use Rattle.drafting.specs.Names.{Calls, IsPlain}
use Rattle.drafting.proofs.Inside.{member_canonical}

-- ---- digits are UTF-8

below : (b : ℕ) → is_hex b ≡ true → b < 128
below b h = grind (arith, nat_tests)

ascii_at : (bytes : List ℕ) → list_all is_hex bytes ≡ true → (k : ℕ) → get_or bytes k 0 < 128
ascii_at [] h k = omega arith
ascii_at (b ∷ bytes) h zero = below b (and_parts (is_hex b) (list_all is_hex bytes) h).0
ascii_at (b ∷ bytes) h (suc k) = ascii_at bytes (and_parts (is_hex b) (list_all is_hex bytes) h).1 k

pub digits_utf8 : (bytes : List ℕ) → IsHex 64 bytes → IsUtf8 bytes
digits_utf8 bytes h = IsUtf8-from_ascii bytes (ascii_at bytes (search rules))

-- ---- the member `names`

inner : (part names : Json) (signed bytes : List ℕ) → IsCanonical part signed → HasMember part (codes "names") names → bytes ≡ spelling names → IsCanonical names bytes
inner part names signed bytes can has is = subst (λ (s : List ℕ). IsCanonical names s) (sym is) (member_canonical part signed (codes "names") names can has)

own : (part names : Json) (signed id name : List ℕ) → IsCanonical part signed → HasMember part (codes "names") names → Calls part id name → HasMember names id (text name)
own part names signed id name can has calls =
    let same : calls.names ≡ names = member_once part (codes "names") calls.names names can.allowed.proper calls.has has in
    subst (λ (v : Json). HasMember v id (text name)) same calls.called

pub none_there : (part names : Json) (signed bytes id : List ℕ) → IsCanonical part signed → HasMember part (codes "names") names → bytes ≡ spelling names
    → ((v x : Json) → IsCanonical v bytes → HasMember v id x → ⊥) → (name : List ℕ) → Calls part id name → ⊥
none_there part names signed bytes id can has is none name calls =
    none names (text name) (inner part names signed bytes can has is) (own part names signed id name can has calls)

abbrev pub OneValue : Type 0
OneValue = (v w : Json) (bytes : List ℕ) → IsCanonical v bytes → IsCanonical w bytes → v ≡ w

-- the part that is found for the id
pub record IsFoundAt (part : Json) (signed bytes id s : List ℕ) : Type 0 where
  pub names : Json
  pub x : Json
  pub can : IsCanonical part signed
  pub has : HasMember part (codes "names") names
  pub is : bytes ≡ spelling names
  pub there : HasMember names id x
  pub said : s ≡ spelling x

pub found_at : (part names : Json) (signed bytes id s : List ℕ) → IsCanonical part signed → HasMember part (codes "names") names → bytes ≡ spelling names
    → (IsCanonical names bytes → (x : Json) × HasMember names id x × (s ≡ spelling x)) → IsFoundAt part signed bytes id s
found_at part names signed bytes id s can has is f =
    let g = f (inner part names signed bytes can has is) in
    record { names = names; x = g.0; can = can; has = has; is = is; there = g.1; said = g.2 }

pub called : (one : OneValue) (part : Json) (signed bytes id s : List ℕ) → IsFoundAt part signed bytes id s → (r : Option (Bor (List ℕ)))
    → IfSome r (λ t. (s ≡ text_spelling t.now) × IsPlain t.now × IsUtf8 t.now) → IfSome r (λ t. Calls part id t.now)
called one part signed bytes id s f None h = h
called one part signed bytes id s f (Some t) h =
    let x_is : IsCanonical f.x s = subst (λ (z : List ℕ). IsCanonical f.x z) (sym f.said) (member_canonical f.names bytes id f.x (inner part f.names signed bytes f.can f.has f.is) f.there) in
    let t_is : IsCanonical (text t.now) s = record { allowed = record { proper = h.2; integers = tt; nesting = omega arith }; spelled = h.0 } in
    let same : f.x ≡ text t.now = one f.x (text t.now) s x_is t_is in
    record { names = f.names; has = f.has; called = subst (λ (y : Json). HasMember f.names id y) same f.there; plain = h.1 }

pub uncalled : (part : Json) (signed bytes id s : List ℕ) → IsFoundAt part signed bytes id s → (r : Option (Bor (List ℕ)))
    → IfNone r ((t : List ℕ) → IsUtf8 t → IsPlain t → s ≡ text_spelling t → ⊥) → IfNone r ((name : List ℕ) → Calls part id name → ⊥)
uncalled part signed bytes id s f (Some t) h = h
uncalled part signed bytes id s f None h = λ name calls.
    let can = inner part f.names signed bytes f.can f.has f.is in
    let there = own part f.names signed id name f.can f.has calls in
    let same : f.x ≡ text name = member_once f.names id f.x (text name) can.allowed.proper f.there there in
    h name (member_proper f.names id (text name) can.allowed.proper there) calls.plain (f.said ∙ ap spelling same)
