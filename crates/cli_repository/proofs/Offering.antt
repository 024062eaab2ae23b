-- The arguments of `publish`: where the role's name of one ends, and one after the other.
use Rattle.std.proofs.Common.{◌≡◌, ℕ, zero, suc, ◌+◌, ◌<◌, true, false, cond, not, List, [], ◌∷◌, ◌++◌, length, take, get_or, refl, ap, ◌∙◌, arith, length-append, ◌==◌, map}
use Rattle.std.specs.List.{list_all, before_first, position_or_len}
use Rattle.std.proofs.lemmas.Bool.{and_parts}
use Rattle.std.proofs.lemmas.List.{take_at, map-append}
use Rattle.std.proofs.lemmas.Bool.Decides.{nat_tests}
use Rattle.path_patterns.specs.Bytes.{is_name_start, is_name_byte}
use Rattle.path_patterns.specs.Grammar.{IsName}
use Rattle.std.specs.Borrow.{Bor}
use Rattle.trust_rules.specs.Offers.{Offer}
use Rattle.trusted_state.specs.Views.{offer_view}
use Rattle.trusted_state.specs.declared.outcome.Offer.{Offer as CodeOffer}
use Rattle.cli_repository.specs.Arguments.{AreDocuments, IsDocument}

-- ---- the colon after a name

start-is : (c : ℕ) → is_name_start c ≡ true → (c == 58) ≡ false
start-is c e = grind (arith, nat_tests)

byte-is : (c : ℕ) → is_name_byte c ≡ true → (c == 58) ≡ false
byte-is c e = grind (arith, nat_tests)

bytes-end : (cs file : List ℕ) → list_all is_name_byte cs ≡ true → position_or_len (λ b. b == 58) (cs ++ 58 ∷ file) ≡ length cs
bytes-end [] file h = refl
bytes-end (c ∷ cs) file h =
    let both = and_parts (is_name_byte c) (list_all is_name_byte cs) h in
    ap (λ t. cond (not t) (1 + position_or_len (λ b. b == 58) (cs ++ 58 ∷ file)) 0) (byte-is c both.0) ∙ omega (arith, bytes-end cs file both.1)

pub name-ends : (role file : List ℕ) → IsName role → position_or_len (λ b. b == 58) (role ++ 58 ∷ file) ≡ length role
name-ends [] file h = absurd h
name-ends (c ∷ cs) file h =
    ap (λ t. cond (not t) (1 + position_or_len (λ b. b == 58) (cs ++ 58 ∷ file)) 0) (start-is c h.0) ∙ omega (arith, bytes-end cs file h.1)

-- a document has a colon
pub has-colon : (argument : List ℕ) (offer : Offer) (file : List ℕ) → IsDocument argument offer file → position_or_len (λ b. b == 58) argument < length argument
has-colon argument offer file d =
    let at = ap (position_or_len (λ b. b == 58)) d.whole ∙ name-ends d.role file d.name in
    let long : length argument ≡ length (d.role ++ 58 ∷ file) = ap (λ (a : List ℕ). length a) d.whole in
    omega (arith, at, simp length-append at long)

-- what stands before its first colon is the role's name
pub role-first : (argument : List ℕ) (offer : Offer) (file : List ℕ) (d : IsDocument argument offer file) → before_first (λ b. b == 58) argument ≡ d.role
role-first argument offer file d =
    let at = ap (position_or_len (λ b. b == 58)) d.whole ∙ name-ends d.role file d.name in
    ap (λ n. take n argument) at ∙ ap (take (length d.role)) d.whole ∙ take_at d.role (58 ∷ file) (length d.role) refl

-- ---- one after the other

pub documents-next : (arguments : List (List ℕ)) (i : ℕ) (documents : List (Offer × List ℕ)) (d : Offer × List ℕ) → i < length arguments
    → AreDocuments (take i arguments) documents → IsDocument (get_or arguments i []) d.0 d.1 → AreDocuments (take (suc i) arguments) (documents ++ d ∷ [])
documents-next [] i documents d lt h is = absurd (omega arith)
documents-next (a ∷ more) zero [] d lt h is = (is, tt)
documents-next (a ∷ more) zero (x ∷ xs) d lt h is = absurd h
documents-next (a ∷ more) (suc i) [] d lt h is = absurd h
documents-next (a ∷ more) (suc i) (x ∷ xs) d lt h is = (h.0, documents-next more i xs d (omega arith) h.1 is)

-- one more is shown after the others
pub shown-next : (items more : List (CodeOffer × Bor (List ℕ))) (d : CodeOffer × Bor (List ℕ)) → more ≡ items ++ d ∷ []
    → map {B = Offer × List ℕ} (λ x. (offer_view x.0, x.1.now)) more ≡ map (λ x. (offer_view x.0, x.1.now)) items ++ (offer_view d.0, d.1.now) ∷ []
shown-next items more d e =
    ap (map (λ (x : CodeOffer × Bor (List ℕ)). (offer_view x.0, x.1.now))) e ∙ map-append (λ (x : CodeOffer × Bor (List ℕ)). (offer_view x.0, x.1.now)) items (d ∷ [])
