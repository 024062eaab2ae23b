-- Bytes that are taken apart: what they are made of is determined.
use Rattle.std.proofs.Common.{◌≡◌, ℕ, zero, suc, ◌+◌, ◌*◌, ◌^◌, ◌<◌, ◌≤◌, List, [], ◌∷◌, ◌++◌, length, take, drop, refl, sym, ap, ◌∙◌, arith, append_assoc, length-append, length-drop, append-nil}
use Rattle.std.specs.Int.{w32, from_be_bytes}
use Rattle.std.specs.List.{concat, AllByRecursion}
use Rattle.std.specs.Simd.{first_chunks}
use Rattle.std.proofs.lemmas.List.{take-append-drop, length-take-le}
use Rattle.std.proofs.lemmas.Nat.{from_be_bytes-to_be_bytes_4}
use Rattle.lms.specs.declared.OtsType.{OtsType}
use Rattle.lms.specs.declared.OtsType.TheVariants.{W1, W2, W4, W8}
use Rattle.lms.specs.declared.LmsType.{LmsType}
use Rattle.lms.specs.declared.LmsType.TheVariants.{H5, H10, H15, H20, H25}
use Rattle.lms.specs.Parameters.{ots_code, lms_code, chain_count, height, signature_len}
use Rattle.lms.specs.Text.{u32, IsHash, signature_text}
use Rattle.lms.specs.Parts.{IsSignatureOf}

pub chunks_join : (k : ℕ) (xs : List ℕ) → length xs ≡ 32 * k → concat (first_chunks 32 k xs) ≡ xs
chunks_join zero [] h = refl
chunks_join zero (x ∷ xs) h = absurd (omega arith)
chunks_join (suc k) xs h =
    let n : length (drop 32 xs) ≡ 32 * k = omega (arith, length-drop 32 xs) in
    ap (λ (ys : List ℕ). take 32 xs ++ ys) (chunks_join k (drop 32 xs) n) ∙ take-append-drop 32 xs

pub chunks_each : (k : ℕ) (xs : List ℕ) → length xs ≡ 32 * k → AllByRecursion IsHash (first_chunks 32 k xs)
chunks_each zero xs h = tt
chunks_each (suc k) xs h =
    let n : length (drop 32 xs) ≡ 32 * k = omega (arith, length-drop 32 xs) in
    (length-take-le 32 xs (omega arith), chunks_each k (drop 32 xs) n)

-- equal beginnings of one length come off
pub cancel : (a b x y : List ℕ) → length a ≡ length b → a ++ x ≡ b ++ y → (a ≡ b) × (x ≡ y)
cancel [] [] x y n e = (refl, e)
cancel [] (b ∷ bs) x y n e = absurd (omega arith)
cancel (a ∷ as_) [] x y n e = absurd (omega arith)
cancel (a ∷ as_) (b ∷ bs) x y n e =
    let head : a ≡ b = cc in
    let tail : as_ ++ x ≡ bs ++ y = cc in
    let rest = cancel as_ bs x y (omega arith) tail in
    let whole : a ∷ as_ ≡ b ∷ bs = cc (rest.0) in
    (whole, rest.1)

pub concat_length : (xs : List (List ℕ)) → AllByRecursion IsHash xs → length (concat xs) ≡ 32 * length xs
concat_length [] h = refl
concat_length (x ∷ xs) h =
    let rest = concat_length xs h.1 in
    let here : length x ≡ 32 = h.0 in
    let both = length-append x (concat xs) in
    omega (arith, rest, here, both)

pub concat_one : (xs ys : List (List ℕ)) → AllByRecursion IsHash xs → AllByRecursion IsHash ys → length xs ≡ length ys → concat xs ≡ concat ys → xs ≡ ys
concat_one [] [] h k n e = refl
concat_one [] (y ∷ ys) h k n e = absurd (omega arith)
concat_one (x ∷ xs) [] h k n e = absurd (omega arith)
concat_one (x ∷ xs) (y ∷ ys) h k n e =
    let parts = cancel x y (concat xs) (concat ys) (h.0 ∙ sym k.0) e in
    let rest = concat_one xs ys h.1 k.1 (omega arith) parts.1 in
    cc (parts.0, rest)

pub word_one : (m n : ℕ) → m < 2 ^ 32 → n < 2 ^ 32 → u32 m ≡ u32 n → m ≡ n
word_one m n p q e = sym (from_be_bytes-to_be_bytes_4 m p) ∙ ap (from_be_bytes w32) e ∙ from_be_bytes-to_be_bytes_4 n q

pub leaves_small : (lms : LmsType) → 2 ^ height lms ≤ 2 ^ 25
leaves_small H5 = omega arith
leaves_small H10 = omega arith
leaves_small H15 = omega arith
leaves_small H20 = omega arith
leaves_small H25 = omega arith

pub ots_code_small : (ots : OtsType) → ots_code ots < 2 ^ 32
ots_code_small W1 = omega arith
ots_code_small W2 = omega arith
ots_code_small W4 = omega arith
ots_code_small W8 = omega arith

pub lms_code_small : (lms : LmsType) → lms_code lms < 2 ^ 32
lms_code_small H5 = omega arith
lms_code_small H10 = omega arith
lms_code_small H15 = omega arith
lms_code_small H20 = omega arith
lms_code_small H25 = omega arith

-- the parts of a signature, with any two numbers in the place of the types
abbrev pub spelled_by : ℕ → ℕ → List ℕ → List (List ℕ) → ℕ → List (List ℕ) → List ℕ
spelled_by q c randomizer elements l path = u32 q ++ (u32 c ++ (randomizer ++ (concat elements ++ (u32 l ++ concat path))))

pub record SameParts (q c : ℕ) (r : List ℕ) (e : List (List ℕ)) (l : ℕ) (p : List (List ℕ)) (q' c' : ℕ) (r' : List ℕ) (e' : List (List ℕ)) (l' : ℕ) (p' : List (List ℕ)) : Type 0 where
  pub same_q : q ≡ q'
  pub same_ots : c ≡ c'
  pub same_randomizer : r ≡ r'
  pub same_elements : e ≡ e'
  pub same_lms : l ≡ l'
  pub same_path : p ≡ p'

pub record AreParts (n h q c : ℕ) (r : List ℕ) (e : List (List ℕ)) (l : ℕ) (p : List (List ℕ)) : Type 0 where
  pub q_small : q < 2 ^ 32
  pub ots_small : c < 2 ^ 32
  pub lms_small : l < 2 ^ 32
  pub r_len : length r ≡ 32
  pub e_count : length e ≡ n
  pub e_len : AllByRecursion IsHash e
  pub p_count : length p ≡ h
  pub p_len : AllByRecursion IsHash p

pub parts_one : (n h q c : ℕ) (r : List ℕ) (e : List (List ℕ)) (l : ℕ) (p : List (List ℕ)) (q' c' : ℕ) (r' : List ℕ) (e' : List (List ℕ)) (l' : ℕ) (p' : List (List ℕ))
    → AreParts n h q c r e l p → AreParts n h q' c' r' e' l' p'
    → spelled_by q c r e l p ≡ spelled_by q' c' r' e' l' p' → SameParts q c r e l p q' c' r' e' l' p'
parts_one n h q c r e l p q' c' r' e' l' p' a b same =
    let s1 = cancel (u32 q) (u32 q') _ _ refl same in
    let s2 = cancel (u32 c) (u32 c') _ _ refl s1.1 in
    let s3 = cancel r r' _ _ (a.r_len ∙ sym b.r_len) s2.1 in
    let counts : length e ≡ length e' = a.e_count ∙ sym b.e_count in
    let lens : length (concat e) ≡ length (concat e') = omega (arith, concat_length e a.e_len, concat_length e' b.e_len, counts) in
    let s4 = cancel (concat e) (concat e') _ _ lens s3.1 in
    let s5 = cancel (u32 l) (u32 l') _ _ refl s4.1 in
    record {
      same_q = word_one q q' a.q_small b.q_small s1.0;
      same_ots = word_one c c' a.ots_small b.ots_small s2.0;
      same_randomizer = s3.0;
      same_elements = concat_one e e' a.e_len b.e_len counts s4.0;
      same_lms = word_one l l' a.lms_small b.lms_small s5.0;
      same_path = concat_one p p' a.p_len b.p_len (a.p_count ∙ sym b.p_count) s5.1;
    }

pub signature_spelled : (lms : LmsType) (ots : OtsType) (q : ℕ) (r : List ℕ) (e p : List (List ℕ))
    → signature_text lms ots q r e p ≡ spelled_by q (ots_code ots) r e (lms_code lms) p
signature_spelled lms ots q r e p = simp append_assoc

pub signature_parts : (lms : LmsType) (ots : OtsType) (s : List ℕ) (q : ℕ) (r : List ℕ) (e p : List (List ℕ)) → IsSignatureOf lms ots s q r e p
    → AreParts (chain_count ots) (height lms) q (ots_code ots) r e (lms_code lms) p
signature_parts lms ots s q r e p is = record {
  q_small = omega (arith, is.leaf, leaves_small lms);
  ots_small = ots_code_small ots;
  lms_small = lms_code_small lms;
  r_len = is.randomizer_len;
  e_count = is.elements_count;
  e_len = is.elements_len;
  p_count = is.path_count;
  p_len = is.path_len;
}

spelled_length : (n h q c : ℕ) (r : List ℕ) (e : List (List ℕ)) (l : ℕ) (p : List (List ℕ)) → AreParts n h q c r e l p → length (spelled_by q c r e l p) ≡ 12 + 32 * (n + 1) + 32 * h
spelled_length n h q c r e l p a =
    let le = concat_length e a.e_len in
    let lp = concat_length p a.p_len in
    let n1 = length-append (concat e) (u32 l ++ concat p) in
    let n2 = length-append r (concat e ++ (u32 l ++ concat p)) in
    omega (arith, le, lp, n1, n2, a.r_len, a.e_count, a.p_count)

pub signature_length : (lms : LmsType) (ots : OtsType) (s : List ℕ) (q : ℕ) (r : List ℕ) (e p : List (List ℕ)) → IsSignatureOf lms ots s q r e p → length s ≡ signature_len ots lms
signature_length lms ots s q r e p is =
    ap (length {A = ℕ}) (is.spelled ∙ signature_spelled lms ots q r e p)
    ∙ spelled_length (chain_count ots) (height lms) q (ots_code ots) r e (lms_code lms) p (signature_parts lms ots s q r e p is)

-- a signature has one reading
pub signature_one : (lms : LmsType) (ots : OtsType) (s : List ℕ) (q : ℕ) (r : List ℕ) (e p : List (List ℕ)) (q' : ℕ) (r' : List ℕ) (e' p' : List (List ℕ))
    → IsSignatureOf lms ots s q r e p → IsSignatureOf lms ots s q' r' e' p'
    → SameParts q (ots_code ots) r e (lms_code lms) p q' (ots_code ots) r' e' (lms_code lms) p'
signature_one lms ots s q r e p q' r' e' p' a b =
    parts_one (chain_count ots) (height lms) q (ots_code ots) r e (lms_code lms) p q' (ots_code ots) r' e' (lms_code lms) p'
    (signature_parts lms ots s q r e p a) (signature_parts lms ots s q' r' e' p' b)
    (sym (signature_spelled lms ots q r e p) ∙ sym a.spelled ∙ b.spelled ∙ signature_spelled lms ots q' r' e' p')

pub read_spelled : (s : List ℕ) (q : ℕ) (s1 : List ℕ) (c : ℕ) (s2 r s3 : List ℕ) (e : List (List ℕ)) (s4 : List ℕ) (l : ℕ) (s5 : List ℕ) (p : List (List ℕ)) (s6 : List ℕ)
    → s ≡ u32 q ++ s1 → s1 ≡ u32 c ++ s2 → s2 ≡ r ++ s3 → s3 ≡ concat e ++ s4 → s4 ≡ u32 l ++ s5 → s5 ≡ concat p ++ s6 → length s6 ≡ 0
    → s ≡ spelled_by q c r e l p
read_spelled s q s1 c s2 r s3 e s4 l s5 p [] h1 h2 h3 h4 h5 h6 n =
    let h7 : s5 ≡ concat p = h6 ∙ append-nil (concat p) in
    cc
read_spelled s q s1 c s2 r s3 e s4 l s5 p (x ∷ s6) h1 h2 h3 h4 h5 h6 n = absurd (omega arith)

-- parts that spell a signature of these types have its numbers
pub read_one : (lms : LmsType) (ots : OtsType) (s : List ℕ) (q : ℕ) (r : List ℕ) (e p : List (List ℕ)) (q' c' : ℕ) (r' : List ℕ) (e' : List (List ℕ)) (l' : ℕ) (p' : List (List ℕ))
    → IsSignatureOf lms ots s q r e p → AreParts (chain_count ots) (height lms) q' c' r' e' l' p' → s ≡ spelled_by q' c' r' e' l' p'
    → SameParts q (ots_code ots) r e (lms_code lms) p q' c' r' e' l' p'
read_one lms ots s q r e p q' c' r' e' l' p' a b same =
    parts_one (chain_count ots) (height lms) q (ots_code ots) r e (lms_code lms) p q' c' r' e' l' p'
    (signature_parts lms ots s q r e p a) b (sym (signature_spelled lms ots q r e p) ∙ sym a.spelled ∙ same)
