-- A key and a signature have one reading, so the parts that are found are those that `Verifies` speaks of.
use Rattle.std.proofs.Common.{◌≡◌, ℕ, List, ◌++◌, length, subst, refl, sym, ap, ◌∙◌, arith, append_assoc, ◌≤◌}
use Rattle.lms.specs.declared.OtsType.{OtsType}
use Rattle.lms.specs.declared.OtsType.TheVariants.{W1, W2, W4, W8}
use Rattle.lms.specs.declared.LmsType.{LmsType}
use Rattle.lms.specs.declared.LmsType.TheVariants.{H5, H10, H15, H20, H25}
use Rattle.lms.specs.Parameters.{ots_code, lms_code, hash_bound, signature_len}
use Rattle.lms.specs.Chains.{message_hash}
use Rattle.lms.proofs.Counts.{chain_steps_most}
use Rattle.lms.specs.Text.{u32, HasTypes, public_text}
use Rattle.lms.specs.Parts.{IsKeyOf, IsSignatureOf}
use Rattle.lms.specs.Verifies.{Verifies, root_by, hash_count}
use Rattle.lms.proofs.Bytes.{cancel, word_one, ots_code_small, lms_code_small, signature_one, signature_length}

ots_one : (a b : OtsType) → ots_code a ≡ ots_code b → a ≡ b
ots_one W1 W1 h = refl
ots_one W2 W2 h = refl
ots_one W4 W4 h = refl
ots_one W8 W8 h = refl
ots_one _ _ h = absurd (omega arith)

lms_one : (a b : LmsType) → lms_code a ≡ lms_code b → a ≡ b
lms_one H5 H5 h = refl
lms_one H10 H10 h = refl
lms_one H15 H15 h = refl
lms_one H20 H20 h = refl
lms_one H25 H25 h = refl
lms_one _ _ h = absurd (omega arith)

pub record SameKey (lms : LmsType) (ots : OtsType) (identifier root : List ℕ) (lms' : LmsType) (ots' : OtsType) (identifier' root' : List ℕ) : Type 0 where
  pub same_lms : lms ≡ lms'
  pub same_ots : ots ≡ ots'
  pub same_identifier : identifier ≡ identifier'
  pub same_root : root ≡ root'

key_spelled : (lms : LmsType) (ots : OtsType) (i r : List ℕ) → public_text lms ots i r ≡ u32 (lms_code lms) ++ (u32 (ots_code ots) ++ (i ++ r))
key_spelled lms ots i r = simp append_assoc

pub key_one : (public : List ℕ) (lms : LmsType) (ots : OtsType) (i r : List ℕ) (lms' : LmsType) (ots' : OtsType) (i' r' : List ℕ)
    → IsKeyOf public lms ots i r → IsKeyOf public lms' ots' i' r' → SameKey lms ots i r lms' ots' i' r'
key_one public lms ots i r lms' ots' i' r' a b =
    let same = sym (key_spelled lms ots i r) ∙ sym a.key ∙ b.key ∙ key_spelled lms' ots' i' r' in
    let s1 = cancel (u32 (lms_code lms)) (u32 (lms_code lms')) _ _ refl same in
    let s2 = cancel (u32 (ots_code ots)) (u32 (ots_code ots')) _ _ refl s1.1 in
    let s3 = cancel i i' _ _ (a.identifier_len ∙ sym b.identifier_len) s2.1 in
    record {
      same_lms = lms_one lms lms' (word_one (lms_code lms) (lms_code lms') (lms_code_small lms) (lms_code_small lms') s1.0);
      same_ots = ots_one ots ots' (word_one (ots_code ots) (ots_code ots') (ots_code_small ots) (ots_code_small ots') s2.0);
      same_identifier = s3.0;
      same_root = s3.1;
    }

module _ (public message signature : List ℕ) (v : Verifies public message signature) where
  pub has_types : HasTypes public v.lms v.ots
  has_types = (v.identifier ++ v.root, v.key ∙ append_assoc (u32 (lms_code v.lms) ++ u32 (ots_code v.ots)) v.identifier v.root)

  pub has_key : IsKeyOf public v.lms v.ots v.identifier v.root
  has_key = record { identifier_len = v.identifier_len; root_len = v.root_len; key = v.key }

  has_parts : IsSignatureOf v.lms v.ots signature v.q v.randomizer v.elements v.path
  has_parts = record {
    randomizer_len = v.randomizer_len;
    elements_count = v.elements_count;
    elements_len = v.elements_len;
    path_count = v.path_count;
    path_len = v.path_len;
    spelled = v.spelled;
    leaf = v.leaf;
  }

  module _ (lms : LmsType) (ots : OtsType) (identifier root : List ℕ) (key : IsKeyOf public lms ots identifier root) where
    same_key : SameKey v.lms v.ots v.identifier v.root lms ots identifier root
    same_key = key_one public v.lms v.ots v.identifier v.root lms ots identifier root has_key key

    -- the parts under the types of the key that was read
    pub parts_under : IsSignatureOf lms ots signature v.q v.randomizer v.elements v.path
    parts_under =
        let P : LmsType → Type 0 = λ l. IsSignatureOf l v.ots signature v.q v.randomizer v.elements v.path in
        let Q : OtsType → Type 0 = λ o. IsSignatureOf lms o signature v.q v.randomizer v.elements v.path in
        subst Q same_key.same_ots (subst P same_key.same_lms has_parts)

pub verifies : (public message signature : List ℕ) (lms : LmsType) (ots : OtsType) (i root : List ℕ) (q : ℕ) (r : List ℕ) (e p : List (List ℕ))
    → IsKeyOf public lms ots i root → IsSignatureOf lms ots signature q r e p → root_by lms ots i message q r e p ≡ root → Verifies public message signature
verifies public message signature lms ots i root q r e p key is leads = record {
  lms = lms;
  ots = ots;
  identifier = i;
  root = root;
  q = q;
  randomizer = r;
  elements = e;
  path = p;
  identifier_len = key.identifier_len;
  root_len = key.root_len;
  randomizer_len = is.randomizer_len;
  elements_count = is.elements_count;
  elements_len = is.elements_len;
  path_count = is.path_count;
  path_len = is.path_len;
  key = key.key;
  spelled = is.spelled;
  leaf = is.leaf;
  leads = leads;
}

root_same : (message : List ℕ) (lms : LmsType) (ots : OtsType) (i : List ℕ) (q : ℕ) (r : List ℕ) (e p : List (List ℕ)) (lms' : LmsType) (ots' : OtsType) (i' : List ℕ) (q' : ℕ) (r' : List ℕ) (e' p' : List (List ℕ))
    → lms ≡ lms' → ots ≡ ots' → i ≡ i' → q ≡ q' → r ≡ r' → e ≡ e' → p ≡ p' → root_by lms ots i message q r e p ≡ root_by lms' ots' i' message q' r' e' p'
root_same message lms ots i q r e p lms' ots' i' q' r' e' p' h1 h2 h3 h4 h5 h6 h7 =
    ap (λ (x : LmsType). root_by x ots i message q r e p) h1
    ∙ ap (λ (x : OtsType). root_by lms' x i message q r e p) h2
    ∙ ap (λ (x : List ℕ). root_by lms' ots' x message q r e p) h3
    ∙ ap (λ (x : ℕ). root_by lms' ots' i' message x r e p) h4
    ∙ ap (λ (x : List ℕ). root_by lms' ots' i' message q' x e p) h5
    ∙ ap (λ (x : List (List ℕ)). root_by lms' ots' i' message q' r' x p) h6
    ∙ ap (λ (x : List (List ℕ)). root_by lms' ots' i' message q' r' e' x) h7

pub leads_to : (public message signature : List ℕ) (lms : LmsType) (ots : OtsType) (i root : List ℕ) (q : ℕ) (r : List ℕ) (e p : List (List ℕ))
    → IsKeyOf public lms ots i root → IsSignatureOf lms ots signature q r e p → Verifies public message signature → root_by lms ots i message q r e p ≡ root
leads_to public message signature lms ots i root q r e p key is v =
    let k = same_key public message signature v lms ots i root key in
    let s = signature_one lms ots signature v.q v.randomizer v.elements v.path q r e p (parts_under public message signature v lms ots i root key) is in
    sym (root_same message v.lms v.ots v.identifier v.q v.randomizer v.elements v.path lms ots i q r e p k.same_lms k.same_ots k.same_identifier s.same_q s.same_randomizer s.same_elements s.same_path)
    ∙ v.leads ∙ k.same_root

pub key_types : (public : List ℕ) (lms : LmsType) (ots : OtsType) (i r : List ℕ) → IsKeyOf public lms ots i r → HasTypes public lms ots
key_types public lms ots i r a = (i ++ r, a.key ∙ append_assoc (u32 (lms_code lms) ++ u32 (ots_code ots)) i r)

pub types_one : (public : List ℕ) (lms : LmsType) (ots : OtsType) (lms' : LmsType) (ots' : OtsType) → HasTypes public lms ots → HasTypes public lms' ots' → (lms ≡ lms') × (ots ≡ ots')
types_one public lms ots lms' ots' a b =
    let same = sym (append_assoc (u32 (lms_code lms)) (u32 (ots_code ots)) a.0) ∙ sym a.1 ∙ b.1 ∙ append_assoc (u32 (lms_code lms')) (u32 (ots_code ots')) b.0 in
    let s1 = cancel (u32 (lms_code lms)) (u32 (lms_code lms')) _ _ refl same in
    let s2 = cancel (u32 (ots_code ots)) (u32 (ots_code ots')) _ _ refl s1.1 in (
      lms_one lms lms' (word_one (lms_code lms) (lms_code lms') (lms_code_small lms) (lms_code_small lms') s1.0),
      ots_one ots ots' (word_one (ots_code ots) (ots_code ots') (ots_code_small ots) (ots_code_small ots') s2.0),
    )

-- the parts of a signature of some types, under the types of a key that was read
pub signature_under : (lms : LmsType) (ots : OtsType) (lms' : LmsType) (ots' : OtsType) (signature : List ℕ) (q : ℕ) (r : List ℕ) (e p : List (List ℕ))
    → lms ≡ lms' → ots ≡ ots' → IsSignatureOf lms ots signature q r e p → IsSignatureOf lms' ots' signature q r e p
signature_under lms ots lms' ots' signature q r e p h k is =
    let P : LmsType → Type 0 = λ l. IsSignatureOf l ots signature q r e p in
    let Q : OtsType → Type 0 = λ o. IsSignatureOf lms' o signature q r e p in
    subst Q k (subst P h is)

pub count_same : (lms : LmsType) (ots : OtsType) (i message : List ℕ) (q : ℕ) (r : List ℕ) (lms' : LmsType) (ots' : OtsType) (i' : List ℕ) (q' : ℕ) (r' : List ℕ)
    → lms ≡ lms' → ots ≡ ots' → i ≡ i' → q ≡ q' → r ≡ r' → hash_count lms ots i message q r ≡ hash_count lms' ots' i' message q' r'
count_same lms ots i message q r lms' ots' i' q' r' h1 h2 h3 h4 h5 =
    ap (λ (x : LmsType). hash_count x ots i message q r) h1
    ∙ ap (λ (x : OtsType). hash_count lms' x i message q r) h2
    ∙ ap (λ (x : List ℕ). hash_count lms' ots' x message q r) h3
    ∙ ap (λ (x : ℕ). hash_count lms' ots' i' message x r) h4
    ∙ ap (λ (x : List ℕ). hash_count lms' ots' i' message q' x) h5

-- the hashes that are counted for one reading of the bytes are those of any
pub count_one : (public message signature : List ℕ) (lms : LmsType) (ots : OtsType) (i root : List ℕ) (q : ℕ) (r : List ℕ) (e p : List (List ℕ)) (lms' : LmsType) (ots' : OtsType) (i' root' : List ℕ) (q' : ℕ) (r' : List ℕ) (e' p' : List (List ℕ))
    → IsKeyOf public lms ots i root → IsSignatureOf lms ots signature q r e p → IsKeyOf public lms' ots' i' root' → IsSignatureOf lms' ots' signature q' r' e' p'
    → hash_count lms ots i message q r ≡ hash_count lms' ots' i' message q' r'
count_one public message signature lms ots i root q r e p lms' ots' i' root' q' r' e' p' a s b t =
    let k = key_one public lms ots i root lms' ots' i' root' a b in
    let u = signature_one lms' ots' signature q r e p q' r' e' p' (signature_under lms ots lms' ots' signature q r e p k.same_lms k.same_ots s) t in
    count_same lms ots i message q r lms' ots' i' q' r' k.same_lms k.same_ots k.same_identifier u.same_q u.same_randomizer

-- they are within the bound of the key's types
pub count_within : (public message : List ℕ) (lms : LmsType) (ots : OtsType) (i root : List ℕ) (q : ℕ) (r : List ℕ) (lms' : LmsType) (ots' : OtsType)
    → IsKeyOf public lms ots i root → HasTypes public lms' ots' → hash_count lms ots i message q r ≤ hash_bound ots' lms'
count_within public message lms ots i root q r lms' ots' a h =
    let same = types_one public lms ots lms' ots' (key_types public lms ots i root a) h in
    let most = chain_steps_most ots (message_hash i q r message) in
    let bound : hash_bound ots lms ≡ hash_bound ots' lms' = ap (λ (o : OtsType). hash_bound o lms) same.1 ∙ ap (hash_bound ots') same.0 in
    omega (arith, most, bound)

pub length_under : (public signature : List ℕ) (lms : LmsType) (ots : OtsType) (i root : List ℕ) (q : ℕ) (r : List ℕ) (e p : List (List ℕ)) (lms' : LmsType) (ots' : OtsType)
    → IsKeyOf public lms ots i root → IsSignatureOf lms ots signature q r e p → HasTypes public lms' ots' → length signature ≡ signature_len ots' lms'
length_under public signature lms ots i root q r e p lms' ots' a s h =
    let same = types_one public lms ots lms' ots' (key_types public lms ots i root a) h in
    signature_length lms ots signature q r e p s ∙ ap (λ (o : OtsType). signature_len o lms) same.1 ∙ ap (signature_len ots') same.0
