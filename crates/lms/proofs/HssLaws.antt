-- What a key of several levels signs verifies, and each of its one-time keys signs one message.
use Rattle.std.proofs.Common.{◌≡◌, inl, inr, ℕ, zero, suc, ◌+◌, ◌*◌, ◌/◌, ◌%◌, ◌<◌, List, [], ◌∷◌, length, Result, Ok, Err, IfOk, refl, sym, subst, ap, ◌∙◌, arith, length-take-le}
use Rattle.std.proofs.Math.Nat.{div-lt_iff_lt-mul, mod-lt, div-add-mod}
use Rattle.sha2.proofs.Facts256.{length-sha256}
use Rattle.lms.specs.declared.Params.{Params}
use Rattle.lms.specs.Parameters.{signing_type}
use Rattle.lms.specs.Keys.{leaf_count, derived}
use Rattle.lms.specs.Hss.{VerifiesDown, VerifiesHss}
use Rattle.lms.specs.HssKeys.{Spends, child_identifier, child_secret, child_public, message_count, signed_down, tree_public, tree_signature, hss_public_bytes, hss_signature_bytes}
use Rattle.lms.proofs.SignLaws.{signature_verifies}

pub child_sized : (identifier secret : List ℕ) (q : ℕ) → length (child_identifier identifier secret q) ≡ 16
child_sized identifier secret q = length-take-le 16 (derived identifier secret q 0xffff) (omega (arith, length-sha256))

-- the number of a tree below is one of a leaf here, and there are leaves below
module _ (a n g : ℕ) (within : g < a * n) where
  pub some : 0 < n
  some = positive n within
    where
      positive : (k : ℕ) → g < a * k → 0 < k
      positive zero h = absurd (omega (arith, h))
      positive (suc k) h = omega arith

  pub leaf_within : g / n < a
  leaf_within = (div-lt_iff_lt-mul some).1 within

  pub rest_within : g % n < n
  rest_within = mod-lt g some

pub down_verifies : (below : List Params) (params : Params) (identifier secret : List ℕ) (g : ℕ) (message : List ℕ)
    → length identifier ≡ 16 → g < message_count params below
    → VerifiesDown (length below) (tree_public params identifier secret) message (signed_down params below identifier secret g message)
down_verifies [] params identifier secret g message sized within =
    signature_verifies (signing_type params.height) params.ots identifier secret g message sized within
down_verifies (next ∷ below) params identifier secret g message sized within =
    let n = message_count next below in
    let q = g / n in
    let key = child_public next identifier secret q in (
      tree_signature params identifier secret q key,
      key,
      signed_down next below (child_identifier identifier secret q) (child_secret identifier secret q) (g % n) message,
      refl,
      signature_verifies (signing_type params.height) params.ots identifier secret q key sized (leaf_within (leaf_count params) n g within),
      down_verifies below next (child_identifier identifier secret q) (child_secret identifier secret q) (g % n) message
          (child_sized identifier secret q) (rest_within (leaf_count params) n g within),
    )

pub hss_verifies : (params : Params) (below : List Params) (identifier secret : List ℕ) (g : ℕ) (message : List ℕ)
    → length identifier ≡ 16 → length below < 8 → g < message_count params below
    → VerifiesHss (hss_public_bytes params below identifier secret) message (hss_signature_bytes params below identifier secret g message)
hss_verifies params below identifier secret g message sized few within = record {
  signed_keys = length below;
  top = tree_public params identifier secret;
  rest = signed_down params below identifier secret g message;
  levels = record { few = few; key = refl; spelled = refl };
  down = down_verifies below params identifier secret g message sized within;
}

-- a one-time key has a leaf
no_leaf : (params : Params) (below : List Params) (identifier secret : List ℕ) (g : ℕ) (message signed : List ℕ)
    → Spends params below identifier secret g message [] signed → ⊥
no_leaf params [] identifier secret g message signed s = let e : [] ≡ g ∷ [] = s.0 in cc
no_leaf params (next ∷ below) identifier secret g message signed (inl s) = let e : [] ≡ g / message_count next below ∷ [] = s.0 in cc
no_leaf params (next ∷ below) identifier secret g message signed (inr s) = let e : [] ≡ g / message_count next below ∷ s.0 = s.1 in cc

same_number : (f g n : ℕ) → f / n ≡ g / n → f % n ≡ g % n → f ≡ g
same_number f g n d m =
    let a = div-add-mod f n in
    let b = div-add-mod g n in
    sym a ∙ ap (λ (k : ℕ). n * k + f % n) d ∙ ap (λ (k : ℕ). n * (g / n) + k) m ∙ b

heads : (x y : ℕ) (xs ys leaves : List ℕ) → leaves ≡ x ∷ xs → leaves ≡ y ∷ ys → (x ≡ y) × (xs ≡ ys)
heads x y xs ys leaves e f = let whole : x ∷ xs ≡ y ∷ ys = sym e ∙ f in let a : x ≡ y = cc in let b : xs ≡ ys = cc in (a, b)

pub one_signed : (below : List Params) (params : Params) (identifier secret : List ℕ) (f g : ℕ) (m n leaves a b : List ℕ)
    → (f ≡ g → m ≡ n) → Spends params below identifier secret f m leaves a → Spends params below identifier secret g n leaves b → a ≡ b
one_signed [] params identifier secret f g m n leaves a b one s t =
    s.1 ∙ one (heads f g [] [] leaves s.0 t.0).0 ∙ sym t.1
one_signed (next ∷ below) params identifier secret f g m n leaves a b one (inl s) (inl t) =
    let c = message_count next below in
    s.1 ∙ ap (child_public next identifier secret) (heads (f / c) (g / c) [] [] leaves s.0 t.0).0 ∙ sym t.1
one_signed (next ∷ below) params identifier secret f g m n leaves a b one (inl s) (inr t) =
    let c = message_count next below in
    let e = (heads (f / c) (g / c) [] t.0 leaves s.0 t.1).1 in
    absurd (no_leaf next below (child_identifier identifier secret (g / c)) (child_secret identifier secret (g / c)) (g % c) n b
    (let S : List ℕ → Type 0 = λ xs. Spends next below (child_identifier identifier secret (g / c)) (child_secret identifier secret (g / c)) (g % c) n xs b in subst S (sym e) t.2))
one_signed (next ∷ below) params identifier secret f g m n leaves a b one (inr s) (inl t) =
    let c = message_count next below in
    let e = (heads (f / c) (g / c) s.0 [] leaves s.1 t.0).1 in
    absurd (no_leaf next below (child_identifier identifier secret (f / c)) (child_secret identifier secret (f / c)) (f % c) m a
    (let S : List ℕ → Type 0 = λ xs. Spends next below (child_identifier identifier secret (f / c)) (child_secret identifier secret (f / c)) (f % c) m xs a in subst S e s.2))
one_signed (next ∷ below) params identifier secret f g m n leaves a b one (inr s) (inr t) =
    let c = message_count next below in
    let here = heads (f / c) (g / c) s.0 t.0 leaves s.1 t.1 in
    let S : List ℕ → ℕ → Type 0 = λ xs q. Spends next below (child_identifier identifier secret q) (child_secret identifier secret q) (g % c) n xs b in
    let u : S s.0 (f / c) = subst (λ (q : ℕ). S s.0 q) (sym here.0) (subst (λ (xs : List ℕ). S xs (g / c)) (sym here.1) t.2) in
    one_signed below next (child_identifier identifier secret (f / c)) (child_secret identifier secret (f / c)) (f % c) (g % c) m n s.0 a b
    (λ e. one (same_number f g c here.0 e)) s.2 u

-- what is said of a value that was answered
pub if_ok : {A E : Type 0} (P Q : A → Type 0) (r : Result A E) → IfOk r P → ((a : A) → P a → Q a) → IfOk r Q
if_ok P Q (Ok a) holds follows = follows a holds
if_ok P Q (Err e) holds follows = tt
