-- A key and a signature of several levels have one reading, and what a level leaves is what `VerifiesDown` speaks of.
use Rattle.std.proofs.Common.{◌≡◌, ℕ, zero, suc, ◌+◌, ◌-◌, ◌≤◌, ◌⊎◌, inl, inr, List, ◌++◌, length, take, drop, refl, sym, subst, ap, ◌∙◌, arith, length-append}
use Rattle.std.proofs.lemmas.List.{take-append-drop}
use Rattle.lms.specs.declared.OtsType.{OtsType}
use Rattle.lms.specs.declared.LmsType.{LmsType}
use Rattle.lms.specs.Parameters.{signature_len}
use Rattle.lms.specs.Text.{u32, HasTypes}
use Rattle.lms.specs.Parts.{IsKeyOf, IsSignatureOf}
use Rattle.lms.specs.Verifies.{Verifies, hash_count}
use Rattle.lms.specs.Hss.{AreLevels, IsLevel, TakesDown, TakesHashes, VerifiesDown, VerifiesHss, hashes_of, hashes_down}
use Rattle.lms.specs.steps.Levels.{IsOnlyCut}
use Rattle.lms.proofs.Bytes.{cancel, word_one}
use Rattle.lms.proofs.Readings.{has_key, parts_under, length_under, types_one}

-- a key that anything verifies under has 56 bytes, and what verifies has the length of the key's types
pub key_len : (public message signature : List ℕ) → Verifies public message signature → length public ≡ 56
key_len public message signature v =
    let both = length-append v.identifier v.root in
    omega (arith, ap (length {A = ℕ}) v.key, both, v.identifier_len, v.root_len)

pub verified_len : (public message signature : List ℕ) (lms : LmsType) (ots : OtsType) → HasTypes public lms ots → Verifies public message signature
    → length signature ≡ signature_len ots lms
verified_len public message signature lms ots types v =
    let key = has_key public message signature v in
    length_under public signature v.lms v.ots v.identifier v.root v.q v.randomizer v.elements v.path lms ots
    key (parts_under public message signature v v.lms v.ots v.identifier v.root key) types

pub down_len : (n : ℕ) (public message rest : List ℕ) → VerifiesDown n public message rest → length public ≡ 56
down_len zero public message rest v = key_len public message rest v
down_len (suc n) public message rest d = key_len public d.1 d.0 d.4

-- bytes are cut in one way once two lengths are known
pub split_one : (s n l s' n' l' : List ℕ) → length s ≡ length s' → length n ≡ length n' → s ++ (n ++ l) ≡ s' ++ (n' ++ l') → (s ≡ s') × (n ≡ n') × (l ≡ l')
split_one s n l s' n' l' h k e =
    let first = cancel s s' (n ++ l) (n' ++ l') h e in
    let second = cancel n n' l l' k first.1 in
    (first.0, second.0, second.1)

pub length_cut : (whole s n l : List ℕ) → whole ≡ s ++ (n ++ l) → length whole ≡ length s + (length n + length l)
length_cut whole s n l e =
    let outer = length-append s (n ++ l) in
    let inner = length-append n l in
    omega (arith, ap (length {A = ℕ}) e, outer, inner)

-- what is cut off a level has the length of the key's types
pub level_len : (signer rest s n l : List ℕ) (lms : LmsType) (ots : OtsType) → HasTypes signer lms ots → IsLevel signer rest s n l → length s ≡ signature_len ots lms
level_len signer rest s n l lms ots types level =
    let same = types_one signer level.lms level.ots lms ots level.types types in
    level.signature_length ∙ ap (λ (o : OtsType). signature_len o level.lms) same.1 ∙ ap (signature_len ots) same.0

-- a key and a signature have one number of levels, one top key and one rest
pub levels_one : (public signature : List ℕ) (n : ℕ) (top rest : List ℕ) (n' : ℕ) (top' rest' : List ℕ)
    → AreLevels public signature n top rest → AreLevels public signature n' top' rest' → (n ≡ n') × (top ≡ top') × (rest ≡ rest')
levels_one public signature n top rest n' top' rest' a b =
    let words = cancel (u32 n) (u32 n') rest rest' refl (sym a.spelled ∙ b.spelled) in
    let tops = cancel (u32 (n + 1)) (u32 (n' + 1)) top top' refl (sym a.key ∙ b.key) in
    (word_one n n' (omega (arith, a.few)) (omega (arith, b.few)) words.0, tops.1, words.1)

-- a front and a back make up the bytes
pub joined : (xs front back : List ℕ) (k : ℕ) → front ≡ take k xs → back ≡ drop k xs → xs ≡ front ++ back
joined xs front back k f b = let whole = take-append-drop k xs in cc

-- what the count of one verification says of a proof that it holds
pub ticked : (public message signature : List ℕ) (before after : ℕ)
    → ((lms : LmsType) (ots : OtsType) (identifier root : List ℕ) (q : ℕ) (randomizer : List ℕ) (elements path : List (List ℕ))
    → IsKeyOf public lms ots identifier root → IsSignatureOf lms ots signature q randomizer elements path
    → after ≡ before + hash_count lms ots identifier message q randomizer)
    → (v : Verifies public message signature) → after ≡ before + hashes_of public message signature v
ticked public message signature before after counted v =
    let key = has_key public message signature v in
    counted v.lms v.ots v.identifier v.root v.q v.randomizer v.elements v.path key
    (parts_under public message signature v v.lms v.ots v.identifier v.root key)

-- what the count of one verification says of it, valid or not
pub took : (public message signature : List ℕ) (before after : ℕ)
    → ((lms : LmsType) (ots : OtsType) (identifier root : List ℕ) (q : ℕ) (randomizer : List ℕ) (elements path : List (List ℕ))
    → IsKeyOf public lms ots identifier root → IsSignatureOf lms ots signature q randomizer elements path
    → after ≡ before + hash_count lms ots identifier message q randomizer)
    → (((lms : LmsType) (ots : OtsType) (identifier root : List ℕ) (q : ℕ) (randomizer : List ℕ) (elements path : List (List ℕ))
    → IsKeyOf public lms ots identifier root → IsSignatureOf lms ots signature q randomizer elements path → ⊥) → after ≡ before)
    → TakesHashes public message signature (after - before)
took public message signature before after counted refused = record {
  parts = λ lms ots i root q r e p key is. let all = counted lms ots i root q r e p key is in omega (arith, all);
  none = λ no. let same = refused no in omega (arith, same);
}

-- the first level of a proof, cut as it has to be
module _ (m : ℕ) (signer message rest s n l : List ℕ)
    (only : IsOnlyCut signer rest s n l) (d : VerifiesDown (suc m) signer message rest) where
  abbrev Level : List ℕ → List ℕ → List ℕ → Type 0
  Level s' n' l' = (v : Verifies signer n' s') × (later : VerifiesDown m n' message l')
      × (hashes_down (suc m) signer message rest d ≡ hashes_of signer n' s' v + hashes_down m n' message l' later)

  pub one_level : (v : Verifies signer n s) × (later : VerifiesDown m n message l)
      × (hashes_down (suc m) signer message rest d ≡ hashes_of signer n s v + hashes_down m n message l later)
  one_level =
      let same = only d.0 d.1 d.2 d.3 (down_len m d.1 message d.2 d.5) d.4 in
      let here : Level d.0 d.1 d.2 = (d.4, d.5, refl) in
      let S : List ℕ → Type 0 = λ x. Level x d.1 d.2 in
      let N : List ℕ → Type 0 = λ x. Level s x d.2 in
      let L : List ℕ → Type 0 = λ x. Level s n x in
      subst L same.2 (subst N same.1 (subst S same.0 here))

-- where the bytes begin with no level, or with one that is not signed, they do not verify
pub no_level : (m : ℕ) (signer message rest : List ℕ)
    → ((s n l : List ℕ) → rest ≡ s ++ (n ++ l) → length n ≡ 56 → Verifies signer n s → ⊥) → VerifiesDown (suc m) signer message rest → ⊥
no_level m signer message rest none d = none d.0 d.1 d.2 d.3 (down_len m d.1 message d.2 d.5) d.4

pub not_signed : (m : ℕ) (signer message rest s n l : List ℕ)
    → IsOnlyCut signer rest s n l → (Verifies signer n s → ⊥) → VerifiesDown (suc m) signer message rest → ⊥
not_signed m signer message rest s n l only none d = none (one_level m signer message rest s n l only d).0

added : (steps d total steps' here d' : ℕ) → steps + d ≡ total → d ≡ here + d' → steps' ≡ steps + here → steps' + d' ≡ total
added steps d total steps' here d' h k e = omega arith

module _ (message : List ℕ) (n : ℕ) (top whole : List ℕ) where
  -- after so many hashes so many signed keys are left under a signer: they verify as the whole does, in the rest of its hashes
  pub record IsAsFar (left : ℕ) (signer rest : List ℕ) (steps : ℕ) : Type 0 where
    pub holds : VerifiesDown left signer message rest → VerifiesDown n top message whole
    pub counts : (v : VerifiesDown n top message whole)
        → (w : VerifiesDown left signer message rest) × (steps + hashes_down left signer message rest w ≡ hashes_down n top message whole v)

  pub left_as : (left left' : ℕ) (signer rest : List ℕ) (steps : ℕ) → left ≡ left' → IsAsFar left signer rest steps → IsAsFar left' signer rest steps
  left_as left left' signer rest steps e far = let P : ℕ → Type 0 = λ k. IsAsFar k signer rest steps in subst P e far

  pub at_top : (steps : ℕ) → steps ≡ 0 → IsAsFar n top whole steps
  at_top steps e = record { holds = λ d. d; counts = λ v. (v, omega arith) }

  pub next_level : (m : ℕ) (signer rest : List ℕ) (steps : ℕ) (signature next later : List ℕ) (steps' : ℕ) → IsAsFar (suc m) signer rest steps
      → rest ≡ signature ++ (next ++ later) → IsOnlyCut signer rest signature next later
      → Verifies signer next signature → ((v : Verifies signer next signature) → steps' ≡ steps + hashes_of signer next signature v)
      → IsAsFar m next later steps'
  next_level m signer rest steps signature next later steps' far is only v ticks = record {
    holds = λ d. far.holds (signature, next, later, is, v, d);
    counts = λ w.
        let before = far.counts w in
        let level = one_level m signer message rest signature next later only before.0 in
        (level.1, added steps _ _ steps' _ _ before.1 level.2 (ticks level.0));
  }

  -- where nothing is left that verifies, the whole does not
  pub stuck : (left : ℕ) (signer rest : List ℕ) (steps : ℕ) → IsAsFar left signer rest steps → (VerifiesDown left signer message rest → ⊥)
      → VerifiesDown n top message whole → ⊥
  stuck left signer rest steps far none v = none (far.counts v).0

module _ (message : List ℕ) (n : ℕ) (top whole : List ℕ) where
  -- after so many hashes so many signed keys are left under a signer: what they take is the rest of what the whole takes
  abbrev pub HasTaken : ℕ → List ℕ → List ℕ → ℕ → Type 0
  HasTaken left signer rest steps = (b : ℕ) → TakesDown left signer message rest b → TakesDown n top message whole (steps + b)

  pub taken_left : (left left' : ℕ) (signer rest : List ℕ) (steps : ℕ) → left ≡ left' → HasTaken left signer rest steps → HasTaken left' signer rest steps
  taken_left left left' signer rest steps e taken = let P : ℕ → Type 0 = λ k. HasTaken k signer rest steps in subst P e taken

  pub none_taken : (steps : ℕ) → steps ≡ 0 → HasTaken n top whole steps
  none_taken steps e b t = let P : ℕ → Type 0 = λ k. TakesDown n top message whole k in subst P (let same : b ≡ steps + b = omega (arith, e) in same) t

  to_count : (a b : ℕ) → a ≡ b → TakesDown n top message whole a → TakesDown n top message whole b
  to_count a b e t = let P : ℕ → Type 0 = λ k. TakesDown n top message whole k in subst P e t

  pub next_taken : (m : ℕ) (signer rest : List ℕ) (steps : ℕ) (signature next later : List ℕ) (steps' : ℕ) → HasTaken (suc m) signer rest steps
      → IsLevel signer rest signature next later → Verifies signer next signature → steps ≤ steps' → TakesHashes signer next signature (steps' - steps)
      → HasTaken m next later steps'
  next_taken m signer rest steps signature next later steps' taken is v more here b below =
      let same : steps + ((steps' - steps) + b) ≡ steps' + b = omega (arith, more) in
      to_count _ _ same (taken ((steps' - steps) + b) (inr (signature, next, later, is, steps' - steps, b, refl, here, inr (v, below))))

  -- the last level that is looked at is cut off and does not verify, or none is cut off
  pub unsigned_taken : (m : ℕ) (signer rest : List ℕ) (steps : ℕ) (signature next later : List ℕ) (steps' : ℕ) → HasTaken (suc m) signer rest steps
      → IsLevel signer rest signature next later → (Verifies signer next signature → ⊥) → steps ≤ steps' → TakesHashes signer next signature (steps' - steps)
      → TakesDown n top message whole steps'
  unsigned_taken m signer rest steps signature next later steps' taken is unsigned more here =
      let one : steps' - steps ≡ (steps' - steps) + 0 = omega arith in
      let same : steps + (steps' - steps) ≡ steps' = omega (arith, more) in
      to_count _ _ same (taken (steps' - steps) (inr (signature, next, later, is, steps' - steps, 0, one, here, inl (unsigned, refl))))

  pub uncut_taken : (m : ℕ) (signer rest : List ℕ) (steps : ℕ) → HasTaken (suc m) signer rest steps
      → ((signature next later : List ℕ) → IsLevel signer rest signature next later → ⊥) → TakesDown n top message whole steps
  uncut_taken m signer rest steps taken none = to_count _ _ (omega arith) (taken 0 (inl (none, refl)))

  pub all_taken : (signer rest : List ℕ) (steps steps' : ℕ) → HasTaken 0 signer rest steps → steps ≤ steps' → TakesHashes signer message rest (steps' - steps)
      → TakesDown n top message whole steps'
  all_taken signer rest steps steps' taken more here =
      let same : steps + (steps' - steps) ≡ steps' = omega (arith, more) in
      to_count _ _ same (taken (steps' - steps) here)

-- the levels that were read are those of any proof
pub hss_down : (public message signature : List ℕ) (n : ℕ) (top rest : List ℕ) → AreLevels public signature n top rest → (v : VerifiesHss public message signature)
    → (d : VerifiesDown n top message rest) × (hashes_down n top message rest d ≡ hashes_down v.signed_keys v.top message v.rest v.down)
hss_down public message signature n top rest is v =
    let total = hashes_down v.signed_keys v.top message v.rest v.down in
    let same = levels_one public signature v.signed_keys v.top v.rest n top rest v.levels is in
    let here : (d : VerifiesDown v.signed_keys v.top message v.rest) × (hashes_down v.signed_keys v.top message v.rest d ≡ total) = (v.down, refl) in
    let N : ℕ → Type 0 = λ x. (d : VerifiesDown x v.top message v.rest) × (hashes_down x v.top message v.rest d ≡ total) in
    let T : List ℕ → Type 0 = λ x. (d : VerifiesDown n x message v.rest) × (hashes_down n x message v.rest d ≡ total) in
    let R : List ℕ → Type 0 = λ x. (d : VerifiesDown n top message x) × (hashes_down n top message x d ≡ total) in
    subst R same.2 (subst T same.1 (subst N same.0 here))
