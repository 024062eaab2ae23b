-- The words of a line that begins with `hss_made`.
use Rattle.std.proofs.Common.{◌≡◌, ℕ, ◌≤◌, ◌<◌, ◌^◌, refl, ap, List, [], ◌∷◌, length, map, get_or, slice_index_or, Bor, codes, decimal, arith}
use Rattle.hex.specs.Hex.{IsBytes}
use Rattle.verdicts.specs.declared.case.Case.{Case}
use Rattle.verdicts.specs.declared.case.Case.TheVariants.{Json, Lms, Hss, Key, Sign, HssMade, Calendar, Document, Asked, Match, Rules}
use Rattle.verdicts.specs.Case.{IsBytesOf, IsCase}
use Rattle.verdicts.specs.Words.{hex_word}

-- eight words
pub eight : (ws : List (Bor (List ℕ))) (d : Bor (List ℕ)) → 8 ≤ length ws → length ws < 9
    → map (λ w. w.now) ws ≡ (slice_index_or ws 0 d).now ∷ (slice_index_or ws 1 d).now ∷ (slice_index_or ws 2 d).now ∷ (slice_index_or ws 3 d).now
    ∷ (slice_index_or ws 4 d).now ∷ (slice_index_or ws 5 d).now ∷ (slice_index_or ws 6 d).now ∷ (slice_index_or ws 7 d).now ∷ []
eight [] d least below = absurd (omega (arith, least))
eight (a ∷ []) d least below = absurd (omega (arith, least))
eight (a ∷ b ∷ []) d least below = absurd (omega (arith, least))
eight (a ∷ b ∷ x ∷ []) d least below = absurd (omega (arith, least))
eight (a ∷ b ∷ x ∷ y ∷ []) d least below = absurd (omega (arith, least))
eight (a ∷ b ∷ x ∷ y ∷ z ∷ []) d least below = absurd (omega (arith, least))
eight (a ∷ b ∷ x ∷ y ∷ z ∷ w ∷ []) d least below = absurd (omega (arith, least))
eight (a ∷ b ∷ x ∷ y ∷ z ∷ w ∷ v ∷ []) d least below = absurd (omega (arith, least))
eight (a ∷ b ∷ x ∷ y ∷ z ∷ w ∷ v ∷ u ∷ []) d least below = refl
eight (a ∷ b ∷ x ∷ y ∷ z ∷ w ∷ v ∷ u ∷ t ∷ ws) d least below = absurd (omega (arith, below))

-- what eight words write down, as far as faults are told of it
pub record MadeParts (s q m : List ℕ) : Type 0 where
  pub secret : List ℕ
  pub leaf : ℕ
  pub message : List ℕ
  pub secret_is : s ≡ hex_word secret
  pub secret_bytes : IsBytesOf 32 secret
  pub leaf_is : q ≡ decimal leaf
  pub leaf_small : leaf < 2 ^ 32
  pub message_is : m ≡ hex_word message
  pub message_bytes : IsBytes message

-- the words are those of no other case
pub parts_made : (a b k l i s q m : List ℕ) (c : Case) → IsCase (codes "hss_made" ∷ a ∷ b ∷ k ∷ l ∷ i ∷ s ∷ q ∷ m ∷ []) c → MadeParts s q m
parts_made a b k l i s q m (Json part) is = absurd (let e = ap length is.0 in omega (arith, e))
parts_made a b k l i s q m (Lms public signature message) is = absurd (let e = ap length is.0 in omega (arith, e))
parts_made a b k l i s q m (Hss public signature message) is = absurd (let e = ap length is.0 in omega (arith, e))
parts_made a b k l i s q m (Key key) is = absurd (let e = ap length is.0 in omega (arith, e))
parts_made a b k l i s q m (Sign seed params leaf message) is = absurd (let e = ap length is.0 in omega (arith, e))
parts_made a b k l i s q m (Calendar text) is = absurd (let e = ap length is.0 in omega (arith, e))
parts_made a b k l i s q m (Document kind bytes) is = absurd (let e = ap length is.0 in omega (arith, e))
parts_made a b k l i s q m (Asked text) is = absurd (let e = ap length is.0 in omega (arith, e))
parts_made a b k l i s q m (Match covering pattern path) is = absurd (let e = ap length is.0 in omega (arith, e))
parts_made a b k l i s q m (Rules part) is = absurd (let e = ap length is.1 in omega (arith, e))
parts_made a b k l i s q m (HssMade seed levels leaf message) is = record {
  secret = seed.secret;
  leaf = leaf;
  message = message.items;
  secret_is = ap (λ (ws : List (List ℕ)). get_or ws 6 []) is.0;
  secret_bytes = is.2;
  leaf_is = ap (λ (ws : List (List ℕ)). get_or ws 7 []) is.0;
  leaf_small = is.3;
  message_is = ap (λ (ws : List (List ℕ)). get_or ws 8 []) is.0;
  message_bytes = is.4;
}
