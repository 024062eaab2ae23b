-- The words of a line that begins with `sign`.
use Rattle.std.proofs.Common.{◌≡◌, ◌⊎◌, ℕ, ◌≤◌, ◌<◌, refl, ap, inl, inr, List, [], ◌∷◌, length, map, get_or, slice_index_or, Bor, codes, arith}
use Rattle.verdicts.specs.declared.case.Case.{Case}
use Rattle.verdicts.specs.declared.case.Case.TheVariants.{Json, Lms, Hss, Key, Sign, HssMade, Calendar, Document, Asked, Match, Rules}
use Rattle.verdicts.specs.declared.case.CaseFault.{CaseFault}
use Rattle.verdicts.specs.declared.case.CaseFault.TheVariants.{NotUnderstood, OutOfMemory}
use Rattle.verdicts.specs.Case.{IsCase, IsCaseFault}
use Rattle.verdicts.proofs.Hexes.{IsNoHex}

-- six words
pub six : (ws : List (Bor (List ℕ))) (d : Bor (List ℕ)) → 6 ≤ length ws → length ws < 7
    → map (λ w. w.now) ws ≡ (slice_index_or ws 0 d).now ∷ (slice_index_or ws 1 d).now ∷ (slice_index_or ws 2 d).now
    ∷ (slice_index_or ws 3 d).now ∷ (slice_index_or ws 4 d).now ∷ (slice_index_or ws 5 d).now ∷ []
six [] d least below = absurd (omega (arith, least))
six (a ∷ []) d least below = absurd (omega (arith, least))
six (a ∷ b ∷ []) d least below = absurd (omega (arith, least))
six (a ∷ b ∷ x ∷ []) d least below = absurd (omega (arith, least))
six (a ∷ b ∷ x ∷ y ∷ []) d least below = absurd (omega (arith, least))
six (a ∷ b ∷ x ∷ y ∷ z ∷ []) d least below = absurd (omega (arith, least))
six (a ∷ b ∷ x ∷ y ∷ z ∷ w ∷ []) d least below = refl
six (a ∷ b ∷ x ∷ y ∷ z ∷ w ∷ v ∷ ws) d least below = absurd (omega (arith, below))

-- a fault of a part is one of the line
pub by_fault : (words : List (List ℕ)) (e : CaseFault) (Bad : Type 0) → (e ≡ OutOfMemory) ⊎ Bad
    → (Bad → (c : Case) → IsCase words c → ⊥) → IsCaseFault words e
by_fault words OutOfMemory Bad _ none = tt
by_fault words NotUnderstood Bad (inl memory) none = absurd cc
by_fault words NotUnderstood Bad (inr bad) none = none bad

-- the last of six words writes no bytes down
pub no_message : (a b i s q m : List ℕ) → IsNoHex m → (c : Case) → IsCase (codes "sign" ∷ a ∷ b ∷ i ∷ s ∷ q ∷ m ∷ []) c → ⊥
no_message a b i s q m bad (Json part) is = let e = ap length is.0 in omega (arith, e)
no_message a b i s q m bad (Lms public signature message) is = let e = ap length is.0 in omega (arith, e)
no_message a b i s q m bad (Hss public signature message) is = let e = ap length is.0 in omega (arith, e)
no_message a b i s q m bad (Key key) is = let e = ap length is.0 in omega (arith, e)
no_message a b i s q m bad (HssMade seed levels leaf message) is = let e = ap length is.0 in omega (arith, e)
no_message a b i s q m bad (Calendar text) is = let e = ap length is.0 in omega (arith, e)
no_message a b i s q m bad (Document kind bytes) is = let e = ap length is.0 in omega (arith, e)
no_message a b i s q m bad (Asked text) is = let e = ap length is.0 in omega (arith, e)
no_message a b i s q m bad (Match covering pattern path) is = let e = ap length is.0 in omega (arith, e)
no_message a b i s q m bad (Rules part) is = let e = ap length is.1 in omega (arith, e)
no_message a b i s q m bad (Sign seed params leaf message) is =
    bad message.items is.4 (ap (λ (ws : List (List ℕ)). get_or ws 6 []) is.0)
