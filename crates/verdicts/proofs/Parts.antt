-- What a fault of a part says of the whole.
use Rattle.std.proofs.Common.{◌≡◌, ◌⊎◌, ◌∙◌, ℕ, List, IfErr, Result, Ok, Err, ap, subst, sym, inl, inr}
use Rattle.hex.specs.Hex.{IsBytes}
use Rattle.document_parts.specs.declared.documents.ShapeFault.{ShapeFault}
use Rattle.document_parts.specs.steps.Faults.{IsIll}
use Rattle.verdicts.specs.declared.case.CaseFault.{CaseFault}
use Rattle.verdicts.specs.declared.case.CaseFault.TheVariants.{OutOfMemory}
use Rattle.verdicts.specs.RuleCase.{IsRuleText, RuleCase}
use Rattle.verdicts.specs.Words.{fault_of_shape, hex_word}
use Rattle.verdicts.proofs.Hexes.{hex_word_one}

-- memory was refused, or nothing is such a part
abbrev pub IsNone : {A : Type 0} → (A → Type 0) → CaseFault → Type 0
IsNone {A} R e = (e ≡ OutOfMemory) ⊎ ((a : A) → R a → ⊥)

pub by_shape : {A : Type 0} (R : A → Type 0) (P : Type 0) (e : ShapeFault) → IsIll P e → ((a : A) → R a → P) → IsNone R (fault_of_shape e)
by_shape R P e (inl memory) f = inl (ap fault_of_shape memory)
by_shape R P e (inr none) f = inr (λ a is. none.1 (f a is))

pub by_part : {A B : Type 0} (R : A → Type 0) (S : B → Type 0) (e : CaseFault) → IsNone S e → ((a : A) → R a → (b : B) × S b) → IsNone R e
by_part R S e (inl memory) f = inl memory
by_part R S e (inr none) f = inr (λ a is. let s = f a is in none s.0 s.1)

-- the same of a last call, whose fault is that of the whole
pub by_part_of : {A B T : Type 0} (R : A → Type 0) (S : B → Type 0) (r : Result T CaseFault) → IfErr r (IsNone S) → ((a : A) → R a → (b : B) × S b) → IfErr r (IsNone R)
by_part_of R S (Ok x) none f = tt
by_part_of R S (Err e) none f = by_part R S e none f

-- a word writes one text down, so that no other case is meant where this text is none
pub only_text : {T : Type 0} (word text : List ℕ) → word ≡ hex_word text → IsBytes text → (r : Result T CaseFault) → IfErr r (IsNone (IsRuleText text))
    → IfErr r (λ e. (e ≡ OutOfMemory) ⊎ ((bytes : List ℕ) (c : RuleCase) → IsBytes bytes → IsRuleText bytes c → word ≡ hex_word bytes → ⊥))
only_text word text is fits (Ok x) none = tt
only_text word text is fits (Err e) (inl memory) = inl memory
only_text word text is fits (Err e) (inr none) = inr (λ bytes c fits' of same.
    none c (subst (λ bs. IsRuleText bs c) (hex_word_one bytes text fits' fits (sym same ∙ is)) of))
