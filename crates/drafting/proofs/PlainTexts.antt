-- Texts that stand for themselves between quotation marks.
use Rattle.std.proofs.Common.{◌≡◌, ◌≢◌, ℕ, zero, suc, ◌+◌, List, [], ◌∷◌, ◌++◌, length, flat_map, ne_eqb, refl, sym, ◌∙◌, ap, subst, arith}
use Rattle.canonical_json.specs.Spelling.{byte_spelling, text_spelling}
use Rattle.drafting.specs.Names.{IsPlain, IsPlainByte}

spelled_byte : (b : ℕ) → IsPlainByte b → byte_spelling b ≡ b ∷ []
spelled_byte b h = rw (ne_eqb b 34 h.0) (rw (ne_eqb b 92 h.1) refl)

itself : (t : List ℕ) → IsPlain t → flat_map byte_spelling t ≡ t
itself [] h = refl
itself (b ∷ t) h = ap (λ s. s ++ flat_map byte_spelling t) (spelled_byte b h.0) ∙ ap (λ s. b ∷ s) (itself t h.1)

marked : (t : List ℕ) → IsPlain t → text_spelling t ≡ 34 ∷ t ++ 34 ∷ []
marked t h = ap (λ (s : List ℕ). 34 ∷ s ++ 34 ∷ []) (itself t h)

no_end : (xs : List ℕ) (x : ℕ) → [] ≡ xs ++ x ∷ [] → ⊥
no_end [] x e = cc
no_end (y ∷ xs) x e = cc

-- two lists with one more at their ends
same_ends : (xs ys : List ℕ) (x y : ℕ) → xs ++ x ∷ [] ≡ ys ++ y ∷ [] → (xs ≡ ys) × (x ≡ y)
same_ends [] [] x y e = (refl, cc)
same_ends [] (b ∷ ys) x y e = absurd (no_end ys y (cc))
same_ends (a ∷ xs) [] x y e = absurd (no_end xs x (cc))
same_ends (a ∷ xs) (b ∷ ys) x y e =
    let first : a ≡ b = cc in
    let later : xs ++ x ∷ [] ≡ ys ++ y ∷ [] = cc in
    let both = same_ends xs ys x y later in
    (ap (λ (z : ℕ). z ∷ xs) first ∙ ap (λ (zs : List ℕ). b ∷ zs) both.0, both.1)

-- what stands at the ends of a plain text's spelling, and between them
pub ends : (t inside rest s : List ℕ) (first last : ℕ) → IsPlain t → s ≡ text_spelling t → s ≡ first ∷ rest → rest ≡ inside ++ last ∷ []
    → (first ≡ 34) × (inside ≡ t) × (last ≡ 34)
ends t inside rest s first last p e cut end =
    let whole : first ∷ rest ≡ 34 ∷ t ++ 34 ∷ [] = sym cut ∙ e ∙ marked t p in
    let one : first ≡ 34 = cc in
    let other : rest ≡ t ++ 34 ∷ [] = cc in
    let both = same_ends inside t last 34 (sym end ∙ other) in
    (one, both.0, both.1)

-- between two quotation marks stands a text
pub spelled : (s rest inside t : List ℕ) (first last : ℕ) → s ≡ first ∷ rest → rest ≡ inside ++ last ∷ [] → first ≡ 34 → last ≡ 34 → t ≡ inside → IsPlain inside
    → s ≡ text_spelling t
spelled s rest inside t first last cut end one other is p =
    let plain : IsPlain t = subst (λ (z : List ℕ). IsPlain z) (sym is) p in
    let whole : s ≡ 34 ∷ t ++ 34 ∷ [] = cut ∙ ap (λ (z : ℕ). z ∷ rest) one ∙ ap (λ (zs : List ℕ). 34 ∷ zs) (end ∙ ap (λ (zs : List ℕ). zs ++ last ∷ []) (sym is) ∙ ap (λ (z : ℕ). t ++ z ∷ []) other) in
    whole ∙ sym (marked t plain)
