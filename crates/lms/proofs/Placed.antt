-- Bytes after a write over some of them.
use Rattle.std.proofs.Common.{◌≡◌, ℕ, ◌+◌, ◌≤◌, List, ◌∷◌, [], ◌++◌, length, take, drop, sym, ap, ◌∙◌, arith, append_assoc}
use Rattle.std.proofs.lemmas.List.{take-append-drop, take-append-le, take-take, take_all, length-take-le}
use Rattle.std.proofs.Math.Seq.{drop-append_seam}

-- what stood before the place stays
pub keeps : (m at n : ℕ) (old new bytes : List ℕ) → m ≤ at → at ≤ length old → take (at + n) new ≡ take at old ++ bytes → take m new ≡ take m old
keeps m at n old new bytes h k e =
    let here : m ≤ length (take at old) = omega (arith, length-take-le at old k) in
    sym (take-take m (at + n) new (omega arith)) ∙ ap (take m) e ∙ take-append-le m (take at old) bytes here ∙ take-take m at old h

-- what was written up to the end
pub ends : (at n : ℕ) (old new bytes : List ℕ) → at ≤ length old → length new ≤ at + n → take (at + n) new ≡ take at old ++ bytes → drop at new ≡ bytes
ends at n old new bytes h k e =
    let whole : new ≡ take at old ++ bytes = sym (take_all (at + n) new k) ∙ e in
    ap (drop at) whole ∙ ap (λ (i : ℕ). drop i (take at old ++ bytes)) (sym (length-take-le at old h)) ∙ drop-append_seam (take at old) bytes

-- the whole after a write of one byte
pub one_placed : (at : ℕ) (old new : List ℕ) (j : ℕ) → take (at + 1) new ≡ take at old ++ j ∷ [] → drop (at + 1) new ≡ drop (at + 1) old
    → new ≡ take at old ++ j ∷ drop (at + 1) old
one_placed at old new j e f =
    let g : (take at old ++ j ∷ []) ++ drop (at + 1) old ≡ take at old ++ j ∷ drop (at + 1) old = append_assoc (take at old) (j ∷ []) (drop (at + 1) old) in
    sym (take-append-drop (at + 1) new) ∙ ap (λ (xs : List ℕ). xs ++ drop (at + 1) new) e ∙ ap (λ (xs : List ℕ). (take at old ++ j ∷ []) ++ xs) f ∙ g

pub placed_at : (at n m : ℕ) (old new bytes : List ℕ) → at + n ≡ m → take (at + n) new ≡ take at old ++ bytes → take m new ≡ take at old ++ bytes
placed_at at n m old new bytes e f = ap (λ (k : ℕ). take k new) (sym e) ∙ f

-- the whole after a write up to the end
pub filled : (at n : ℕ) (old new bytes : List ℕ) → length new ≤ at + n → take (at + n) new ≡ take at old ++ bytes → new ≡ take at old ++ bytes
filled at n old new bytes k e = sym (take_all (at + n) new k) ∙ e

pub placed_first : (n m : ℕ) (new bytes : List ℕ) → n ≡ m → take (0 + n) new ≡ bytes → take m new ≡ bytes
placed_first n m new bytes e f =
    let g : 0 + n ≡ m = omega arith in
    ap (λ (k : ℕ). take k new) (sym g) ∙ f
