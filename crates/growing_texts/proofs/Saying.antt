-- More after more, and the parts of a text one after the other.
use Rattle.std.proofs.Common.{◌≡◌, inl, inr, ◌∙◌, ℕ, List, ◌++◌, Option, Some, None, sym, ap}
use Rattle.std.proofs.lemmas.List.{append_assoc}
use Rattle.growing_texts.specs.Texts.{Says, said}
use Rattle.growing_texts.specs.declared.writing.Text.{Text}

some_one : (a b : List ℕ) → Some a ≡ Some b → a ≡ b
some_one a b e = cc

none_some : (o : Option (List ℕ)) (a : List ℕ) → o ≡ None → o ≡ Some a → ⊥
none_some o a n s = cc

pub then : (a b c : Text) (x y : List ℕ) → Says a b x → Says b c y → Says a c (x ++ y)
then a b c x y first (inl none) = inl none
then a b c x y (inl none) (inr later) = absurd (none_some (said b) later.0 none later.1)
then a b c x y (inr first) (inr later) =
    let one : later.0 ≡ first.0 ++ x = some_one later.0 (first.0 ++ x) (sym later.1 ∙ first.2) in
    inr (first.0, first.1, later.2 ∙ ap (λ (t : List ℕ). Some (t ++ y)) one ∙ ap (λ (t : List ℕ). Some t) (append_assoc first.0 x y))
