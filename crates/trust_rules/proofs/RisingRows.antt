-- Rows of which each is one.
use Rattle.std.proofs.Common.{◌≡◌, List, [], ◌∷◌, length, refl, sym, subst, arith, true, false}
use Rattle.std.specs.Prelude.{All, IsTrue, ◌↔◌}
use Rattle.std.proofs.lemmas.Bool.{true≢false}
use Rattle.std.proofs.lemmas.List.Elements.{All-nil, All-cons, All-head, All-tail}

pub all_fails : {X : Type 0} (P : X → Type 0) (x : X) (xs rest whole : List X) → rest ≡ x ∷ xs → (P x → ⊥)
    → (All P rest) ↔ (All P whole) → (IsTrue false) ↔ (All P whole)
all_fails {X} P x xs rest whole e fails same = (
  (λ t. absurd (true≢false (sym t))),
  (λ all. absurd (fails (All-head P x xs (subst (λ (l : List X). All P l) e (same.1 all))))),
)

pub all_goes : {X : Type 0} (P : X → Type 0) (x : X) (xs rest whole : List X) → rest ≡ x ∷ xs → P x
    → (All P rest) ↔ (All P whole) → (All P xs) ↔ (All P whole)
all_goes {X} P x xs rest whole e here same = (
  (λ all. same.0 (subst (λ (l : List X). All P l) (sym e) (All-cons P x xs here all))),
  (λ all. All-tail P x xs (subst (λ (l : List X). All P l) e (same.1 all))),
)

pub all_ends : {X : Type 0} (P : X → Type 0) (rest whole : List X) → length rest ≡ 0
    → (All P rest) ↔ (All P whole) → (IsTrue true) ↔ (All P whole)
all_ends P [] whole e same = ((λ t. same.0 (All-nil P)), (λ all. refl))
all_ends P (x ∷ xs) whole e same = absurd (omega arith)

pub first_holds : {X : Type 0} (P : X → Type 0) (x : X) (xs rest : List X) → rest ≡ x ∷ xs → All P rest → P x
first_holds {X} P x xs rest e all = All-head P x xs (subst (λ (l : List X). All P l) e all)

pub later_hold : {X : Type 0} (P : X → Type 0) (x : X) (xs rest : List X) → rest ≡ x ∷ xs → All P rest → All P xs
later_hold {X} P x xs rest e all = All-tail P x xs (subst (λ (l : List X). All P l) e all)
