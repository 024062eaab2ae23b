-- A layout and its links have one judgement.
use Rattle.std.proofs.Common.{◌≡◌, ℕ, inl, inr, List, [], ◌∷◌, Some, Ok, Err, refl, sym, ap, ◌∙◌, subst}
use Rattle.std.specs.Prelude.{IfOk, slice_get}
use Rattle.std.specs.List.{AllByRecursion, AllZip, zip}
use Rattle.std.proofs.lemmas.Bool.{cases_order}
use Rattle.keys_roles.specs.Plain.{RoleRule, Table}
use Rattle.document_parts.specs.Documents.{Layout, Step}
use Rattle.metadata.specs.File.{Bytes, File, Name}
use Rattle.document_parts.specs.Links.{Link}
use Rattle.document_parts.specs.Rules.{ArtifactRule, Side, disallow, require}
use Rattle.artifact_rules.specs.Rules.{RulesForbid, RulesRequire}
use Rattle.denials.specs.Orders.{Judged, Order, pass, holds, check}
use Rattle.layouts.specs.Layouts.{AllAgree, IsLinkOf, all, ask, by_links, forbid, hold, layout_holds, ruled, rules_and_product, step_rules}
use Rattle.denials.proofs.DefiniteOrders.{Definite, check-definite, give-definite, then-definite, then-definite-so}

all-definite : {A : Type 0} (f : A → Order (Unit {0})) (xs : List A) → ((x : A) → Definite (f x)) → Definite (all f xs)
all-definite f [] one = give-definite tt
all-definite f (x ∷ xs) one = then-definite (f x) _ (one x) (λ _. all-definite f xs one)

-- ---- rules

-- a forbidding rule is not one that asks
two_rules : (p q : List ℕ) → Some (disallow p) ≡ Some (require q) → ⊥
two_rules p q e = absurd (cc)

module _ (chosen : List Link) (side : Side) (link : Link) (rules : List ArtifactRule) where
  not_both : (i j : ℕ) (p q : List ℕ) → RulesForbid side link chosen rules i p → RulesRequire side link chosen rules j q → ⊥
  not_both i j p q f g = elim (cases_order i j) [
    | inl same ↦ two_rules f.pattern q (sym f.rule ∙ (ap (λ (k : ℕ). slice_get rules k) same ∙ g.rule))
    | inr order ↦ elim order [ inl before ↦ g.first.1 i before f.first.0 | inr after ↦ f.first.1 j after g.first.0 ]
  ]

  ruled-definite : Definite (ruled chosen side link rules)
  ruled-definite _ _ (hold h) (hold k) = refl
  ruled-definite _ _ (hold h) (forbid j p f) = absurd (h j f.first.0)
  ruled-definite _ _ (hold h) (ask j p f) = absurd (h j f.first.0)
  ruled-definite _ _ (forbid j p f) (hold h) = absurd (h j f.first.0)
  ruled-definite _ _ (forbid j p f) (forbid i q g) = refl
  ruled-definite _ _ (forbid j p f) (ask i q g) = absurd (not_both j i p q f g)
  ruled-definite _ _ (ask j p f) (hold h) = absurd (h j f.first.0)
  ruled-definite _ _ (ask j p f) (forbid i q g) = absurd (not_both i j q p g f)
  ruled-definite _ _ (ask j p f) (ask i q g) = refl

steps-definite : (chosen : List Link) (e : Step × Link) → Definite (step_rules chosen e)
steps-definite chosen e = then-definite _ _ (ruled-definite chosen _ e.1 e.0.materials) (λ _. ruled-definite chosen _ e.1 e.0.products)

rules-definite : (chosen : List Link) (steps : List Step) (step : Name) (product digest : Bytes) → Definite (rules_and_product chosen steps step product digest)
rules-definite chosen steps step product digest =
    then-definite _ _ (all-definite (step_rules chosen) (zip steps chosen) (steps-definite chosen)) (λ _. check-definite _ _)

-- ---- the links that are chosen

all_checked : {A : Type 0} (n : ℕ) (P : A → Type 0) (xs : List A) (j : Judged (Unit {0})) → all (λ x. check n (P x)) xs j → IfOk j (λ _. AllByRecursion P xs)
all_checked n P [] (Ok u) h = tt
all_checked n P [] (Err s) h = tt
all_checked n P (x ∷ xs) (Err s) h = tt
all_checked n P (x ∷ xs) (Ok u) (pass (holds p) k) = (p, all_checked n P xs (Ok u) k)

same_link : (l m : Link) → l.name ≡ m.name → l.materials ≡ m.materials → l.products ≡ m.products → l ≡ m
same_link l m p q r = λ i. record { name = p i; materials = q i; products = r i }

module _ (keys : Table) (links : List (File Link)) where
  -- links of one step that agree are one
  one_link : (step : Step) (l m : Link) → AllAgree keys links step → IsLinkOf keys links step l → IsLinkOf keys links step m → l ≡ m
  one_link step l m agree (a, has_a, good_a, is_a) (b, has_b, good_b, is_b) =
      let same = agree a b has_a has_b good_a good_b in
      sym is_a ∙ (same_link a.body b.body (good_a.1.named ∙ sym good_b.1.named) same.0 same.1 ∙ is_b)

  one_choice : (steps : List Step) (ls ms : List Link) → AllByRecursion (AllAgree keys links) steps → AllZip (IsLinkOf keys links) steps ls
      → AllZip (IsLinkOf keys links) steps ms → ls ≡ ms
  one_choice [] [] [] agree h k = refl
  one_choice [] [] (m ∷ ms) agree h k = absurd k
  one_choice [] (l ∷ ls) ms agree h k = absurd h
  one_choice (step ∷ steps) [] ms agree h k = absurd h
  one_choice (step ∷ steps) (l ∷ ls) [] agree h k = absurd k
  one_choice (step ∷ steps) (l ∷ ls) (m ∷ ms) agree h k =
      let here = one_link step l m agree.0 h.0 k.0 in
      let later = one_choice steps ls ms agree.1 h.1 k.1 in cc

by_links-definite : (layout : Layout) (links : List (File Link)) (step : Name) (product digest : Bytes) → AllByRecursion (AllAgree layout.keys links) layout.steps
    → Definite (by_links layout links step product digest)
by_links-definite layout links step product digest agree r q h k =
    rules-definite h.chosen layout.steps step product digest r q h.judged
    (subst (λ (ls : List Link). rules_and_product ls layout.steps step product digest q) (sym (one_choice layout.keys links layout.steps h.chosen k.chosen agree h.each k.each)) k.judged)

pub layout-definite : (layout : File Layout) (owners : RoleRule) (table : Table) (links : List (File Link)) (step : Name) (product digest : Bytes) (now : ℕ)
    → Definite (layout_holds layout owners table links step product digest now)
layout-definite layout owners table links step product digest now =
    then-definite _ _ (check-definite _ _) (λ _.
    then-definite _ _ (check-definite _ _) (λ _.
    then-definite _ _ (all-definite _ layout.body.steps (λ s. check-definite _ _)) (λ _.
    then-definite-so _ _ (all-definite _ layout.body.steps (λ s. check-definite _ _)) (λ u agree.
    by_links-definite layout.body links step product digest (all_checked _ (AllAgree layout.body.keys links) layout.body.steps (Ok u) agree)))))
