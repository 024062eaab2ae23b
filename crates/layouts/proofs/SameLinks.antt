-- Links that say the same.
use Rattle.std.proofs.Common.{inl, inr, List, [], ◌∷◌, refl, sym, subst, ◌∙◌}
use Rattle.std.specs.List.{AllByRecursion}
use Rattle.keys_roles.specs.steps.Counting.{IsIn}
use Rattle.keys_roles.proofs.Elements.{for_each, of_each}
use Rattle.document_parts.specs.Links.{Link}
use Rattle.layouts.specs.Layouts.{SameArtifacts}
use Rattle.layouts.specs.steps.Gathering.{FirstAgrees, Signed}

pub same_back : (a b : Link) → SameArtifacts a b → SameArtifacts b a
same_back a b h = (sym h.0, sym h.1)

pub same_on : (a b c : Link) → SameArtifacts a b → SameArtifacts b c → SameArtifacts a c
same_on a b c h k = (h.0 ∙ k.0, h.1 ∙ k.1)

with_first : (g : Signed) (goods : List Signed) (h : Signed) → AllByRecursion (λ x. SameArtifacts g.0 x.0) goods → IsIn (g ∷ goods) h → SameArtifacts g.0 h.0
with_first g goods h each (inl e) = subst (λ (x : Signed). SameArtifacts g.0 x.0) e (refl, refl)
with_first g goods h each (inr k) = of_each (λ (x : Signed). SameArtifacts g.0 x.0) goods h each k

pub any_two : (goods : List Signed) → FirstAgrees goods → (a b : Signed) → IsIn goods a → IsIn goods b → SameArtifacts a.0 b.0
any_two [] first a b h k = absurd h
any_two (g ∷ goods) first a b h k = same_on a.0 g.0 b.0 (same_back g.0 a.0 (with_first g goods a first h)) (with_first g goods b first k)

pub first_agrees : (goods : List Signed) → ((a b : Signed) → IsIn goods a → IsIn goods b → SameArtifacts a.0 b.0) → FirstAgrees goods
first_agrees [] two = tt
first_agrees (g ∷ goods) two = for_each (λ (x : Signed). SameArtifacts g.0 x.0) goods (λ x h. two g x (inl refl) (inr h))
