-- What is gathered from the items of a list, one after the other.
use Rattle.std.proofs.Common.{◌≡◌, ◌↔◌, ◌⊎◌, inl, inr, List, [], ◌∷◌, ◌++◌, refl, sym, ap, subst, ◌∙◌}
use Rattle.keys_roles.specs.steps.Counting.{IsIn}
use Rattle.keys_roles.proofs.Elements.{in_either, in_front, in_last}
use Rattle.layouts.specs.steps.Gathering.{Signed, Some_of}

module _ {X E : Type 0} (P : X → E → Type 0) where
  -- what is gathered, with what the rest gives, is what there was with what all give
  abbrev pub Grown : List X → List X → List E → List E → Type 0
  Grown all rest first now = (e : E) → (IsIn now e ⊎ Some_of P rest e) ↔ (IsIn first e ⊎ Some_of P all e)

  abbrev pub Adds : X → List E → List E → Type 0
  Adds x now more = (e : E) → IsIn more e ↔ (IsIn now e ⊎ P x e)

  ahead : (later : List X) (x : X) (now more : List E) (e : E) → Adds x now more → IsIn more e ⊎ Some_of P later e → IsIn now e ⊎ Some_of P (x ∷ later) e
  ahead later x now more e adds (inl h) = cases ((adds e).0 h)
    where
      cases : IsIn now e ⊎ P x e → IsIn now e ⊎ Some_of P (x ∷ later) e
      cases (inl k) = inl k
      cases (inr k) = inr (inl k)
  ahead later x now more e adds (inr h) = inr (inr h)

  back : (later : List X) (x : X) (now more : List E) (e : E) → Adds x now more → IsIn now e ⊎ Some_of P (x ∷ later) e → IsIn more e ⊎ Some_of P later e
  back later x now more e adds (inl h) = inl ((adds e).1 (inl h))
  back later x now more e adds (inr (inl h)) = inl ((adds e).1 (inr h))
  back later x now more e adds (inr (inr h)) = inr h

  here : (all later : List X) (x : X) (first now more : List E) → Adds x now more → Grown all (x ∷ later) first now → Grown all later first more
  here all later x first now more adds grown = λ e. (
    (λ h. (grown e).0 (ahead later x now more e adds h)),
    (λ h. back later x now more e adds ((grown e).1 h)),
  )

  pub next : (all rest later : List X) (x : X) (first now more : List E) → rest ≡ x ∷ later → Adds x now more → Grown all rest first now → Grown all later first more
  next all rest later x first now more at adds grown =
      here all later x first now more adds (subst (λ (zs : List X). Grown all zs first now) at grown)

  last : (all : List X) (first now : List E) → Grown all [] first now → (e : E) → IsIn now e ↔ (IsIn first e ⊎ Some_of P all e)
  last all first now grown e = ((λ h. (grown e).0 (inl h)), (λ h. left ((grown e).1 h)))
    where
      left : IsIn now e ⊎ ⊥ → IsIn now e
      left (inl k) = k
      left (inr k) = absurd k

  pub done : (all rest : List X) (first now : List E) → rest ≡ [] → Grown all rest first now → (e : E) → IsIn now e ↔ (IsIn first e ⊎ Some_of P all e)
  done all rest first now at grown = last all first now (subst (λ (zs : List X). Grown all zs first now) at grown)

-- ---- one more, or none

module _ {E : Type 0} (P : E → Type 0) (now : List E) where
  pub kept : ((e : E) → P e → ⊥) → (e : E) → IsIn now e ↔ (IsIn now e ⊎ P e)
  kept none e = ((λ h. inl h), back)
    where
      back : IsIn now e ⊎ P e → IsIn now e
      back (inl h) = h
      back (inr h) = absurd (none e h)

  module _ (new : E) (is : P new) (only : (e : E) → P e → e ≡ new) where
    pub added : (e : E) → IsIn (now ++ new ∷ []) e ↔ (IsIn now e ⊎ P e)
    added e = ((λ h. ahead (in_either now (new ∷ []) e h)), back)
      where
        ahead : IsIn now e ⊎ IsIn (new ∷ []) e → IsIn now e ⊎ P e
        ahead (inl h) = inl h
        ahead (inr (inl h)) = inr (subst P h is)
        ahead (inr (inr h)) = absurd h

        back : IsIn now e ⊎ P e → IsIn (now ++ new ∷ []) e
        back (inl h) = in_front now (new ∷ []) e h
        back (inr h) = subst (λ (z : E). IsIn (now ++ new ∷ []) z) (sym (only e h)) (in_last now new)

-- ---- some item of a list

pub some_item : {X E : Type 0} (P : X → E → Type 0) (xs : List X) (e : E) → Some_of P xs e → (x : X) × IsIn xs x × P x e
some_item P [] e h = absurd h
some_item P (x ∷ xs) e (inl h) = (x, inl refl, h)
some_item P (x ∷ xs) e (inr h) = let t = some_item P xs e h in (t.0, inr t.1, t.2)

pub item_some : {X E : Type 0} (P : X → E → Type 0) (xs : List X) (e : E) (x : X) → IsIn xs x → P x e → Some_of P xs e
item_some P [] e x h p = absurd h
item_some P (y ∷ ys) e x (inl h) p = inl (subst (λ z. P z e) (sym h) p)
item_some P (y ∷ ys) e x (inr h) p = inr (item_some P ys e x h p)

pub other_way : {A B : Type 0} (P Q : Type 0) → (P → Q) → (Q → P) → A ↔ (B ⊎ P) → A ↔ (B ⊎ Q)
other_way {A} {B} P Q f g h = ((λ a. ahead (h.0 a)), (λ b. h.1 (back b)))
  where
    ahead : B ⊎ P → B ⊎ Q
    ahead (inl b) = inl b
    ahead (inr p) = inr (f p)

    back : B ⊎ Q → B ⊎ P
    back (inl b) = inl b
    back (inr q) = inr (g q)

pub pair_is : (a b : Signed) → a.0 ≡ b.0 → a.1 ≡ b.1 → a ≡ b
pair_is a b p q = ap (λ z. (z, a.1)) p ∙ ap (λ z. (b.0, z)) q
