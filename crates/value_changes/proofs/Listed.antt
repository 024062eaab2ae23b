-- What is in a list, and entries that are apart.
use Rattle.std.proofs.Common.{◌≡◌, ◌≢◌, ◌⊎◌, inl, inr, List, [], ◌∷◌, ◌++◌, map, refl, ap, ◌∙◌}
use Rattle.value_changes.specs.Changes.{Change, Has, AreApart}

pub has_part : {A : Type 0} (xs ys : List A) (x : A) → Has (xs ++ ys) x → Has xs x ⊎ Has ys x
has_part [] ys x h = inr h
has_part (y ∷ xs) ys x (inl e) = inl (inl e)
has_part (y ∷ xs) ys x (inr h) = elim (has_part xs ys x h) [ inl l ↦ inl (inr l) | inr r ↦ inr r ]

pub has_left : {A : Type 0} (xs ys : List A) (x : A) → Has xs x → Has (xs ++ ys) x
has_left [] ys x h = absurd h
has_left (y ∷ xs) ys x (inl e) = inl e
has_left (y ∷ xs) ys x (inr h) = inr (has_left xs ys x h)

pub has_right : {A : Type 0} (xs ys : List A) (x : A) → Has ys x → Has (xs ++ ys) x
has_right [] ys x h = h
has_right (y ∷ xs) ys x h = inr (has_right xs ys x h)

pub has_source : {A B : Type 0} (f : A → B) (xs : List A) (y : B) → Has (map f xs) y → (x : A) × Has xs x × (y ≡ f x)
has_source f [] y h = absurd h
has_source f (x ∷ xs) y (inl e) = (x, inl refl, e)
has_source f (x ∷ xs) y (inr h) = let s = has_source f xs y h in (s.0, inr s.1, s.2)

pub has_image : {A B : Type 0} (f : A → B) (xs : List A) (x : A) → Has xs x → Has (map f xs) (f x)
has_image f [] x h = absurd h
has_image f (y ∷ xs) x (inl e) = inl (ap f e)
has_image f (y ∷ xs) x (inr h) = inr (has_image f xs x h)

pub has_nothing : {A : Type 0} (xs : List A) → ((x : A) → Has xs x → ⊥) → xs ≡ []
has_nothing [] h = refl
has_nothing (x ∷ xs) h = absurd (h x (inl refl))

pub left_empty : {A : Type 0} (xs ys : List A) → xs ++ ys ≡ [] → xs ≡ []
left_empty [] ys e = refl
left_empty (x ∷ xs) ys e = cc

pub right_empty : {A : Type 0} (xs ys : List A) → xs ++ ys ≡ [] → ys ≡ []
right_empty [] ys e = e
right_empty (x ∷ xs) ys e = cc

pub source_empty : {A B : Type 0} (f : A → B) (xs : List A) → map f xs ≡ [] → xs ≡ []
source_empty f [] e = refl
source_empty f (x ∷ xs) e = cc

pub same_images : {A B : Type 0} (f g : A → B) (xs : List A) → ((x : A) → f x ≡ g x) → map f xs ≡ map g xs
same_images f g [] e = refl
same_images f g (x ∷ xs) e = let here = e x in let later = same_images f g xs e in cc

-- ---- places

pub apart_together : (cs ds : List Change) → AreApart cs → AreApart ds → ((c d : Change) → Has cs c → Has ds d → c.place ≢ d.place) → AreApart (cs ++ ds)
apart_together [] ds h g cross = g
apart_together (c ∷ cs) ds h g cross = (
  λ d has. elim (has_part cs ds d has) [ inl l ↦ h.0 d l | inr r ↦ cross c d (inl refl) r ],
  apart_together cs ds h.1 g (λ b d hb hd. cross b d (inr hb) hd),
)

pub apart_images : (f : Change → Change) (cs : List Change) → ((c d : Change) → (f c).place ≡ (f d).place → c.place ≡ d.place) → AreApart cs → AreApart (map f cs)
apart_images f [] keeps h = tt
apart_images f (c ∷ cs) keeps h = (
  λ d has e. let s = has_source f cs d has in h.0 s.0 s.1 (keeps c s.0 (e ∙ ap (λ (x : Change). x.place) s.2)),
  apart_images f cs keeps h.1,
)
