-- Places at which two values differ.
use Rattle.std.proofs.Common.{◌≡◌, inl, inr, List, [], ◌∷◌, Option, Some, refl, sym, subst}
use Rattle.canonical_json.specs.Json.{Json, object, Members, names}
use Rattle.canonical_json.specs.Spelling.{AreRising}
use Rattle.value_changes.specs.Changes.{Step, at_name, at_index, inside, DifferAsWhole, AreEntered, Differs, Change, IsChange, Has, AreChanges, HasUnordered}
use Rattle.value_changes.proofs.Listed.{has_nothing}

pub same_differs_nowhere : (one : Option Json) (place : List Step) → Differs one one place → ⊥
same_differs_nowhere one [] d = d.apart refl
same_differs_nowhere one (s ∷ place) d = same_differs_nowhere (inside s one) place d.1

pub no_change_of_same : (one other : Option Json) (c : Change) → one ≡ other → IsChange one other c → ⊥
no_change_of_same one other c e h = same_differs_nowhere one c.place (subst (λ x. Differs one x c.place) (sym e) h.differs)

pub empty_when_same : (one other : Option Json) (cs : List Change) → ((c : Change) → Has cs c → IsChange one other c) → one ≡ other → cs ≡ []
empty_when_same one other cs sound e = has_nothing cs (λ c h. no_change_of_same one other c e (sound c h))

-- what is the same has no changes
pub same_changes : (one other : Option Json) → one ≡ other → AreChanges one other []
same_changes one other e = record {
  sound = λ c h. absurd h;
  complete = λ c h. no_change_of_same one other c e h;
  apart = tt;
  none = λ _. e;
  same = λ _. refl;
}

-- ---- two values that differ as a whole

not_entered : (s : Step) (one other : Option Json) → DifferAsWhole one other → AreEntered s one other → ⊥
not_entered (at_name name) one other w h = w.no_objects h.0 h.1
not_entered (at_index i) one other w h = w.no_arrays h.0 h.1

abbrev pub whole : Option Json → Option Json → Change
whole one other = record { place = []; before = one; after = other }

whole_alone : (one other : Option Json) → DifferAsWhole one other → (place : List Step) (before after : Option Json) → IsChange one other (record { place = place; before = before; after = after })
    → ◌≡◌ {A = Change} (record { place = place; before = before; after = after }) (whole one other)
whole_alone one other w [] before after h = let b = h.before in let a = h.after in cc
whole_alone one other w (s ∷ place) before after h = absurd (not_entered s one other w h.differs.0)

pub whole_changes : (one other : Option Json) → DifferAsWhole one other → AreChanges one other (whole one other ∷ [])
whole_changes one other w = record {
  sound = λ c h. elim h [ inl e ↦ subst (IsChange one other) (sym e) (record { differs = w; before = refl; after = refl }) | inr none ↦ absurd none ];
  complete = λ c h. inl (whole_alone one other w c.place c.before c.after h);
  apart = (λ d h. absurd h, tt);
  none = λ e. absurd (cc);
  same = λ e. absurd (w.apart e);
}

-- ---- names out of order

pub unordered_here : (ms : Members) → (AreRising (names ms) → ⊥) → HasUnordered (Some (object ms))
unordered_here ms h = ([], ms, refl, h)

pub unordered_inside : (s : Step) (one : Option Json) → HasUnordered (inside s one) → HasUnordered one
unordered_inside s one h = (s ∷ h.0, h.1, h.2, h.3)
