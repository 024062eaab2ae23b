-- The changes of two objects or two arrays, part by part.
use Rattle.std.proofs.Common.{◌≡◌, ◌≢◌, ◌⊎◌, inl, inr, List, [], ◌∷◌, ◌++◌, Option, map, refl, sym, subst, ap, ap₂, ◌∙◌, append_assoc, append-nil}
use Rattle.std.proofs.lemmas.List.{map-append}
use Rattle.std.proofs.lemmas.Simd.{map-map}
use Rattle.canonical_json.specs.Json.{Json}
use Rattle.value_changes.specs.Changes.{Step, inside, standing, DifferAsWhole, AreEntered, Differs, Change, IsChange, Has, AreApart, AreChanges}
use Rattle.value_changes.specs.steps.Turns.{Turn}
use Rattle.value_changes.specs.steps.Walking.{below, Told}
use Rattle.value_changes.proofs.Listed.{has_part, has_left, has_right, has_source, has_image, left_empty, right_empty, source_empty, same_images, apart_together, apart_images}
use Rattle.value_changes.proofs.Places.{same_differs_nowhere, empty_when_same, same_changes, whole, whole_changes}

-- a change of a part, as one of the whole
abbrev pub behind : Step → Change → Change
behind s c = record c { place = s ∷ c.place }

-- the entries are the changes of these parts, after their steps
pub record ChangesOf (turns : List Turn) (ds : List Change) : Type 0 where
  pub sound : (d : Change) → Has ds d → (t : Turn) × (c : Change) × Has turns t × IsChange t.one t.other c × (d ≡ behind t.step c)
  pub complete : (t : Turn) (c : Change) → Has turns t → IsChange t.one t.other c → Has ds (behind t.step c)
  pub apart : AreApart ds
  pub none : ds ≡ [] → (t : Turn) → Has turns t → t.one ≡ t.other

pub none_yet : ChangesOf [] []
none_yet = record { sound = λ d h. absurd h; complete = λ t c h i. absurd h; apart = tt; none = λ e t h. absurd h }

same_step : (s r : Step) (p q : List Step) → s ∷ p ≡ r ∷ q → s ≡ r
same_step s r p q e = cc

same_rest : (s r : Step) (p q : List Step) → s ∷ p ≡ r ∷ q → p ≡ q
same_rest s r p q e = cc

module _ (turns : List Turn) (ds es : List Change) (t : Turn) (h : ChangesOf turns ds) (fresh : (u : Turn) → Has turns u → u.step ≢ t.step) (g : AreChanges t.one t.other es) where
  sound_next : (d : Change) → Has (ds ++ map (behind t.step) es) d → (u : Turn) × (c : Change) × Has (turns ++ t ∷ []) u × IsChange u.one u.other c × (d ≡ behind u.step c)
  sound_next d has =
      elim (has_part ds (map (behind t.step) es) d has) [
        | inl l ↦ let s = h.sound d l in (s.0, s.1, has_left turns (t ∷ []) s.0 s.2, s.3, s.4)
        | inr r ↦ let s = has_source (behind t.step) es d r in (t, s.0, has_right turns (t ∷ []) t (inl refl), g.sound s.0 s.1, s.2)
      ]

  complete_here : (u : Turn) (c : Change) → u ≡ t → IsChange u.one u.other c → Has (map (behind t.step) es) (behind u.step c)
  complete_here u c e i =
      subst (λ (x : Turn). Has (map (behind t.step) es) (behind x.step c)) (sym e) (has_image (behind t.step) es c (g.complete c (subst (λ (x : Turn). IsChange x.one x.other c) e i)))

  complete_next : (u : Turn) (c : Change) → Has (turns ++ t ∷ []) u → IsChange u.one u.other c → Has (ds ++ map (behind t.step) es) (behind u.step c)
  complete_next u c has i =
      elim (has_part turns (t ∷ []) u has) [
        | inl l ↦ has_left ds (map (behind t.step) es) _ (h.complete u c l i)
        | inr r ↦ elim r [ inl e ↦ has_right ds (map (behind t.step) es) _ (complete_here u c e i) | inr none ↦ absurd none ]
      ]

  cross : (c d : Change) → Has ds c → Has (map (behind t.step) es) d → c.place ≢ d.place
  cross c d hc hd e =
      let s = h.sound c hc in
      let r = has_source (behind t.step) es d hd in
      let places : s.0.step ∷ s.1.place ≡ t.step ∷ r.0.place = ap (λ (x : Change). x.place) (sym s.4) ∙ e ∙ ap (λ (x : Change). x.place) r.2 in
      fresh s.0 s.2 (same_step _ _ _ _ places)

  none_next : ds ++ map (behind t.step) es ≡ [] → (u : Turn) → Has (turns ++ t ∷ []) u → u.one ≡ u.other
  none_next e u has =
      elim (has_part turns (t ∷ []) u has) [
        | inl l ↦ h.none (left_empty ds (map (behind t.step) es) e) u l
        | inr r ↦ elim r [
          | inl is ↦ subst (λ (x : Turn). x.one ≡ x.other) (sym is) (g.none (source_empty (behind t.step) es (right_empty ds (map (behind t.step) es) e)))
          | inr none ↦ absurd none
        ]
      ]

  -- with one more part, of another step
  pub one_more : ChangesOf (turns ++ t ∷ []) (ds ++ map (behind t.step) es)
  one_more = record {
    sound = sound_next;
    complete = complete_next;
    apart = apart_together ds (map (behind t.step) es) h.apart (apart_images (behind t.step) es (λ c d e. same_rest _ _ _ _ e) g.apart) cross;
    none = none_next;
  }

-- ---- all parts

-- two objects or two arrays, and their parts
pub record Covers (one other : Option Json) (turns : List Turn) : Type 0 where
  pub entered : (t : Turn) → Has turns t → AreEntered t.step one other × (t.one ≡ inside t.step one) × (t.other ≡ inside t.step other)
  pub all : (s : Step) → AreEntered s one other → Has turns (record { step = s; one = inside s one; other = inside s other }) ⊎ (inside s one ≡ inside s other)
  pub equal : ((t : Turn) → Has turns t → t.one ≡ t.other) → one ≡ other
  pub not_whole : DifferAsWhole one other → ⊥

module _ (one other : Option Json) (turns : List Turn) (ds : List Change) (v : Covers one other turns) (h : ChangesOf turns ds) where
  inner : (t : Turn) (c : Change) → Has turns t → IsChange t.one t.other c → IsChange one other (behind t.step c)
  inner t c has i =
      let e = v.entered t has in
      record {
        differs = (e.0, subst (λ x. Differs x (inside t.step other) c.place) e.1 (subst (λ x. Differs t.one x c.place) e.2 i.differs));
        before = i.before ∙ ap (standing c.place) e.1;
        after = i.after ∙ ap (standing c.place) e.2;
      }

  sound_all : (d : Change) → Has ds d → IsChange one other d
  sound_all d has = let s = h.sound d has in subst (IsChange one other) (sym s.4) (inner s.0 s.1 s.2 s.3)

  complete_all : (place : List Step) (before after : Option Json) → IsChange one other (record { place = place; before = before; after = after }) → Has ds (record { place = place; before = before; after = after })
  complete_all [] before after i = absurd (v.not_whole i.differs)
  complete_all (s ∷ place) before after i =
      elim (v.all s i.differs.0) [
        | inl has ↦ h.complete (record { step = s; one = inside s one; other = inside s other }) (record { place = place; before = before; after = after }) has (record { differs = i.differs.1; before = i.before; after = i.after })
        | inr same ↦ absurd (same_differs_nowhere (inside s one) place (subst (λ x. Differs (inside s one) x place) (sym same) i.differs.1))
      ]

  pub covered : AreChanges one other ds
  covered = record {
    sound = sound_all;
    complete = λ c i. complete_all c.place c.before c.after i;
    apart = h.apart;
    none = λ e. v.equal (h.none e);
    same = λ e. empty_when_same one other ds sound_all e;
  }

-- ---- what a walk has added

-- the changes so far, and after them those of these parts of what stands at this place
pub record PartsTold (turns : List Turn) (front : List Step) (old new : List Change) : Type 0 where
  pub more : List Change
  pub changes : ChangesOf turns more
  pub added : new ≡ old ++ map (below front) more

pub parts_begin : (front : List Step) (old : List Change) → PartsTold [] front old old
parts_begin front old = record { more = []; changes = none_yet; added = sym (append-nil old) }

deeper : (front : List Step) (s : Step) (c : Change) → below (front ++ s ∷ []) c ≡ below front (behind s c)
deeper front s c = ap (λ p. record c { place = p }) (append_assoc front (s ∷ []) c.place)

pub parts_next : (turns : List Turn) (front : List Step) (old mid new : List Change) (t : Turn) → PartsTold turns front old mid → ((u : Turn) → Has turns u → u.step ≢ t.step)
    → Told t.one t.other (front ++ t.step ∷ []) mid new → PartsTold (turns ++ t ∷ []) front old new
parts_next turns front old mid new t h fresh g = record {
  more = h.more ++ map (behind t.step) g.more;
  changes = one_more turns h.more g.more t h.changes fresh g.changes;
  added =
      g.added ∙ ap (λ xs. xs ++ map (below (front ++ t.step ∷ [])) g.more) h.added ∙ append_assoc old (map (below front) h.more) (map (below (front ++ t.step ∷ [])) g.more)
      ∙ ap (λ xs. old ++ (map (below front) h.more ++ xs)) (same_images _ (λ c. below front (behind t.step c)) g.more (deeper front t.step) ∙ sym (map-map (below front) (behind t.step) g.more))
      ∙ ap (λ xs. old ++ xs) (sym (map-append (below front) h.more (map (behind t.step) g.more)));
}

pub parts_end : (one other : Option Json) (turns : List Turn) (front : List Step) (old new : List Change) → Covers one other turns → PartsTold turns front old new → Told one other front old new
parts_end one other turns front old new v h = record { more = h.more; changes = covered one other turns h.more v h.changes; added = h.added }

pub whole_told : (one other : Option Json) (front : List Step) (old new : List Change) → DifferAsWhole one other → new ≡ old ++ record { place = front; before = one; after = other } ∷ [] → Told one other front old new
whole_told one other front old new w e = record {
  more = whole one other ∷ [];
  changes = whole_changes one other w;
  added = e ∙ ap (λ p. old ++ record { place = p; before = one; after = other } ∷ []) (sym (append-nil front));
}

pub same_told : (one other : Option Json) (front : List Step) (old : List Change) → one ≡ other → Told one other front old old
same_told one other front old e = record { more = []; changes = same_changes one other e; added = sym (append-nil old) }

-- ---- at the outermost value

same_place : (cs : List Change) → map (below []) cs ≡ cs
same_place [] = refl
same_place (c ∷ cs) = ap (λ xs. c ∷ xs) (same_place cs)

pub told_all : (one other : Option Json) (front : List Step) (old new list : List Change) → front ≡ [] → old ≡ [] → list ≡ new → Told one other front old new → AreChanges one other list
told_all one other front old new list f o e h =
    let added : new ≡ map (below []) h.more = h.added ∙ ap₂ (λ ds (p : List Step). ds ++ map (below p) h.more) o f in
    subst (AreChanges one other) (sym (e ∙ added ∙ same_place h.more)) h.changes
