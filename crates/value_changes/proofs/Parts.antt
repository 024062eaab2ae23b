-- Steps of a walk through the parts of two objects or two arrays.
use Rattle.std.proofs.Common.{◌≡◌, ◌≢◌, ◌⊎◌, inl, inr, ℕ, ◌+◌, ◌-◌, ◌≤◌, add-one, take, length-append, ap₂, List, [], ◌∷◌, ◌++◌, length, Option, Some, refl, sym, subst, ap, ◌∙◌, arith, append_assoc, append-nil}
use Rattle.std.proofs.Math.Seq.{take-append_seam}
use Rattle.canonical_json.specs.Json.{Json, array, object, Items, Members, names, items_depth, members_depth}
use Rattle.canonical_json.specs.Spelling.{AreRising}
use Rattle.value_changes.specs.Changes.{Step, at_name, at_index, item_at, inside, Change, Has, HasUnordered}
use Rattle.value_changes.specs.steps.Turns.{Turn, merged, numbered}
use Rattle.value_changes.specs.steps.Walking.{Told}
use Rattle.value_changes.proofs.Listed.{has_right}
use Rattle.value_changes.proofs.Places.{unordered_inside}
use Rattle.value_changes.proofs.Covering.{PartsTold, parts_next, parts_end}
use Rattle.value_changes.proofs.ByName.{AreOnce, members_cover, members_once, once_fresh}
use Rattle.value_changes.proofs.ByIndex.{items_cover, index_fresh, count}
use Rattle.value_changes.proofs.Depths.{side_depth, named_depth, item_depth}

-- ---- the place

-- what was pushed is popped
pub popped : {A : Type 0} (held mid rest : List A) (x : A) (n : ℕ) → mid ≡ held ++ x ∷ [] → n ≡ length mid → rest ≡ take (n - 1) mid → rest ≡ held
popped held mid rest x n pushed long split =
    let size : length mid ≡ length held + 1 = ap length pushed ∙ length-append held (x ∷ []) in
    let less : n - 1 ≡ length held = omega arith in
    split ∙ ap₂ (λ (k : ℕ) xs. take k xs) less pushed ∙ take-append_seam held (x ∷ [])

-- ---- items

pub items_unordered : (vs ws : Items) (i : ℕ) (one other : Option Json) → one ≡ item_at i vs → other ≡ item_at i ws → HasUnordered one ⊎ HasUnordered other → HasUnordered (Some (array vs)) ⊎ HasUnordered (Some (array ws))
items_unordered vs ws i one other l r (inl u) = inl (unordered_inside (at_index i) (Some (array vs)) (subst HasUnordered l u))
items_unordered vs ws i one other l r (inr u) = inr (unordered_inside (at_index i) (Some (array ws)) (subst HasUnordered r u))

pub item_least : (vs : Items) (i : ℕ) (one : Option Json) → one ≡ item_at i vs → side_depth one ≤ items_depth vs
item_least vs i one e = subst (λ x. side_depth x ≤ items_depth vs) (sym e) (item_depth i vs)

pub items_next : (vs ws : Items) (i : ℕ) (one other : Option Json) (front inner : List Step) (old mid new : List Change) → one ≡ item_at i vs → other ≡ item_at i ws → inner ≡ front ++ at_index i ∷ []
    → PartsTold (numbered vs ws i) front old mid → Told one other inner mid new → PartsTold (numbered vs ws (i + 1)) front old new
items_next vs ws i one other front inner old mid new l r e h g =
    subst (λ n. PartsTold (numbered vs ws n) front old new) (sym (add-one i))
    (parts_next (numbered vs ws i) front old mid new (record { step = at_index i; one = item_at i vs; other = item_at i ws }) h (index_fresh vs ws i)
    (subst (λ p. Told (item_at i vs) (item_at i ws) p mid new) e (subst (λ x. Told x (item_at i ws) inner mid new) l (subst (λ x. Told one x inner mid new) r g))))

pub items_end : (vs ws : Items) (n : ℕ) (front : List Step) (old new : List Change) → count vs ≤ n → count ws ≤ n → PartsTold (numbered vs ws n) front old new → Told (Some (array vs)) (Some (array ws)) front old new
items_end vs ws n front old new l r h = parts_end (Some (array vs)) (Some (array ws)) (numbered vs ws n) front old new (items_cover vs ws n l r) h

-- ---- members

module _ (ms ns : Members) (left : AreRising (names ms)) (right : AreRising (names ns)) (done later : List Turn) (t : Turn) (split : done ++ t ∷ later ≡ merged ms ns) where
  part : Has (merged ms ns) t
  part = subst (λ ts. Has ts t) split (has_right done (t ∷ later) t (inl refl))

  fresh : (u : Turn) → Has done u → u.step ≢ t.step
  fresh = once_fresh done later t (subst AreOnce (sym split) (members_once ms ns left right))

  pub members_unordered : HasUnordered t.one ⊎ HasUnordered t.other → HasUnordered (Some (object ms)) ⊎ HasUnordered (Some (object ns))
  members_unordered h =
      let e = (members_cover ms ns left right).entered t part in
      elim h [
        | inl u ↦ inl (unordered_inside t.step (Some (object ms)) (subst HasUnordered e.1 u))
        | inr u ↦ inr (unordered_inside t.step (Some (object ns)) (subst HasUnordered e.2 u))
      ]

  inside_depth : (s : Step) → side_depth (inside s (Some (object ms))) ≤ members_depth ms
  inside_depth (at_name k) = named_depth k ms
  inside_depth (at_index i) = omega arith

  pub member_least : side_depth t.one ≤ members_depth ms
  member_least =
      let e = (members_cover ms ns left right).entered t part in
      subst (λ x. side_depth x ≤ members_depth ms) (sym e.1) (inside_depth t.step)

  pub members_next : (front inner : List Step) (old mid new : List Change) → inner ≡ front ++ t.step ∷ [] → PartsTold done front old mid → Told t.one t.other inner mid new → PartsTold (done ++ t ∷ []) front old new
  members_next front inner old mid new e h g = parts_next done front old mid new t h fresh (subst (λ p. Told t.one t.other p mid new) e g)

  pub still : (done ++ t ∷ []) ++ later ≡ merged ms ns
  still = append_assoc done (t ∷ []) later ∙ split

pub members_end : (ms ns : Members) (done rest : List Turn) (front : List Step) (old new : List Change) → AreRising (names ms) → AreRising (names ns) → rest ≡ [] → done ++ rest ≡ merged ms ns
    → PartsTold done front old new → Told (Some (object ms)) (Some (object ns)) front old new
members_end ms ns done rest front old new left right e split h =
    let all : done ≡ merged ms ns = sym (append-nil done) ∙ ap (λ ts. done ++ ts) (sym e) ∙ split in
    parts_end (Some (object ms)) (Some (object ns)) (merged ms ns) front old new (members_cover ms ns left right) (subst (λ ts. PartsTold ts front old new) all h)
