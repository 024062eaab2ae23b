-- Reading the items of a list, or the members of an object, one after the other: what holds of the rest gives what holds of
-- all.
use Rattle.std.proofs.Common.{◌≡◌, ℕ, suc, List, [], ◌∷◌, ◌++◌, length, String, refl, sym, ap, ◌∙◌, subst}
use Rattle.std.specs.declared.alloc.Global.{Global}
use Rattle.std.proofs.lemmas.List.{append-nil}
use Rattle.std.proofs.Math.Seq.{append_snoc}
use Rattle.canonical_json.specs.Json.{Json, array, object, Items, no_items, item, Members, no_members, member}
use Rattle.canonical_json.specs.View.{items_view, members_view}
use Rattle.canonical_json.specs.declared.Value.{Value}
use Rattle.document_parts.specs.Members.{ItemsAre, IsArray, MembersAre}

module _ {A : Type 0} (R : Json → A → Type 0) where
  -- what is read so far, followed by what the rest is read as, is what all is read as
  abbrev pub ItemsGrow : Items → Items → List A → Type 0
  ItemsGrow all rest done = (xs : List A) → ItemsAre R rest xs → ItemsAre R all (done ++ xs)

  -- where all can be read, the rest can
  abbrev pub ItemsLeft : Items → Items → Type 0
  ItemsLeft all rest = (xs : List A) → ItemsAre R all xs → (ys : List A) × ItemsAre R rest ys

  pub items_grow : (all rest later : Items) (v : Json) (a : A) (done : List A) → rest ≡ item v later → R v a
      → ItemsGrow all rest done → ItemsGrow all later (done ++ a ∷ [])
  items_grow all rest later v a done at r grow xs more =
      subst (λ (zs : List A). ItemsAre R all zs) (sym (append_snoc done a xs))
      (grow (a ∷ xs) (subst (λ (vs : Items). ItemsAre R vs (a ∷ xs)) (sym at) (r, more)))

  next_left : (v : Json) (later : Items) (ys : List A) → ItemsAre R (item v later) ys → (zs : List A) × ItemsAre R later zs
  next_left v later [] h = absurd h
  next_left v later (y ∷ ys) h = (ys, h.1)

  pub items_left : (all rest later : Items) (v : Json) → rest ≡ item v later → ItemsLeft all rest → ItemsLeft all later
  items_left all rest later v at left xs h =
      let (ys, k) = left xs h in
      next_left v later ys (subst (λ (vs : Items). ItemsAre R vs ys) at k)

  first_is : (v : Json) (later : Items) (ys : List A) → ItemsAre R (item v later) ys → (a : A) × R v a
  first_is v later [] h = absurd h
  first_is v later (y ∷ ys) h = (y, h.0)

  pub items_fail : (all rest later : Items) (v : Json) → rest ≡ item v later → ItemsLeft all rest → ((a : A) → R v a → ⊥)
      → (xs : List A) × ItemsAre R all xs → ⊥
  items_fail all rest later v at left none h =
      let (ys, k) = left h.0 h.1 in
      let (a, r) = first_is v later ys (subst (λ (vs : Items). ItemsAre R vs ys) at k) in
      none a r

  -- what all are read as gives what the first of the rest is read as
  pub items_first : (all rest later : Items) (v : Json) → rest ≡ item v later → ItemsLeft all rest → (xs : List A) × ItemsAre R all xs → (a : A) × R v a
  items_first all rest later v at left h =
      let (ys, k) = left h.0 h.1 in
      first_is v later ys (subst (λ (vs : Items). ItemsAre R vs ys) at k)

  pub items_done : (all rest : Items) (done : List A) → rest ≡ no_items → ItemsGrow all rest done → ItemsAre R all done
  items_done all rest done at grow =
      subst (λ (zs : List A). ItemsAre R all zs) (append-nil done) (grow [] (subst (λ (vs : Items). ItemsAre R vs []) (sym at) tt))

module _ {A : Type 0} (R : List ℕ → Json → A → Type 0) where
  abbrev pub MembersGrow : Members → Members → List A → Type 0
  MembersGrow all rest done = (xs : List A) → MembersAre R rest xs → MembersAre R all (done ++ xs)

  abbrev pub MembersLeft : Members → Members → Type 0
  MembersLeft all rest = (xs : List A) → MembersAre R all xs → (ys : List A) × MembersAre R rest ys

  pub members_grow : (all rest later : Members) (n : List ℕ) (v : Json) (a : A) (done : List A) → rest ≡ member n v later → R n v a
      → MembersGrow all rest done → MembersGrow all later (done ++ a ∷ [])
  members_grow all rest later n v a done at r grow xs more =
      subst (λ (zs : List A). MembersAre R all zs) (sym (append_snoc done a xs))
      (grow (a ∷ xs) (subst (λ (vs : Members). MembersAre R vs (a ∷ xs)) (sym at) (r, more)))

  next_member_left : (n : List ℕ) (v : Json) (later : Members) (ys : List A) → MembersAre R (member n v later) ys → (zs : List A) × MembersAre R later zs
  next_member_left n v later [] h = absurd h
  next_member_left n v later (y ∷ ys) h = (ys, h.1)

  pub members_left : (all rest later : Members) (n : List ℕ) (v : Json) → rest ≡ member n v later → MembersLeft all rest → MembersLeft all later
  members_left all rest later n v at left xs h =
      let (ys, k) = left xs h in
      next_member_left n v later ys (subst (λ (vs : Members). MembersAre R vs ys) at k)

  first_member_is : (n : List ℕ) (v : Json) (later : Members) (ys : List A) → MembersAre R (member n v later) ys → (a : A) × R n v a
  first_member_is n v later [] h = absurd h
  first_member_is n v later (y ∷ ys) h = (y, h.0)

  pub members_fail : (all rest later : Members) (n : List ℕ) (v : Json) → rest ≡ member n v later → MembersLeft all rest → ((a : A) → R n v a → ⊥)
      → (xs : List A) × MembersAre R all xs → ⊥
  members_fail all rest later n v at left none h =
      let (ys, k) = left h.0 h.1 in
      let (a, r) = first_member_is n v later ys (subst (λ (vs : Members). MembersAre R vs ys) at k) in
      none a r

  pub members_first : (all rest later : Members) (n : List ℕ) (v : Json) → rest ≡ member n v later → MembersLeft all rest → (xs : List A) × MembersAre R all xs → (a : A) × R n v a
  members_first all rest later n v at left h =
      let (ys, k) = left h.0 h.1 in
      first_member_is n v later ys (subst (λ (vs : Members). MembersAre R vs ys) at k)

  pub members_done : (all rest : Members) (done : List A) → rest ≡ no_members → MembersGrow all rest done → MembersAre R all done
  members_done all rest done at grow =
      subst (λ (zs : List A). MembersAre R all zs) (append-nil done) (grow [] (subst (λ (vs : Members). MembersAre R vs []) (sym at) tt))

-- as many as there are members
pub members_len : {A : Type 0} (R : List ℕ → Json → A → Type 0) (ms : List (String Global × Value)) (xs : List A) → MembersAre R (members_view ms) xs → length xs ≡ length ms
members_len R [] [] h = refl
members_len R [] (x ∷ xs) h = absurd h
members_len R (m ∷ ms) [] h = absurd h
members_len R (m ∷ ms) (x ∷ xs) h = ap suc (members_len R ms xs h.1)

pub same_members : (v : Json) (ms ns : Members) → v ≡ object ms → v ≡ object ns → ms ≡ ns
same_members v ms ns h k =
    let both : object ms ≡ object ns = sym h ∙ k in
    cc

pub items_len : {A : Type 0} (R : Json → A → Type 0) (vs : List Value) (xs : List A) → ItemsAre R (items_view vs) xs → length xs ≡ length vs
items_len R [] [] h = refl
items_len R [] (x ∷ xs) h = absurd h
items_len R (v ∷ vs) [] h = absurd h
items_len R (v ∷ vs) (x ∷ xs) h = ap suc (items_len R vs xs h.1)

pub same_items : (v : Json) (vs ws : Items) → v ≡ array vs → v ≡ array ws → vs ≡ ws
same_items v vs ws h k =
    let both : array vs ≡ array ws = sym h ∙ k in
    cc

-- a list has as many items as it is read as
pub array_len : {A : Type 0} (R : Json → A → Type 0) (v : Json) (items : List Value) (xs : List A) → v ≡ array (items_view items) → IsArray R v xs → length xs ≡ length items
array_len R v items xs is h =
    items_len R items xs (subst (λ (vs : Items). ItemsAre R vs xs) (same_items v h.0 (items_view items) h.1 is) h.2)
