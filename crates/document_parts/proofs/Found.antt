-- What the members that are found say of all of their name, and of the whole.
use Rattle.std.proofs.Common.{◌≡◌, ℕ, List, [], ◌∷◌, length, Option, Some, None, String, codes, refl, sym, ap, subst, ◌∙◌}
use Rattle.std.specs.declared.alloc.Global.{Global}
use Rattle.std.proofs.lemmas.List.{append_cancel_right}
use Rattle.canonical_json.specs.Json.{Json, object, Items, item, Members, no_members, member, HasMember, EachItem, EachMember, names}
use Rattle.canonical_json.specs.Spelling.{IsProper, IsSound}
use Rattle.canonical_json.specs.View.{members_view}
use Rattle.canonical_json.specs.declared.Value.{Value}
use Rattle.document_parts.specs.Members.{Has, MayHave, HasJust}
use Rattle.document_parts.specs.Bodies.{IsMetaRow}
use Rattle.document_parts.proofs.Once.{IsOnceNamed}
use Rattle.document_parts.proofs.PartsOnce.{meta-once, pair-is}

pub none_has : (R : Json → Type 0) (v found : Json) (name : List ℕ) → ((x : Json) → HasMember v name x → x ≡ found) → (R found → ⊥) → Has v name R → ⊥
none_has R v found name only none h = none (subst R (only h.0 h.1) h.2)

one : (ms : Members) (name : List ℕ) → names ms ≡ name ∷ [] → (x : Json) × (ms ≡ member name x no_members)
one no_members name h = absurd (cc)
one (member n v no_members) name h =
    let same : n ≡ name = cc in
    (v, ap (λ z. member z v no_members) same)
one (member n v (member m w ms)) name h = absurd (cc)

pub just_one : (v : Json) (name : List ℕ) → HasJust v (name ∷ []) → (x : Json) × (v ≡ object (member name x no_members))
just_one v name h =
    let o = one h.0 name h.2 in
    (o.0, h.1 ∙ ap object o.1)

-- ---- members one after the other

pub named_first : (ms : Members) (name : List ℕ) (ns : List (List ℕ)) → names ms ≡ name ∷ ns → (x : Json) × (later : Members) × (ms ≡ member name x later)
named_first no_members name ns h = absurd (cc)
named_first (member n v ms) name ns h =
    let same : n ≡ name = cc in
    (v, ms, ap (λ z. member z v ms) same)

pub no_names : (ms : List (String Global × Value)) → names (members_view ms) ≡ [] → length ms ≡ 0
no_names [] h = refl
no_names (m ∷ ms) h = absurd (cc)

-- each is of the grammar, and so the first and those after it
pub each_proper : (rest later : Members) (n : List ℕ) (v : Json) → rest ≡ member n v later → EachMember IsSound rest → IsProper v × EachMember IsSound later
each_proper rest later n v at p = subst (λ (ms : Members). EachMember IsSound ms) at p

pub each_item_proper : (rest later : Items) (v : Json) → rest ≡ item v later → EachItem IsSound rest → IsProper v × EachItem IsSound later
each_item_proper rest later v at p = subst (λ (vs : Items). EachItem IsSound vs) at p

-- ---- rows and members that may be absent

pub meta-row-once : IsOnceNamed IsMetaRow
meta-row-once n v a b p h k =
    pair-is a b (append_cancel_right a.0 b.0 (codes ".json") (sym h.0 ∙ k.0)) (meta-once v a.1 b.1 p h.2 k.2)

-- where the member is there, what may be there is what it is
pub held : {A : Type 0} (R : Json → A → Type 0) (name : List ℕ) (v x : Json) → HasMember v name x → ((y : Json) → HasMember v name y → y ≡ x)
    → (o : Option A) → MayHave v name R o → (a : A) × R x a
held R name v x there only None h = absurd (h x there)
held R name v x there only (Some a) h = (a, subst (λ (y : Json). R y a) (only h.0 h.1) h.2)
