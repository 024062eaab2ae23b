-- Members of an object, as the code's rows of names and values, which are put in and taken out.
use Rattle.std.proofs.Common.{◌≡◌, ◌≢◌, ◌⊎◌, inl, inr, ℕ, zero, suc, ◌<◌, List, [], ◌∷◌, length, get_or, string_bytes, String, Vec, rules, refl, sym, ap, ◌∙◌, subst, arith}
use Rattle.std.specs.List.{insert, remove}
use Rattle.std.specs.declared.alloc.Global.{Global}
use Rattle.canonical_json.specs.Json.{Json, array, object, text, Items, Members, HasMember, IsAmong}
use Rattle.canonical_json.specs.View.{view, items_view, members_view}
use Rattle.canonical_json.specs.declared.Value.{Value, List as listed, Object, the_lemmas}
use Rattle.drafting.specs.Members.{AlikeBut, Drops, HasNone, IsListAt, IsObjectAt, Puts}
use Rattle.drafting.specs.Targets.{IsThere}

abbrev pub Row : Type 0
Row = String Global × Value

abbrev pub shown : List Row → Json
shown ms = object (members_view ms)

pub none_named : (ms : List Row) (name : List ℕ) → ((k : ℕ) → k < length ms → (d : Row) → string_bytes (get_or ms k d).0 ≡ name → ⊥)
    → (x : Json) → HasMember (shown ms) name x → ⊥
none_named [] name none x h = absurd h
none_named (m ∷ ms) name none x (inl h) = none zero (omega arith) m h.0
none_named (m ∷ ms) name none x (inr h) = none_named ms name (λ k lt d. none (suc k) (omega (arith, lt)) d) x h

-- ---- a row is taken out

removed_kept : (ms : List Row) (i : ℕ) (name : List ℕ) (x : Json) → i < length ms → ((d : Row) → string_bytes (get_or ms i d).0 ≢ name)
    → IsAmong name x (members_view ms) → IsAmong name x (members_view (remove ms i))
removed_kept [] i name x lt other h = absurd h
removed_kept (m ∷ ms) zero name x lt other (inl h) = absurd (other m h.0)
removed_kept (m ∷ ms) zero name x lt other (inr h) = h
removed_kept (m ∷ ms) (suc i) name x lt other (inl h) = inl h
removed_kept (m ∷ ms) (suc i) name x lt other (inr h) = inr (removed_kept ms i name x (omega (arith, lt)) (λ d. other d) h)

pub removed_no_more : (ms : List Row) (i : ℕ) (name : List ℕ) (x : Json) → IsAmong name x (members_view (remove ms i)) → IsAmong name x (members_view ms)
removed_no_more [] zero name x h = absurd h
removed_no_more [] (suc i) name x h = absurd h
removed_no_more (m ∷ ms) zero name x h = inr h
removed_no_more (m ∷ ms) (suc i) name x (inl h) = inl h
removed_no_more (m ∷ ms) (suc i) name x (inr h) = inr (removed_no_more ms i name x h)

pub remove_one : (a : Json) (ms : List Row) (i : ℕ) (name : List ℕ) → i < length ms → ((d : Row) → string_bytes (get_or ms i d).0 ≡ name)
    → AlikeBut (name ∷ []) a (shown ms) → AlikeBut (name ∷ []) a (shown (remove ms i))
remove_one a ms i name lt at alike = record {
  kept = λ n x other h. removed_kept ms i n x lt (λ d e. other.0 (sym (at d) ∙ e)) (alike.kept n x other h);
  no_more = λ n x other h. alike.no_more n x other (removed_no_more ms i n x h);
}

-- ---- a row is put in

inserted_in : (ms : List Row) (i : ℕ) (name : List ℕ) (x : Json) (m : Row) → IsAmong name x (members_view ms) → IsAmong name x (members_view (insert ms i m))
inserted_in [] i name x m h = absurd h
inserted_in (r ∷ ms) zero name x m h = inr h
inserted_in (r ∷ ms) (suc i) name x m (inl h) = inl h
inserted_in (r ∷ ms) (suc i) name x m (inr h) = inr (inserted_in ms i name x m h)

inserted_has : (ms : List Row) (i : ℕ) (m : Row) → IsAmong (string_bytes m.0) (view m.1) (members_view (insert ms i m))
inserted_has [] zero m = inl (refl, refl)
inserted_has [] (suc i) m = inl (refl, refl)
inserted_has (r ∷ ms) zero m = inl (refl, refl)
inserted_has (r ∷ ms) (suc i) m = inr (inserted_has ms i m)

behind : {P Q R : Type 0} → P ⊎ Q → P ⊎ (R ⊎ Q)
behind (inl p) = inl p
behind (inr q) = inr (inr q)

inserted_from : (ms : List Row) (i : ℕ) (name : List ℕ) (x : Json) (m : Row) → IsAmong name x (members_view (insert ms i m))
    → ((string_bytes m.0 ≡ name) × (view m.1 ≡ x)) ⊎ IsAmong name x (members_view ms)
inserted_from [] zero name x m (inl h) = inl h
inserted_from [] zero name x m (inr h) = absurd h
inserted_from [] (suc i) name x m (inl h) = inl h
inserted_from [] (suc i) name x m (inr h) = absurd h
inserted_from (r ∷ ms) zero name x m (inl h) = inl h
inserted_from (r ∷ ms) zero name x m (inr h) = inr h
inserted_from (r ∷ ms) (suc i) name x m (inl h) = inr (inl h)
inserted_from (r ∷ ms) (suc i) name x m (inr h) = behind (inserted_from ms i name x m h)

is_new : (name n : List ℕ) (x y : Json) (Q : Type 0) → (Q → ⊥) → ((n ≡ name) × (x ≡ y)) ⊎ Q → y ≡ x
is_new name n x y Q none (inl h) = sym h.1
is_new name n x y Q none (inr h) = absurd (none h)

is_old : (name n : List ℕ) (x y : Json) (Q : Type 0) → n ≢ name → ((n ≡ name) × (x ≡ y)) ⊎ Q → Q
is_old name n x y Q other (inl h) = absurd (other h.0)
is_old name n x y Q other (inr h) = h

pub put_in : (a : Json) (ms : List Row) (i : ℕ) (name : List ℕ) (m : Row) → string_bytes m.0 ≡ name → Drops name a (shown ms)
    → Puts name (view m.1) a (shown (insert ms i m))
put_in a ms i name m is dropped = record {
  has = subst (λ (n : List ℕ). IsAmong n (view m.1) (members_view (insert ms i m))) is (inserted_has ms i m);
  only = λ y h. is_new name (string_bytes m.0) (view m.1) y (IsAmong name y (members_view ms)) (dropped.none y) (inserted_from ms i name y m h);
  others = record {
    kept = λ n x other h. inserted_in ms i n x m (dropped.others.kept n x other h);
    no_more = λ n x other h.
        dropped.others.no_more n x other (is_old n (string_bytes m.0) (view m.1) x (IsAmong n x (members_view ms)) (λ e. other.0 (sym is ∙ e)) (inserted_from ms i n x m h));
  };
}

-- ---- the row at a place

at_has : (ms : List Row) (i : ℕ) (d : Row) → i < length ms → IsAmong (string_bytes (get_or ms i d).0) (view (get_or ms i d).1) (members_view ms)
at_has [] i d lt = absurd (omega (arith, lt))
at_has (m ∷ ms) zero d lt = inl (refl, refl)
at_has (m ∷ ms) (suc i) d lt = inr (at_has ms i d (omega (arith, lt)))

pub found_at : (ms : List Row) (i : ℕ) (name : List ℕ) (r : Row) → i < length ms → ((d : Row) → string_bytes (get_or ms i d).0 ≡ name) → r ≡ get_or ms i r
    → HasMember (shown ms) name (view r.1)
found_at ms i name r lt at is =
    let h = subst (λ (z : Row). IsAmong (string_bytes z.0) (view z.1) (members_view ms)) (sym is) (at_has ms i r lt) in
    subst (λ (n : List ℕ). IsAmong n (view r.1) (members_view ms)) (ap (λ (z : Row). string_bytes z.0) is ∙ at r) h

-- ---- what the code finds

-- the row at the place has the name
abbrev pub IsAt : List Row → ℕ → List ℕ → Type 0
IsAt ms i name = (i < length ms) × ((d : Row) → string_bytes (get_or ms i d).0 ≡ name)

pub there_at : (ms : List Row) (i : ℕ) (name : List ℕ) → i < length ms → ((d : Row) → string_bytes (get_or ms i d).0 ≡ name) → IsThere (shown ms) name
there_at [] i name lt at = absurd (omega (arith, lt))
there_at (m ∷ ms) zero name lt at = (view m.1, inl (at m, refl))
there_at (m ∷ ms) (suc i) name lt at = let h = there_at ms i name (omega (arith, lt)) (λ d. at d) in (h.0, inr h.1)

pub removed_one : (a : Json) (ms seen after : List Row) (i : ℕ) (name : List ℕ) → seen ≡ ms → after ≡ remove ms i → IsAt seen i name
    → AlikeBut (name ∷ []) a (shown ms) → AlikeBut (name ∷ []) a (shown after)
removed_one a ms seen after i name same is at alike =
    let h = subst (λ (l : List Row). IsAt l i name) same at in
    subst (λ (l : List Row). AlikeBut (name ∷ []) a (shown l)) (sym is) (remove_one a ms i name h.0 h.1 alike)

pub none_in : (ms seen : List Row) (name : List ℕ) → seen ≡ ms → HasNone (shown seen) name → HasNone (shown ms) name
none_in ms seen name same none = subst (λ (l : List Row). HasNone (shown l) name) same none

-- the object that is taken out, or none
pub object_at : (ms seen rows : List Row) (i : ℕ) (name : List ℕ) (r : Row) → seen ≡ ms → IsAt seen i name → r ≡ get_or ms i r
    → (view r.1 ≡ shown rows) ⊎ ((rows ≡ []) × ((xs : Members) → view r.1 ≡ object xs → ⊥)) → IsObjectAt (shown ms) name (shown rows)
object_at ms seen rows i name r same at is (inl object_is) =
    let h = subst (λ (l : List Row). IsAt l i name) same at in
    inl (subst (λ (x : Json). HasMember (shown ms) name x) object_is (found_at ms i name r h.0 h.1 is))
object_at ms seen rows i name r same at is (inr none) =
    let h = subst (λ (l : List Row). IsAt l i name) same at in
    inr (ap (λ (l : List Row). shown l) none.0, inr (view r.1, found_at ms i name r h.0 h.1 is, none.1))

pub no_object : (ms seen rows : List Row) (name : List ℕ) → seen ≡ ms → HasNone (shown seen) name → rows ≡ [] → IsObjectAt (shown ms) name (shown rows)
no_object ms seen rows name same none is = inr (ap (λ (l : List Row). shown l) is, inl (none_in ms seen name same none))

-- the list that is taken out, or none
pub list_at : (ms seen : List Row) (vs : List Value) (i : ℕ) (name : List ℕ) (r : Row) → seen ≡ ms → IsAt seen i name → r ≡ get_or ms i r
    → (view r.1 ≡ array (items_view vs)) ⊎ ((vs ≡ []) × ((xs : Items) → view r.1 ≡ array xs → ⊥)) → IsListAt (shown ms) name (items_view vs)
list_at ms seen vs i name r same at is (inl list_is) =
    let h = subst (λ (l : List Row). IsAt l i name) same at in
    inl (subst (λ (x : Json). HasMember (shown ms) name x) list_is (found_at ms i name r h.0 h.1 is))
list_at ms seen vs i name r same at is (inr none) =
    let h = subst (λ (l : List Row). IsAt l i name) same at in
    inr (ap (λ (l : List Value). items_view l) none.0, inr (view r.1, found_at ms i name r h.0 h.1 is, none.1))

pub no_list : (ms seen : List Row) (vs : List Value) (name : List ℕ) → seen ≡ ms → HasNone (shown seen) name → vs ≡ [] → IsListAt (shown ms) name (items_view vs)
no_list ms seen vs name same none is = inr (ap (λ (l : List Value). items_view l) is, inl (none_in ms seen name same none))

pub taken_out : (a : Json) (ms seen : List Row) (name : List ℕ) → seen ≡ ms → HasNone (shown seen) name → AlikeBut (name ∷ []) a (shown ms) → Drops name a (shown ms)
taken_out a ms seen name same none alike = record { none = none_in ms seen name same none; others = alike }

-- ---- the object that a value of the code is

pub list_view : (v : Vec Value Global) → view (listed v) ≡ array (items_view v.items)
list_view v = search (rules, the_lemmas)

pub object_view : (v : Vec (String Global × Value) Global) → view (Object v) ≡ shown v.items
object_view v = search (rules, the_lemmas)

-- ---- a text that is not the first row's

pub text_later : (name t : List ℕ) (m : Row) (ms : List Row) → (string_bytes m.0 ≡ name → view m.1 ≡ text t → ⊥) → IsAmong name (text t) (members_view (m ∷ ms))
    → IsAmong name (text t) (members_view ms)
text_later name t m ms none (inl h) = absurd (none h.0 h.1)
text_later name t m ms none (inr h) = h
