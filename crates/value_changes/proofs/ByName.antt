-- The members of two objects, by their names.
use Rattle.std.proofs.Common.{◌≡◌, ◌≢◌, ◌⊎◌, inl, inr, ℕ, Bool, true, false, List, [], ◌∷◌, ◌++◌, Option, Some, None, refl, sym, subst, ap, ap₂, ◌∙◌}
use Rattle.std.specs.Str.{bytes_eq}
use Rattle.std.proofs.lemmas.Slice.Eq.{bytes_eq-Decides}
use Rattle.canonical_json.specs.Json.{Json, object, array, Members, no_members, member, names}
use Rattle.canonical_json.specs.Spelling.{IsBefore, AreRising}
use Rattle.value_changes.specs.Changes.{Step, at_name, at_index, named, inside, AreEntered, Has}
use Rattle.value_changes.specs.steps.Turns.{Turn, before_alone, after_alone, both, all_after, merged_behind, merged}
use Rattle.value_changes.proofs.Covering.{Covers}
use Rattle.value_changes.proofs.Names.{at_order, named_first, named_later, EachName, each_name, not_named, not_before_itself, before_before, Rises, rises}

abbrev turn : List ℕ → Option Json → Option Json → Turn
turn k one other = record { step = at_name k; one = one; other = other }

-- the parts have other steps
abbrev pub AreOnce : List Turn → Type 0
AreOnce [] = Unit {0}
AreOnce (t ∷ ts) = ((u : Turn) → Has ts u → t.step ≢ u.step) × AreOnce ts

-- each part is at a name of which P holds
abbrev AtNames : (List ℕ → Type 0) → List Turn → Type 0
AtNames P ts = (t : Turn) → Has ts t → (k : List ℕ) × (t.step ≡ at_name k) × P k

-- the parts are what stands at the names
record ByName (ms ns : Members) (ts : List Turn) : Type 0 where
  right : (t : Turn) → Has ts t → (k : List ℕ) × (t.step ≡ at_name k) × (t.one ≡ named k ms) × (t.other ≡ named k ns)
  all : (k : List ℕ) → Has ts (turn k (named k ms) (named k ns)) ⊎ (named k ms ≡ named k ns)
  once : AreOnce ts

same_name : (n k : List ℕ) → at_name n ≡ at_name k → n ≡ k
same_name n k e = cc

is_name : (n k : List ℕ) → (n ≡ k) ⊎ (n ≢ k)
is_name n k = of_test (bytes_eq n k) refl
  where
    of_test : (b : Bool) → bytes_eq n k ≡ b → (n ≡ k) ⊎ (n ≢ k)
    of_test true e = inl ((bytes_eq-Decides n k).0 e)
    of_test false e = inr (λ is. let yes_ = (bytes_eq-Decides n k).1 is in let both_ : true ≡ false = sym yes_ ∙ e in absurd (cc))

-- with one more name, which stands before all others
module _ (ms ns later_ms later_ns : Members) (n : List ℕ) (one other : Option Json) (ts : List Turn)
    (here : named n ms ≡ one) (there : named n ns ≡ other)
    (left : (k : List ℕ) → n ≢ k → named k ms ≡ named k later_ms) (right : (k : List ℕ) → n ≢ k → named k ns ≡ named k later_ns)
    (least : AtNames (IsBefore n) ts) (h : ByName later_ms later_ns ts) where
  is_later : (t : Turn) (k : List ℕ) → Has ts t → t.step ≡ at_name k → n ≢ k
  is_later t k has is = let l = least t has in not_before_itself n k (subst (IsBefore n) (same_name l.0 k (sym l.1 ∙ is)) l.2)

  right_part : (t : Turn) → Has (turn n one other ∷ ts) t → (k : List ℕ) × (t.step ≡ at_name k) × (t.one ≡ named k ms) × (t.other ≡ named k ns)
  right_part t (inl e) = (n, ap (λ (x : Turn). x.step) e, ap (λ (x : Turn). x.one) e ∙ sym here, ap (λ (x : Turn). x.other) e ∙ sym there)
  right_part t (inr has) =
      let r = h.right t has in
      let other_ = is_later t r.0 has r.1 in
      (r.0, r.1, r.2 ∙ sym (left r.0 other_), r.3 ∙ sym (right r.0 other_))

  all_parts : (k : List ℕ) → Has (turn n one other ∷ ts) (turn k (named k ms) (named k ns)) ⊎ (named k ms ≡ named k ns)
  all_parts k =
      elim (is_name n k) [
        | inl e ↦ inl (inl (subst (λ j. turn j (named j ms) (named j ns) ≡ turn n one other) e (ap₂ (turn n) here there)))
        | inr apart ↦ elim (h.all k) [
          | inl has ↦ inl (inr (subst (Has ts) (ap₂ (turn k) (sym (left k apart)) (sym (right k apart))) has))
          | inr same ↦ inr (left k apart ∙ same ∙ sym (right k apart))
        ]
      ]

  with_least : ByName ms ns (turn n one other ∷ ts)
  with_least = record {
    right = right_part;
    all = all_parts;
    once = (λ u has e. let l = least u has in not_before_itself n l.0 l.2 (same_name n l.0 (e ∙ l.1)), h.once);
  }

-- ---- the names of parts

after_names : (P : List ℕ → Type 0) (ns : Members) → EachName P ns → AtNames P (all_after ns)
after_names P no_members h t has = absurd has
after_names P (member m w ns) h t (inl e) = (m, ap (λ (x : Turn). x.step) e, h.0)
after_names P (member m w ns) h t (inr has) = after_names P ns h.1 t has

behind_names : (P : List ℕ → Type 0) (n : List ℕ) (v : Json) (ms : Members) → P n → ((ns : Members) → EachName P ns → AtNames P (merged ms ns)) → (ns : Members) → EachName P ns → AtNames P (merged_behind n v (merged ms) ns)
behind_names P n v ms p ih no_members h t (inl e) = (n, ap (λ (x : Turn). x.step) e, p)
behind_names P n v ms p ih no_members h t (inr has) = ih no_members h t has
behind_names P n v ms p ih (member m w ns) h t has =
    at_order (λ ts. Has ts t → (k : List ℕ) × (t.step ≡ at_name k) × P k) n m (before_alone n v ∷ merged ms (member m w ns)) (both n v w ∷ merged ms ns) (after_alone m w ∷ merged_behind n v (merged ms) ns)
    (λ _ g. elim g [ inl e ↦ (n, ap (λ (x : Turn). x.step) e, p) | inr l ↦ ih (member m w ns) h t l ])
    (λ _ g. elim g [ inl e ↦ (n, ap (λ (x : Turn). x.step) e, p) | inr l ↦ ih ns h.1 t l ])
    (λ _ g. elim g [ inl e ↦ (m, ap (λ (x : Turn). x.step) e, h.0) | inr l ↦ behind_names P n v ms p ih ns h.1 t l ]) has

merged_names : (P : List ℕ → Type 0) (ms ns : Members) → EachName P ms → EachName P ns → AtNames P (merged ms ns)
merged_names P no_members ns h g = after_names P ns g
merged_names P (member n v ms) ns h g = behind_names P n v ms h.0 (λ ks each. merged_names P ms ks h.1 each) ns g

-- ---- the parts of two objects

same_members : (k : List ℕ) (ms : Members) → named k ms ≡ named k ms
same_members k ms = refl

by_name_after : (ns : Members) → Rises ns → ByName no_members ns (all_after ns)
by_name_after no_members h = record { right = λ t has. absurd has; all = λ k. inr refl; once = tt }
by_name_after (member m w ns) h =
    with_least no_members (member m w ns) no_members ns m None (Some w) (all_after ns) refl (named_first m w ns) (λ k _. refl) (λ k apart. named_later m k w ns apart)
    (after_names (IsBefore m) ns h.0) (by_name_after ns h.1)

-- the first name is the one object's
first_before : (n : List ℕ) (v : Json) (ms ns : Members) → EachName (IsBefore n) ms → EachName (IsBefore n) ns → ByName ms ns (merged ms ns) → ByName (member n v ms) ns (before_alone n v ∷ merged ms ns)
first_before n v ms ns left right h =
    with_least (member n v ms) ns ms ns n (Some v) None (merged ms ns) (named_first n v ms) (not_named n ns right) (λ k apart. named_later n k v ms apart) (λ k _. refl)
    (merged_names (IsBefore n) ms ns left right) h

by_name_behind : (n : List ℕ) (v : Json) (ms : Members) → EachName (IsBefore n) ms → ((ns : Members) → Rises ns → ByName ms ns (merged ms ns))
    → (ns : Members) → Rises ns → ByName (member n v ms) ns (merged_behind n v (merged ms) ns)
by_name_behind n v ms least ih no_members h = first_before n v ms no_members least tt (ih no_members tt)
by_name_behind n v ms least ih (member m w ns) h =
    at_order (ByName (member n v ms) (member m w ns)) n m (before_alone n v ∷ merged ms (member m w ns)) (both n v w ∷ merged ms ns) (after_alone m w ∷ merged_behind n v (merged ms) ns)
    (λ before. first_before n v ms (member m w ns) least (before, each_name (IsBefore m) (IsBefore n) ns (λ k g. before_before n m k before g) h.0) (ih (member m w ns) h))
    (λ e. with_least (member n v ms) (member m w ns) ms ns n (Some v) (Some w) (merged ms ns) (named_first n v ms) (ap (λ k. named k (member m w ns)) e ∙ named_first m w ns)
    (λ k apart. named_later n k v ms apart) (λ k apart. named_later m k w ns (λ is. apart (e ∙ is))) (merged_names (IsBefore n) ms ns least (subst (λ k. EachName (IsBefore k) ns) (sym e) h.0)) (ih ns h.1))
    (λ after. let more = each_name (IsBefore n) (IsBefore m) ms (λ k g. before_before m n k after g) least in
    with_least (member n v ms) (member m w ns) (member n v ms) ns m None (Some w) (merged_behind n v (merged ms) ns) (not_named m (member n v ms) (after, more)) (named_first m w ns)
    (λ k _. refl) (λ k apart. named_later m k w ns apart) (behind_names (IsBefore m) n v ms after (λ ks each. merged_names (IsBefore m) ms ks more each) ns h.0) (by_name_behind n v ms least ih ns h.1))

by_name : (ms ns : Members) → Rises ms → Rises ns → ByName ms ns (merged ms ns)
by_name no_members ns h g = by_name_after ns g
by_name (member n v ms) ns h g = by_name_behind n v ms h.0 (λ ks rising. by_name ms ks h.1 rising) ns g

-- ---- no part differs

abbrev Agree : List Turn → Type 0
Agree ts = (t : Turn) → Has ts t → t.one ≡ t.other

none_some : (v : Json) → ◌≡◌ {A = Option Json} None (Some v) → ⊥
none_some v e = cc

some_same : (v w : Json) → ◌≡◌ {A = Option Json} (Some v) (Some w) → v ≡ w
some_same v w e = cc

equal_behind : (n : List ℕ) (v : Json) (ms : Members) → ((ns : Members) → Agree (merged ms ns) → ms ≡ ns) → (ns : Members) → Agree (merged_behind n v (merged ms) ns) → member n v ms ≡ ns
equal_behind n v ms ih no_members h = absurd (none_some v (sym (h (before_alone n v) (inl refl))))
equal_behind n v ms ih (member m w ns) h =
    at_order (λ ts. Agree ts → member n v ms ≡ member m w ns) n m (before_alone n v ∷ merged ms (member m w ns)) (both n v w ∷ merged ms ns) (after_alone m w ∷ merged_behind n v (merged ms) ns)
    (λ _ agree. absurd (none_some v (sym (agree (before_alone n v) (inl refl)))))
    (λ e agree. let values = some_same v w (agree (both n v w) (inl refl)) in let later = ih ns (λ t has. agree t (inr has)) in cc)
    (λ _ agree. absurd (none_some w (agree (after_alone m w) (inl refl)))) h

merged_equal : (ms ns : Members) → Agree (merged ms ns) → ms ≡ ns
merged_equal no_members no_members h = refl
merged_equal no_members (member m w ns) h = absurd (none_some w (h (after_alone m w) (inl refl)))
merged_equal (member n v ms) ns h = equal_behind n v ms (λ ks agree. merged_equal ms ks agree) ns h

-- ---- as parts of what is walked

object_array : (ms : Members) (one : Option Json) → Some (object ms) ≡ one → (vs : _) × (one ≡ Some (array vs)) → ⊥
object_array ms one e h = let both_ = e ∙ h.1 in cc

entered_at : (ms ns : Members) (s : Step) (k : List ℕ) (one other : Option Json) → s ≡ at_name k → one ≡ named k ms → other ≡ named k ns
    → AreEntered s (Some (object ms)) (Some (object ns)) × (one ≡ inside s (Some (object ms))) × (other ≡ inside s (Some (object ns)))
entered_at ms ns s k one other is l r =
    subst (λ x. AreEntered x (Some (object ms)) (Some (object ns)) × (one ≡ inside x (Some (object ms))) × (other ≡ inside x (Some (object ns)))) (sym is) (((ms, refl), (ns, refl)), l, r)

pub members_cover : (ms ns : Members) → AreRising (names ms) → AreRising (names ns) → Covers (Some (object ms)) (Some (object ns)) (merged ms ns)
members_cover ms ns left right = record {
  entered = λ t has. let r = by.right t has in entered_at ms ns t.step r.0 t.one t.other r.1 r.2 r.3;
  all = all_steps;
  equal = λ agree. ap (λ xs. Some (object xs)) (merged_equal ms ns agree);
  not_whole = λ w. w.no_objects (ms, refl) (ns, refl);
}
  where
    by : ByName ms ns (merged ms ns)
    by = by_name ms ns (rises ms left) (rises ns right)

    all_steps : (s : Step) → AreEntered s (Some (object ms)) (Some (object ns))
        → Has (merged ms ns) (record { step = s; one = inside s (Some (object ms)); other = inside s (Some (object ns)) }) ⊎ (inside s (Some (object ms)) ≡ inside s (Some (object ns)))
    all_steps (at_name k) e = by.all k
    all_steps (at_index i) e = absurd (object_array ms (Some (object ms)) refl e.0)

pub members_once : (ms ns : Members) → AreRising (names ms) → AreRising (names ns) → AreOnce (merged ms ns)
members_once ms ns left right = (by_name ms ns (rises ms left) (rises ns right)).once

-- a part that follows others has another step
pub once_fresh : (done later : List Turn) (t : Turn) → AreOnce (done ++ t ∷ later) → (u : Turn) → Has done u → u.step ≢ t.step
once_fresh [] later t h u has = absurd has
once_fresh (d ∷ done) later t h u (inl e) = λ same. h.0 t (right_has done later t) (ap (λ (x : Turn). x.step) (sym e) ∙ same)
  where
    right_has : (xs ys : List Turn) (x : Turn) → Has (xs ++ x ∷ ys) x
    right_has [] ys x = inl refl
    right_has (y ∷ xs) ys x = inr (right_has xs ys x)
once_fresh (d ∷ done) later t h u (inr has) = once_fresh done later t h.1 u has
