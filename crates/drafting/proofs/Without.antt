-- Rows without some names.
use Rattle.std.proofs.Common.{◌≡◌, ◌≢◌, inl, inr, ℕ, zero, suc, ◌<◌, Bool, true, false, cond, not, ◌||◌, List, [], ◌∷◌, bytes_eq, length, get_or, string_bytes, refl, sym, ap, ◌∙◌, subst, arith}
use Rattle.std.specs.List.{remove, list_any}
use Rattle.std.proofs.lemmas.Slice.Eq.{bytes_eq-Decides}
use Rattle.canonical_json.specs.Json.{Json}
use Rattle.canonical_json.specs.View.{view}
use Rattle.drafting.specs.Members.{HasNone, Rows, without}
use Rattle.drafting.specs.steps.Rows.{rows_view}
use Rattle.drafting.proofs.Rows.{IsAt, Row, shown}

abbrev pub One : Type 0
One = List ℕ × Json

pub same_is : (a b : List ℕ) → a ≡ b → bytes_eq a b ≡ true
same_is a b is = (bytes_eq-Decides a b).1 is

apart_is : (a b : List ℕ) (t : Bool) → bytes_eq a b ≡ t → a ≢ b → t ≡ false
apart_is a b true is apart = absurd (apart ((bytes_eq-Decides a b).0 is))
apart_is a b false is apart = refl

pub apart : (a b : List ℕ) → a ≢ b → bytes_eq a b ≡ false
apart a b h = apart_is a b (bytes_eq a b) refl h

more_by : (r : One) (names : List (List ℕ)) (l w : Rows) (t : Bool) → l ≡ without names w
    → cond (not (t || list_any (bytes_eq r.0) names)) (r ∷ l) l ≡ without names (cond (not (t || false)) (r ∷ w) w)
more_by r names l w true is = is
more_by r names l w false is = ap (λ (x : Rows). cond (not (list_any (bytes_eq r.0) names)) (r ∷ x) x) is

pub without_more : (name : List ℕ) (names : List (List ℕ)) (rows : Rows) → without (name ∷ names) rows ≡ without names (without (name ∷ []) rows)
without_more name names [] = refl
without_more name names (r ∷ rows) =
    more_by r names (without (name ∷ names) rows) (without (name ∷ []) rows) (bytes_eq r.0 name) (without_more name names rows)

pub without_none : (rows : Rows) → without [] rows ≡ rows
without_none [] = refl
without_none (r ∷ rows) = ap (λ (x : Rows). r ∷ x) (without_none rows)

goes_by : (r : One) (l : Rows) (t : Bool) → t ≡ true → cond (not (t || false)) (r ∷ l) l ≡ l
goes_by r l true is = refl
goes_by r l false is = absurd (cc)

pub goes : (name : List ℕ) (r : One) (rows : Rows) → r.0 ≡ name → without (name ∷ []) (r ∷ rows) ≡ without (name ∷ []) rows
goes name r rows is = goes_by r (without (name ∷ []) rows) (bytes_eq r.0 name) (same_is r.0 name is)

stays_by : (r : One) (l : Rows) (t : Bool) → t ≡ false → cond (not (t || false)) (r ∷ l) l ≡ r ∷ l
stays_by r l true is = absurd (cc)
stays_by r l false is = refl

pub stays : (name : List ℕ) (r : One) (rows : Rows) → r.0 ≢ name → without (name ∷ []) (r ∷ rows) ≡ r ∷ without (name ∷ []) rows
stays name r rows h = stays_by r (without (name ∷ []) rows) (bytes_eq r.0 name) (apart r.0 name h)

removed_without : (ms : List Row) (i : ℕ) (name : List ℕ) → i < length ms → ((d : Row) → string_bytes (get_or ms i d).0 ≡ name)
    → without (name ∷ []) (rows_view (remove ms i)) ≡ without (name ∷ []) (rows_view ms)
removed_without [] i name lt at = absurd (omega (arith, lt))
removed_without (m ∷ ms) zero name lt at = sym (goes name (string_bytes m.0, view m.1) (rows_view ms) (at m))
removed_without (m ∷ ms) (suc i) name lt at =
    ap (λ (x : Rows). cond (not (bytes_eq (string_bytes m.0) name || false)) ((string_bytes m.0, view m.1) ∷ x) x) (removed_without ms i name (omega (arith, lt)) (λ d. at d))

pub without_one : (all : Rows) (ms seen after : List Row) (i : ℕ) (name : List ℕ) → seen ≡ ms → after ≡ remove ms i → IsAt seen i name
    → without (name ∷ []) (rows_view ms) ≡ all → without (name ∷ []) (rows_view after) ≡ all
without_one all ms seen after i name same is at before =
    let h = subst (λ (l : List Row). IsAt l i name) same at in
    subst (λ (l : List Row). without (name ∷ []) (rows_view l) ≡ all) (sym is) (removed_without ms i name h.0 h.1 ∙ before)

none_left : (ms : List Row) (name : List ℕ) → HasNone (shown ms) name → without (name ∷ []) (rows_view ms) ≡ rows_view ms
none_left [] name none = refl
none_left (m ∷ ms) name none =
    let first : string_bytes m.0 ≢ name = λ e. none (view m.1) (inl (e, refl)) in
    stays name (string_bytes m.0, view m.1) (rows_view ms) first ∙ ap (λ (x : Rows). (string_bytes m.0, view m.1) ∷ x) (none_left ms name (λ x h. none x (inr h)))

pub without_all : (all : Rows) (ms seen : List Row) (name : List ℕ) → seen ≡ ms → HasNone (shown seen) name → without (name ∷ []) (rows_view ms) ≡ all → rows_view ms ≡ all
without_all all ms seen name same none before = sym (none_left ms name (subst (λ (l : List Row). HasNone (shown l) name) same none)) ∙ before
