-- Rows in their order: delegations that are put in their places.
use Rattle.std.proofs.Common.{◌≡◌, ◌≢◌, ℕ, zero, suc, ◌<◌, ◌≤◌, Bool, true, false, cond, not, List, [], ◌∷◌, ◌++◌, bytes_eq, length, take, drop, get_or, string_bytes, refl, sym, ap, ◌∙◌, arith}
use Rattle.std.specs.List.{AllByRecursion, insert}
use Rattle.std.proofs.lemmas.List.{length-map, map-append, take-append-drop}
use Rattle.std.proofs.lemmas.List.Sums.{take_while-cons}
use Rattle.std.proofs.lemmas.Slice.Eq.{bytes_eq-Decides}
use Rattle.canonical_json.specs.Json.{Json, Members, member, object}
use Rattle.canonical_json.specs.View.{view, members_view}
use Rattle.chain_drafting.specs.Delegations.{Delegated, PutsDelegation, ahead_of, by_role, delegation_object, front_of, members_by_role}
use Rattle.drafting.specs.Members.{Rows, without}
use Rattle.drafting.specs.steps.Rows.{rows_view}
use Rattle.drafting.proofs.Rows.{Row, shown}
use Rattle.drafting.proofs.Without.{One, apart, goes, same_is, stays}

-- ---- the rows before one

stops_by : (r : One) (l : Rows) (t : Bool) → t ≡ true → cond (not t) (r ∷ l) [] ≡ []
stops_by r l true is = refl
stops_by r l false is = absurd (cc)

passes_by : (r : One) (l : Rows) (t : Bool) → t ≡ false → cond (not t) (r ∷ l) [] ≡ r ∷ l
passes_by r l true is = absurd (cc)
passes_by r l false is = refl

ahead_at : (role : List ℕ) (r : One) (rows : Rows) → ahead_of role (r ∷ rows) ≡ cond (not (bytes_eq r.0 role)) (r ∷ ahead_of role rows) []
ahead_at role r rows = take_while-cons (λ e. not (bytes_eq e.0 role)) r rows

stops : (role : List ℕ) (r : One) (rows : Rows) → r.0 ≡ role → ahead_of role (r ∷ rows) ≡ []
stops role r rows is = ahead_at role r rows ∙ stops_by r (ahead_of role rows) (bytes_eq r.0 role) (same_is r.0 role is)

passes : (role : List ℕ) (r : One) (rows : Rows) → r.0 ≢ role → ahead_of role (r ∷ rows) ≡ r ∷ ahead_of role rows
passes role r rows h = ahead_at role r rows ∙ passes_by r (ahead_of role rows) (bytes_eq r.0 role) (apart r.0 role h)

-- none of the first rows has the name
abbrev pub NoneBefore : List Row → ℕ → List ℕ → Type 0
NoneBefore ms i role = (k : ℕ) → k < i → (d : Row) → string_bytes (get_or ms k d).0 ≡ role → ⊥

pub ahead_found : (ms : List Row) (i : ℕ) (role : List ℕ) → i < length ms → NoneBefore ms i role → ((d : Row) → string_bytes (get_or ms i d).0 ≡ role)
    → take i (rows_view ms) ≡ ahead_of role (rows_view ms)
ahead_found [] i role lt none at = absurd (omega (arith, lt))
ahead_found (m ∷ ms) zero role lt none at = sym (stops role (string_bytes m.0, view m.1) (rows_view ms) (at m))
ahead_found (m ∷ ms) (suc i) role lt none at =
    ap (λ (x : Rows). (string_bytes m.0, view m.1) ∷ x) (ahead_found ms i role (omega (arith, lt)) (λ k below d. none (suc k) (omega (arith, below)) d) (λ d. at d))
    ∙ sym (passes role (string_bytes m.0, view m.1) (rows_view ms) (none zero (omega arith) m))

pub ahead_none : (ms : List Row) (role : List ℕ) → NoneBefore ms (length ms) role → take (length ms) (rows_view ms) ≡ ahead_of role (rows_view ms)
ahead_none [] role none = refl
ahead_none (m ∷ ms) role none =
    ap (λ (x : Rows). (string_bytes m.0, view m.1) ∷ x) (ahead_none ms role (λ k below d. none (suc k) (omega (arith, below)) d))
    ∙ sym (passes role (string_bytes m.0, view m.1) (rows_view ms) (none zero (omega arith) m))

-- ---- what stands before the role's own stays at the front

front_by : (role : List ℕ) (r : One) (rows back : Rows) (t : Bool) → bytes_eq r.0 role ≡ t → without (role ∷ []) rows ≡ ahead_of role rows ++ back
    → (more : Rows) × (without (role ∷ []) (r ∷ rows) ≡ ahead_of role (r ∷ rows) ++ more)
front_by role r rows back true is same =
    let e : r.0 ≡ role = (bytes_eq-Decides r.0 role).0 is in
    (without (role ∷ []) rows, goes role r rows e ∙ ap (λ (x : Rows). x ++ without (role ∷ []) rows) (sym (stops role r rows e)))
front_by role r rows back false is same =
    let e : r.0 ≢ role = λ h. let t : bytes_eq r.0 role ≡ true = same_is r.0 role h in absurd (cc) in
    (back, stays role r rows e ∙ ap (λ (x : Rows). r ∷ x) same ∙ ap (λ (x : Rows). x ++ back) (sym (passes role r rows e)))

front_stays : (role : List ℕ) (rows : Rows) → (back : Rows) × (without (role ∷ []) rows ≡ ahead_of role rows ++ back)
front_stays role [] = ([], refl)
front_stays role (r ∷ rows) = let h = front_stays role rows in front_by role r rows h.0 (bytes_eq r.0 role) refl h.1

front_is : (xs ys : Rows) → (length xs ≤ length (xs ++ ys)) × (take (length xs) (xs ++ ys) ≡ xs)
front_is [] ys = (omega arith, refl)
front_is (x ∷ xs) ys = let h = front_is xs ys in (omega (arith, h.0), ap (λ (l : Rows). x ∷ l) h.1)

long : (ms : List Row) (n : ℕ) → n ≤ length ms → n ≡ length (take n (rows_view ms))
long ms zero le = refl
long [] (suc n) le = absurd (omega (arith, le))
long (m ∷ ms) (suc n) le = ap (λ (k : ℕ). suc k) (long ms n (omega (arith, le)))

pub own_taken : (role : List ℕ) (ms new : List Row) (own : ℕ) → own ≤ length ms → take own (rows_view ms) ≡ ahead_of role (rows_view ms)
    → rows_view new ≡ without (role ∷ []) (rows_view ms) → (own ≤ length new) × (take own (rows_view new) ≡ ahead_of role (rows_view ms))
own_taken role ms new own le ahead rest =
    let rows = rows_view ms in
    let front = ahead_of role rows in
    let h = front_stays role rows in
    let size : own ≡ length front = long ms own le ∙ ap (λ (x : Rows). length x) ahead in
    let whole : rows_view new ≡ front ++ h.0 = rest ∙ h.1 in
    let f = front_is front h.0 in
    let count : length (rows_view new) ≡ length new = length-map new (λ r. (string_bytes r.0, view r.1)) in
    let long_new : length (rows_view new) ≡ length (front ++ h.0) = ap (λ (x : Rows). length x) whole in
    let within : length front ≤ length (front ++ h.0) = f.0 in
    (omega (arith, size, count, long_new, within), ap (λ (x : Rows). take own x) whole ∙ ap (λ (k : ℕ). take k (front ++ h.0)) size ∙ f.1)

-- ---- a delegation is put

taken_view : (ms : List Row) (i : ℕ) → rows_view (take i ms) ≡ take i (rows_view ms)
taken_view ms zero = refl
taken_view [] (suc i) = refl
taken_view (m ∷ ms) (suc i) = ap (λ (x : Rows). (string_bytes m.0, view m.1) ∷ x) (taken_view ms i)

dropped_view : (ms : List Row) (i : ℕ) → rows_view (drop i ms) ≡ drop i (rows_view ms)
dropped_view ms zero = refl
dropped_view [] (suc i) = refl
dropped_view (m ∷ ms) (suc i) = dropped_view ms i

inserted_view : (ms : List Row) (i : ℕ) (m : Row) → rows_view (insert ms i m) ≡ take i (rows_view ms) ++ (string_bytes m.0, view m.1) ∷ drop i (rows_view ms)
inserted_view ms i m =
    map-append (λ (r : Row). (string_bytes r.0, view r.1)) (take i ms) (m ∷ drop i ms)
    ∙ ap (λ (x : Rows). x ++ (string_bytes m.0, view m.1) ∷ rows_view (drop i ms)) (taken_view ms i)
    ∙ ap (λ (x : Rows). take i (rows_view ms) ++ (string_bytes m.0, view m.1) ∷ x) (dropped_view ms i)

pub put_there : (said : Delegated) (old : Rows) (ms after : List Row) (place : ℕ) (m : Row) → rows_view ms ≡ without (said.role ∷ []) old
    → take place (rows_view ms) ≡ front_of said.before (ahead_of said.role old) (rows_view ms) → after ≡ insert ms place m
    → string_bytes m.0 ≡ said.role → view m.1 ≡ delegation_object said → PutsDelegation said old (rows_view after)
put_there said old ms after place m rest front is role value =
    let rows = rows_view ms in
    let whole : take place rows ++ drop place rows ≡ rows = take-append-drop place rows in
    record {
      front = take place rows;
      back = drop place rows;
      others = whole ∙ rest;
      place = front ∙ ap (λ (x : Rows). front_of said.before (ahead_of said.role old) x) (sym whole);
      is = ap (λ (l : List Row). rows_view l) is ∙ inserted_view ms place m
          ∙ ap (λ (n : List ℕ). take place rows ++ (n, view m.1) ∷ drop place rows) role
          ∙ ap (λ (v : Json). take place rows ++ (said.role, v) ∷ drop place rows) value;
    }

-- ---- rows by their names

shown_members : (ms : List Row) → members_view ms ≡ members_by_role (rows_view ms)
shown_members [] = refl
shown_members (m ∷ ms) = ap (λ (x : Members). member (string_bytes m.0) (view m.1) x) (shown_members ms)

pub shown_by_role : (ms : List Row) → shown ms ≡ by_role (rows_view ms)
shown_by_role ms = ap (λ (x : Members). object x) (shown_members ms)

pub all_pushed : {A : Type 0} (P : A → Type 0) (xs : List A) (x : A) → AllByRecursion P xs → P x → AllByRecursion P (xs ++ x ∷ [])
all_pushed P [] x all p = (p, tt)
all_pushed P (y ∷ xs) x all p = (all.0, all_pushed P xs x all.1 p)

pub no_view : (ms : List Row) → rows_view ms ≡ [] → length ms ≡ 0
no_view [] is = refl
no_view (m ∷ ms) is = absurd (cc)
