-- A text put behind other bytes, part by part.
use Rattle.std.proofs.Common.{◌≡◌, ℕ, ◌+◌, ◌*◌, ◌/◌, ◌%◌, ◌<◌, ◌≤◌, Bool, true, false, List, [], ◌∷◌, ◌++◌, length, refl, sym, ◌∙◌, ap, arith, append_assoc, String, string_bytes}
use Rattle.std.specs.declared.alloc.Global.{Global}
use Rattle.canonical_json.specs.Json.{array, object, depth, items_depth, members_depth}
use Rattle.canonical_json.specs.Spelling.{spelling, text_spelling, numeral}
use Rattle.canonical_json.specs.View.{view, items_view, members_view}
use Rattle.canonical_json.specs.steps.Writing.{GoesOn, comma_before}
use Rattle.canonical_json.specs.declared.Value.{Value}
use Rattle.canonical_json.proofs.Sound.{numeral_more, numeral_digit}
use Rattle.canonical_json.proofs.Forms.{items_text, items_tail, items_text_is, members_text, members_tail, members_text_is}

-- ---- beginnings

pub more_front : (a b c : List ℕ) → GoesOn a b → GoesOn b c → GoesOn a c
more_front a b c f g = (f.0 ++ g.0, g.1 ∙ ap (λ (xs : List ℕ). xs ++ g.0) f.1 ∙ append_assoc a f.0 g.0)

-- ---- lists

pub none : {A : Type 0} (xs : List A) → length xs ≡ 0 → xs ≡ []
none [] e = refl
none (x ∷ xs) e = absurd (omega arith)

-- what is left to write of a list, before its first value or behind one
abbrev pub items_left : Bool → List Value → List ℕ
items_left true vs = items_text (items_view vs)
items_left false vs = items_tail (items_view vs)

pub item_written : (first : Bool) (out separated written : List ℕ) (vs ws : List Value) (v : Value) → vs ≡ v ∷ ws
    → separated ≡ out ++ comma_before first → written ≡ separated ++ spelling (view v) → written ++ items_left false ws ≡ out ++ items_left first vs
item_written true out separated written vs ws v is s w =
    ap (λ (xs : List ℕ). xs ++ items_tail (items_view ws)) (w ∙ ap (λ (xs : List ℕ). xs ++ spelling (view v)) (s ∙ nothing out))
    ∙ append_assoc out (spelling (view v)) (items_tail (items_view ws)) ∙ ap (λ xs. out ++ items_text (items_view xs)) (sym is)
  where
    nothing : (xs : List ℕ) → xs ++ [] ≡ xs
    nothing [] = refl
    nothing (x ∷ xs) = ap (λ (ys : List ℕ). x ∷ ys) (nothing xs)
item_written false out separated written vs ws v is s w =
    ap (λ (xs : List ℕ). xs ++ items_tail (items_view ws)) (w ∙ ap (λ (xs : List ℕ). xs ++ spelling (view v)) s)
    ∙ append_assoc (out ++ 44 ∷ []) (spelling (view v)) (items_tail (items_view ws)) ∙ append_assoc out (44 ∷ []) (spelling (view v) ++ items_tail (items_view ws))
    ∙ ap (λ xs. out ++ items_tail (items_view xs)) (sym is)

pub items_ended : (first : Bool) (out : List ℕ) (vs : List Value) → vs ≡ [] → out ++ items_left first vs ≡ out ++ 93 ∷ []
items_ended true out vs is = ap (λ xs. out ++ items_text (items_view xs)) is
items_ended false out vs is = ap (λ xs. out ++ items_tail (items_view xs)) is

-- the whole text of a list
pub list_written : (first : Bool) (start out ended : List ℕ) (all vs : List Value) → length vs ≡ 0 → out ++ items_left first vs ≡ start ++ 91 ∷ items_text (items_view all) → ended ≡ out ++ 93 ∷ []
    → ended ≡ start ++ spelling (array (items_view all))
list_written first start out ended all vs is t e =
    e ∙ sym (items_ended first out vs (none vs is)) ∙ t ∙ ap (λ (xs : List ℕ). start ++ 91 ∷ xs) (sym (items_text_is (items_view all)))

pub item_inside : (vs ws all : List Value) (v : Value) → vs ≡ v ∷ ws → items_depth (items_view vs) ≤ items_depth (items_view all)
    → (depth (view v) ≤ items_depth (items_view all)) × (items_depth (items_view ws) ≤ items_depth (items_view all))
item_inside vs ws all v is h = let e = ap (λ xs. items_depth (items_view xs)) is in (omega arith, omega arith)

-- ---- objects

abbrev pub members_left : Bool → List (String Global × Value) → List ℕ
members_left true ms = members_text (members_view ms)
members_left false ms = members_tail (members_view ms)

pub member_written : (first : Bool) (out separated named colon written : List ℕ) (ms rest : List (String Global × Value)) (m : String Global × Value) → ms ≡ m ∷ rest
    → separated ≡ out ++ comma_before first → named ≡ separated ++ text_spelling (string_bytes m.0) → colon ≡ named ++ 58 ∷ [] → written ≡ colon ++ spelling (view m.1)
    → written ++ members_left false rest ≡ out ++ members_left first ms
member_written first out separated named colon written ms rest m is s n c w = by_first first (s)
  where
    name : List ℕ
    name = text_spelling (string_bytes m.0)

    tail : List ℕ
    tail = members_tail (members_view rest)

    nothing : (xs : List ℕ) → xs ++ [] ≡ xs
    nothing [] = refl
    nothing (x ∷ xs) = ap (λ (ys : List ℕ). x ∷ ys) (nothing xs)

    all : written ++ members_tail (members_view rest) ≡ separated ++ ((text_spelling (string_bytes m.0) ++ 58 ∷ spelling (view m.1)) ++ members_tail (members_view rest))
    all =
        ap (λ (xs : List ℕ). xs ++ members_tail (members_view rest))
        (w ∙ ap (λ (xs : List ℕ). xs ++ spelling (view m.1)) (c ∙ ap (λ (xs : List ℕ). xs ++ 58 ∷ []) n) ∙ append_assoc (separated ++ text_spelling (string_bytes m.0)) (58 ∷ []) (spelling (view m.1))
        ∙ append_assoc separated (text_spelling (string_bytes m.0)) (58 ∷ spelling (view m.1)))
        ∙ append_assoc separated (text_spelling (string_bytes m.0) ++ 58 ∷ spelling (view m.1)) (members_tail (members_view rest))

    by_first : (b : Bool) → separated ≡ out ++ comma_before b → written ++ members_tail (members_view rest) ≡ out ++ members_left b ms
    by_first true s = all ∙ ap (λ (xs : List ℕ). xs ++ ((text_spelling (string_bytes m.0) ++ 58 ∷ spelling (view m.1)) ++ members_tail (members_view rest))) (s ∙ nothing out)
        ∙ ap (λ xs. out ++ members_text (members_view xs)) (sym is)
    by_first false s = all ∙ ap (λ (xs : List ℕ). xs ++ ((text_spelling (string_bytes m.0) ++ 58 ∷ spelling (view m.1)) ++ members_tail (members_view rest))) s
        ∙ append_assoc out (44 ∷ []) ((text_spelling (string_bytes m.0) ++ 58 ∷ spelling (view m.1)) ++ members_tail (members_view rest))
        ∙ ap (λ xs. out ++ members_tail (members_view xs)) (sym is)

pub member_inside : (ms rest all : List (String Global × Value)) (m : String Global × Value) → ms ≡ m ∷ rest → members_depth (members_view ms) ≤ members_depth (members_view all)
    → (depth (view m.1) ≤ members_depth (members_view all)) × (members_depth (members_view rest) ≤ members_depth (members_view all))
member_inside ms rest all m is h = let e = ap (λ xs. members_depth (members_view xs)) is in (omega arith, omega arith)

pub members_ended : (first : Bool) (out : List ℕ) (ms : List (String Global × Value)) → ms ≡ [] → out ++ members_left first ms ≡ out ++ 125 ∷ []
members_ended true out ms is = ap (λ xs. out ++ members_text (members_view xs)) is
members_ended false out ms is = ap (λ xs. out ++ members_tail (members_view xs)) is

-- the whole text of an object
pub object_written : (first : Bool) (start out ended : List ℕ) (all ms : List (String Global × Value)) → length ms ≡ 0 → out ++ members_left first ms ≡ start ++ 123 ∷ members_text (members_view all)
    → ended ≡ out ++ 125 ∷ [] → ended ≡ start ++ spelling (object (members_view all))
object_written first start out ended all ms is t e =
    e ∙ sym (members_ended first out ms (none ms is)) ∙ t ∙ ap (λ (xs : List ℕ). start ++ 123 ∷ xs) (sym (members_text_is (members_view all)))

-- ---- digits

pub first_digit : (n : ℕ) (start out ended : List ℕ) → n < 10 → out ≡ start → ended ≡ out ++ (48 + n % 10) ∷ [] → ended ≡ start ++ numeral n
first_digit n start out ended small o e =
    let same : n % 10 ≡ n = omega arith in
    e ∙ ap (λ (xs : List ℕ). xs ++ (48 + n % 10) ∷ []) o ∙ ap (λ (d : ℕ). start ++ (48 + d) ∷ []) same ∙ ap (λ (xs : List ℕ). start ++ xs) (sym (numeral_digit n small))

pub last_digit : (n : ℕ) (start out ended : List ℕ) → 10 ≤ n → out ≡ start ++ numeral (n / 10) → ended ≡ out ++ (48 + n % 10) ∷ [] → ended ≡ start ++ numeral n
last_digit n start out ended large o e =
    let parts : n / 10 * 10 + n % 10 ≡ n = omega arith in
    e ∙ ap (λ (xs : List ℕ). xs ++ (48 + n % 10) ∷ []) o ∙ append_assoc start (numeral (n / 10)) ((48 + n % 10) ∷ [])
    ∙ ap (λ (xs : List ℕ). start ++ xs) (sym (numeral_more (n / 10) (n % 10) (omega arith) (omega arith)) ∙ ap numeral parts)
