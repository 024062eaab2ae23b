-- How long what is written is: where room is short of a part of a text, it is short of the whole.
use Rattle.std.proofs.Common.{◌≡◌, ℕ, ◌+◌, ◌/◌, ◌%◌, ◌<◌, ◌≤◌, ◌⊎◌, inl, inr, Bool, true, false, List, [], ◌∷◌, ◌++◌, length, flat_map, refl, sym, ◌∙◌, ap, arith, vec_len, String, string_bytes}
use Rattle.std.proofs.lemmas.Bool.{cases_lt}
use Rattle.std.proofs.lemmas.List.{length-append}
use Rattle.std.specs.declared.alloc.Global.{Global}
use Rattle.std.specs.declared.vec.Vec.{Vec}
use Rattle.canonical_json.specs.Json.{array, object}
use Rattle.canonical_json.specs.Spelling.{byte_spelling, text_spelling, spelling, numeral}
use Rattle.canonical_json.specs.View.{view, items_view, members_view}
use Rattle.canonical_json.specs.steps.Writing.{comma_before}
use Rattle.canonical_json.specs.steps.Texts.{closed_text}
use Rattle.canonical_json.specs.declared.Value.{Value}
use Rattle.canonical_json.proofs.Forms.{items_text, items_tail, items_text_is, member_text, members_text, members_tail, members_text_is}
use Rattle.canonical_json.proofs.Sound.{numeral_digit}
use Rattle.canonical_json.proofs.Appending.{items_left, items_ended, members_left, members_ended, none, last_digit}

-- ---- the output as a list of so many bytes

pub appended_len : (old new : Vec ℕ Global) (more : List ℕ) → new.items ≡ old.items ++ more → vec_len new ≡ vec_len old + length more
appended_len old new more is = let n = ap length is ∙ length-append old.items more in let a = old.ok.0 in let b = new.ok.0 in omega (arith, n, a, b)

-- where one part, and what is left behind it, is what was to come, so long is all that was to come
part_within : (start out : Vec ℕ Global) (left text : List ℕ) → out.items ++ left ≡ start.items ++ text → vec_len out + length left ≡ vec_len start + length text
part_within start out left text is =
    let n = sym (length-append out.items left) ∙ ap length is ∙ length-append start.items text in
    let a = out.ok.0 in
    let b = start.ok.0 in
    omega (arith, n, a, b)

-- ---- digits

pub digits_more : (n : ℕ) → 10 ≤ n → length (numeral n) ≡ length (numeral (n / 10)) + 1
digits_more n large =
    ap length (sym (last_digit n [] (numeral (n / 10)) (numeral (n / 10) ++ (48 + n % 10) ∷ []) large refl refl)) ∙ length-append (numeral (n / 10)) ((48 + n % 10) ∷ [])

pub digits_some : (n : ℕ) → 1 ≤ length (numeral n)
digits_some n = by_size (cases_lt n 10)
  where
    by_size : (n < 10) ⊎ (10 ≤ n) → 1 ≤ length (numeral n)
    by_size (inl small) = let one = ap length (numeral_digit n small) in omega (arith, one)
    by_size (inr large) = let more = digits_more n large in omega (arith, more)

-- ---- texts

pub byte_room : (start out : Vec ℕ Global) (text rest later : List ℕ) (b : ℕ) → rest ≡ b ∷ later → out.items ++ closed_text rest [] ≡ start.items ++ 34 ∷ closed_text text []
    → vec_len out + length (byte_spelling b) ≤ vec_len start + length (text_spelling text)
byte_room start out text rest later b is t =
    let all = part_within start out (closed_text rest []) (text_spelling text) t in
    let here = ap (λ (xs : List ℕ). length (closed_text xs [])) is ∙ length-append (byte_spelling b ++ flat_map byte_spelling later) (34 ∷ []) in
    let front = length-append (byte_spelling b) (flat_map byte_spelling later) in
    omega (arith, all, here, front)

pub mark_room : (start out : Vec ℕ Global) (text rest : List ℕ) → length rest ≡ 0 → out.items ++ closed_text rest [] ≡ start.items ++ 34 ∷ closed_text text []
    → vec_len out + 1 ≤ vec_len start + length (text_spelling text)
mark_room start out text rest is t =
    let all = part_within start out (closed_text rest []) (text_spelling text) t in
    let here = length-append (flat_map byte_spelling rest) (34 ∷ []) in
    omega (arith, all, here)

-- ---- lists

item_len : (first : Bool) (vs ws : List Value) (v : Value) → vs ≡ v ∷ ws
    → length (items_left first vs) ≡ length (comma_before first) + (length (spelling (view v)) + length (items_tail (items_view ws)))
item_len true vs ws v is =
    let all = ap (λ xs. length (items_text (items_view xs))) is in
    let parts = length-append (spelling (view v)) (items_tail (items_view ws)) in
    omega (arith, all, parts)
item_len false vs ws v is =
    let all = ap (λ xs. length (items_tail (items_view xs))) is in
    let parts = length-append (spelling (view v)) (items_tail (items_view ws)) in
    omega (arith, all, parts)

pub item_room : (first : Bool) (start out : Vec ℕ Global) (all vs ws : List Value) (v : Value) → vs ≡ v ∷ ws → out.items ++ items_left first vs ≡ start.items ++ 91 ∷ items_text (items_view all)
    → vec_len out + (length (comma_before first) + length (spelling (view v))) ≤ vec_len start + length (spelling (array (items_view all)))
item_room first start out all vs ws v is t =
    let whole = part_within start out (items_left first vs) (spelling (array (items_view all))) (t ∙ ap (λ (xs : List ℕ). start.items ++ 91 ∷ xs) (sym (items_text_is (items_view all)))) in
    let here = item_len first vs ws v is in
    omega (arith, whole, here)

pub bracket_room : (first : Bool) (start out : Vec ℕ Global) (all vs : List Value) → length vs ≡ 0 → out.items ++ items_left first vs ≡ start.items ++ 91 ∷ items_text (items_view all)
    → vec_len out + 1 ≤ vec_len start + length (spelling (array (items_view all)))
bracket_room first start out all vs is t =
    let whole = part_within start out (93 ∷ []) (spelling (array (items_view all)))
    (sym (items_ended first out.items vs (none vs is)) ∙ t ∙ ap (λ (xs : List ℕ). start.items ++ 91 ∷ xs) (sym (items_text_is (items_view all)))) in
    omega (arith, whole)

-- ---- objects

member_len : (first : Bool) (ms rest : List (String Global × Value)) (m : String Global × Value) → ms ≡ m ∷ rest
    → length (members_left first ms) ≡ length (comma_before first) + (length (member_text (string_bytes m.0) (view m.1)) + length (members_tail (members_view rest)))
member_len true ms rest m is =
    let all = ap (λ xs. length (members_text (members_view xs))) is in
    let parts = length-append (member_text (string_bytes m.0) (view m.1)) (members_tail (members_view rest)) in
    omega (arith, all, parts)
member_len false ms rest m is =
    let all = ap (λ xs. length (members_tail (members_view xs))) is in
    let parts = length-append (member_text (string_bytes m.0) (view m.1)) (members_tail (members_view rest)) in
    omega (arith, all, parts)

pub member_room : (first : Bool) (start out : Vec ℕ Global) (all ms rest : List (String Global × Value)) (m : String Global × Value) → ms ≡ m ∷ rest
    → out.items ++ members_left first ms ≡ start.items ++ 123 ∷ members_text (members_view all)
    → vec_len out + (length (comma_before first) + (length (text_spelling (string_bytes m.0)) + (1 + length (spelling (view m.1))))) ≤ vec_len start + length (spelling (object (members_view all)))
member_room first start out all ms rest m is t =
    let whole = part_within start out (members_left first ms) (spelling (object (members_view all))) (t ∙ ap (λ (xs : List ℕ). start.items ++ 123 ∷ xs) (sym (members_text_is (members_view all)))) in
    let here = member_len first ms rest m is in
    let parts = length-append (text_spelling (string_bytes m.0)) (58 ∷ spelling (view m.1)) in
    omega (arith, whole, here, parts)

pub brace_room : (first : Bool) (start out : Vec ℕ Global) (all ms : List (String Global × Value)) → length ms ≡ 0 → out.items ++ members_left first ms ≡ start.items ++ 123 ∷ members_text (members_view all)
    → vec_len out + 1 ≤ vec_len start + length (spelling (object (members_view all)))
brace_room first start out all ms is t =
    let whole = part_within start out (125 ∷ []) (spelling (object (members_view all)))
    (sym (members_ended first out.items ms (none ms is)) ∙ t ∙ ap (λ (xs : List ℕ). start.items ++ 123 ∷ xs) (sym (members_text_is (members_view all)))) in
    omega (arith, whole)
