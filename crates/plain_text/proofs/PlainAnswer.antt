-- What is spelled is plain, and what needs no spelling stays.
use Rattle.std.proofs.Common.{◌≡◌, ℕ, true, false, not, ◌||◌, ◌==◌, nat_lt, List, [], ◌∷◌, ◌++◌, flat_map, chars, encode_utf8_all, IsUtf8, refl, sym, ◌∙◌, ap}
use Rattle.std.proofs.lemmas.Bool.{and_parts, and_from, or_parts, not-true, eqb-false}
use Rattle.std.proofs.lemmas.List.Folds.{list_all-append}
use Rattle.std.proofs.lemmas.List.{flat_map_more}
use Rattle.std.proofs.lemmas.Str.{encodes-append, encodes-chars, chars_from_encodes}
use Rattle.std.specs.Fmt.{digits}
use Rattle.std.specs.List.{list_all}
use Rattle.plain_text.specs.Spelling.{is_control, is_hidden, is_plain, is_kept, two_digits, spelling_of}
use Rattle.plain_text.proofs.Shapes.{Kind, control, hidden, backslash, itself, kind_of, shape, shaped}
use Rattle.plain_text.proofs.Spelled as spelled
use Rattle.plain_text.proofs.Spelled.{is_simple, code_simple, pair_simple}

simple_plain : (cs : List ℕ) → list_all is_simple cs ≡ true → list_all is_plain cs ≡ true
simple_plain [] h = refl
simple_plain (c ∷ cs) h =
    let p = and_parts (is_simple c) (list_all is_simple cs) h in
    and_from (is_plain c) (list_all is_plain cs) (and_parts (is_plain c) _ (and_parts (nat_lt c 123) _ p.0).1).0 (simple_plain cs p.1)

shape_plain : (c : ℕ) (k : Kind c) → list_all is_plain (shape c k) ≡ true
shape_plain c (control is) = simple_plain (two_digits c) (pair_simple c is)
shape_plain c (hidden no_control is) =
    list_all-append is_plain (digits 16 false c) (125 ∷ []) ∙ and_from (list_all is_plain (digits 16 false c)) true (simple_plain (digits 16 false c) (code_simple c is)) refl
shape_plain c (backslash is) = refl
shape_plain c (itself no_control seen other) = rw (no_control, seen)

pub text_plain : (cs : List ℕ) → list_all is_plain (flat_map spelling_of cs) ≡ true
text_plain [] = refl
text_plain (c ∷ cs) =
    list_all-append is_plain (spelling_of c) (flat_map spelling_of cs)
    ∙ and_from (list_all is_plain (spelling_of c)) _ (ap (list_all is_plain) (shaped c (kind_of c)) ∙ shape_plain c (kind_of c)) (text_plain cs)

kept_is : (c : ℕ) → is_kept c ≡ true → spelling_of c ≡ c ∷ []
kept_is c h =
    let p = and_parts (is_plain c) (not (c == 92)) h in
    let parts = or_parts (is_control c) (is_hidden c) (not-true (is_control c || is_hidden c) p.0) in
    spelled.itself c parts.0 parts.1 (eqb-false c 92 (not-true (c == 92) p.1))

pub text_kept : (cs : List ℕ) → list_all is_kept cs ≡ true → flat_map spelling_of cs ≡ cs
text_kept [] h = refl
text_kept (c ∷ cs) h =
    let p = and_parts (is_kept c) (list_all is_kept cs) h in
    ap (λ (xs : List ℕ). xs ++ flat_map spelling_of cs) (kept_is c p.0) ∙ ap (λ (xs : List ℕ). c ∷ xs) (text_kept cs p.1)

-- ---- the text that is written
pub one_more : (old new cs : List ℕ) (c : ℕ) → old ≡ encode_utf8_all (flat_map spelling_of cs) → new ≡ old ++ encode_utf8_all (spelling_of c)
    → new ≡ encode_utf8_all (flat_map spelling_of (cs ++ c ∷ []))
one_more old new cs c e f =
    f
    ∙ ap (λ (xs : List ℕ). xs ++ encode_utf8_all (spelling_of c)) e
    ∙ sym (encodes-append (flat_map spelling_of cs) (spelling_of c))
    ∙ ap encode_utf8_all (flat_map_more spelling_of [] cs c)

pub written : (out text cs : List ℕ) → IsUtf8 out → out ≡ encode_utf8_all (flat_map spelling_of cs) → cs ≡ chars text → chars out ≡ flat_map spelling_of (chars text)
written out text cs utf8 e all = sym (chars_from_encodes (flat_map spelling_of cs) out utf8 (sym e)) ∙ ap (flat_map spelling_of) all

pub plain_answer : (out text : List ℕ) → chars out ≡ flat_map spelling_of (chars text) → list_all is_plain (chars out) ≡ true
plain_answer out text e = ap (list_all is_plain) e ∙ text_plain (chars text)

pub same_answer : (out text : List ℕ) → IsUtf8 out → IsUtf8 text → chars out ≡ flat_map spelling_of (chars text) → list_all is_kept (chars text) ≡ true → out ≡ text
same_answer out text left right e h =
    sym (encodes-chars out left) ∙ ap encode_utf8_all (e ∙ text_kept (chars text) h) ∙ encodes-chars text right
