-- The entries of a file that gets one more of a key.
use Rattle.std.proofs.Common.{◌≡◌, ◌≢◌, ℕ, ◌+◌, List, [], ◌∷◌, ◌++◌, Bool, true, false, not, cond, refl, sym, ap, ◌∙◌, arith, length, bytes_eq, append_assoc}
use Rattle.std.specs.List.{AllByRecursion}
use Rattle.std.proofs.lemmas.Slice.Eq.{bytes_eq-Decides}
use Rattle.canonical_json.specs.Json.{Items, no_items, item}
use Rattle.path_patterns.specs.Grammar.{IsHex}
use Rattle.keys_roles.specs.Plain.{Signature}
use Rattle.keys_roles.specs.Rules.{AreDistinct}
use Rattle.document_parts.specs.Members.{ItemsAre}
use Rattle.document_parts.specs.Parts.{AreSignatureDigits, IsEntry, ids_of}
use Rattle.signer.specs.Files.{items_of, others}
use Rattle.signer.specs.steps.Texts.{entries_text, entry_text}

-- what the texts of each entry are
pub record IsEntryText (e : Signature) : Type 0 where
  pub keyid : IsHex 64 e.keyid
  pub sig : AreSignatureDigits e.sig

pub entries_are : (vs : Items) (es : List Signature) → ItemsAre IsEntry vs es → AllByRecursion IsEntryText es
entries_are no_items [] t = tt
entries_are no_items (e ∷ es) t = absurd t
entries_are (item v vs) [] t = absurd t
entries_are (item v vs) (e ∷ es) t = (record { keyid = t.0.1; sig = t.0.2 }, entries_are vs es t.1)

pub items_are : (es : List Signature) → AllByRecursion IsEntryText es → ItemsAre IsEntry (items_of es) es
items_are [] t = tt
items_are (e ∷ es) t = ((refl, t.0.keyid, t.0.sig), items_are es t.1)

abbrev test : List ℕ → Signature → Bool
test key e = not (bytes_eq e.keyid key)

pub all_or : (P : Signature → Type 0) (b : Bool) (e : Signature) (xs : List Signature) → P e → AllByRecursion P xs → AllByRecursion P (cond b (e ∷ xs) xs)
all_or P true e xs p all = (p, all)
all_or P false e xs p all = all

pub all_others : (P : Signature → Type 0) (key : List ℕ) (es : List Signature) → AllByRecursion P es → AllByRecursion P (others key es)
all_others P key [] all = tt
all_others P key (e ∷ es) all = all_or P (test key e) e (others key es) all.0 (all_others P key es all.1)

-- ---- no id twice

abbrev pub IsApart : List ℕ → List Signature → Type 0
IsApart k es = AllByRecursion (λ y. k ≢ y) (ids_of es)

pub apart_or : (k : List ℕ) (b : Bool) (e : Signature) (xs : List Signature) → k ≢ e.keyid → IsApart k xs → IsApart k (cond b (e ∷ xs) xs)
apart_or k true e xs n a = (n, a)
apart_or k false e xs n a = a

apart_others : (k key : List ℕ) (es : List Signature) → IsApart k es → IsApart k (others key es)
apart_others k key [] a = tt
apart_others k key (e ∷ es) a = apart_or k (test key e) e (others key es) a.0 (apart_others k key es a.1)

pub distinct_or : (b : Bool) (e : Signature) (xs : List Signature) → IsApart e.keyid xs → AreDistinct (ids_of xs) → AreDistinct (ids_of (cond b (e ∷ xs) xs))
distinct_or true e xs a d = (a, d)
distinct_or false e xs a d = d

distinct_others : (key : List ℕ) (es : List Signature) → AreDistinct (ids_of es) → AreDistinct (ids_of (others key es))
distinct_others key [] d = tt
distinct_others key (e ∷ es) d = distinct_or (test key e) e (others key es) (apart_others e.keyid key es d.0) (distinct_others key es d.1)

other_or : (key : List ℕ) (e : Signature) (xs : List Signature) (b : Bool) → test key e ≡ b → AllByRecursion (λ f. f.keyid ≢ key) xs → AllByRecursion (λ f. f.keyid ≢ key) (cond b (e ∷ xs) xs)
other_or key e xs true h all = ((λ same. let t : bytes_eq e.keyid key ≡ true = (bytes_eq-Decides e.keyid key).1 same in absurd (cc)), all)
other_or key e xs false h all = all

not_key : (key : List ℕ) (es : List Signature) → AllByRecursion (λ f. f.keyid ≢ key) (others key es)
not_key key [] = tt
not_key key (e ∷ es) = other_or key e (others key es) (test key e) refl (not_key key es)

apart_more : (k : List ℕ) (es : List Signature) (e : Signature) → IsApart k es → k ≢ e.keyid → IsApart k (es ++ e ∷ [])
apart_more k [] e a n = (n, tt)
apart_more k (f ∷ es) e a n = (a.0, apart_more k es e a.1 n)

distinct_more : (es : List Signature) (e : Signature) → AreDistinct (ids_of es) → AllByRecursion (λ f. f.keyid ≢ e.keyid) es → AreDistinct (ids_of (es ++ e ∷ []))
distinct_more [] e d n = (tt, tt)
distinct_more (f ∷ es) e d n = (apart_more f.keyid es e d.0 n.0, distinct_more es e d.1 n.1)

pub distinct_with : (key digits : List ℕ) (es : List Signature) → AreDistinct (ids_of es) → AreDistinct (ids_of (others key es ++ record { keyid = key; sig = digits } ∷ []))
distinct_with key digits es d = distinct_more (others key es) (record { keyid = key; sig = digits }) (distinct_others key es d) (not_key key es)

-- ---- after them one more

pub all_more : (P : Signature → Type 0) (es : List Signature) (e : Signature) → AllByRecursion P es → P e → AllByRecursion P (es ++ e ∷ [])
all_more P [] e all p = (p, tt)
all_more P (f ∷ es) e all p = (all.0, all_more P es e all.1 p)

pub length_more : (es : List Signature) (e : Signature) → length (es ++ e ∷ []) ≡ length es + 1
length_more [] e = refl
length_more (f ∷ es) e = let n : length (es ++ e ∷ []) ≡ length es + 1 = length_more es e in omega (arith, n)

-- ---- an entry more is written

put_by : (old new : List ℕ) (e : Signature) (es : List Signature) (key : List ℕ) → bytes_eq e.keyid key ≡ false
    → new ≡ old ++ (entry_text e.keyid e.sig ++ 44 ∷ []) → new ++ entries_text (others key es) ≡ old ++ entries_text (others key (e ∷ es))
put_by old new e es key other is =
    let added : others key (e ∷ es) ≡ e ∷ others key es = ap (λ b. cond (not b) (e ∷ others key es) (others key es)) other in
    let text = entry_text e.keyid e.sig in
    ap (λ x. x ++ entries_text (others key es)) is
    ∙ append_assoc old (text ++ 44 ∷ []) (entries_text (others key es))
    ∙ ap (λ x. old ++ x) (append_assoc text (44 ∷ []) (entries_text (others key es)))
    ∙ ap (λ xs. old ++ entries_text xs) (sym added)

other_key : (a key : List ℕ) → a ≢ key → (b : Bool) → bytes_eq a key ≡ b → bytes_eq a key ≡ false
other_key a key n true h = absurd (n ((bytes_eq-Decides a key).0 h))
other_key a key n false h = h

pub put_next : (old new : List ℕ) (e : Signature) (es : List Signature) (key : List ℕ) → e.keyid ≢ key
    → new ≡ old ++ (entry_text e.keyid e.sig ++ 44 ∷ []) → new ++ entries_text (others key es) ≡ old ++ entries_text (others key (e ∷ es))
put_next old new e es key n is = put_by old new e es key (other_key e.keyid key n (bytes_eq e.keyid key) refl) is

joined : (f o e m s : List ℕ) → (((((f ++ o) ++ e) ++ m) ++ s) ++ 125 ∷ []) ≡ f ++ (o ++ (e ++ (m ++ (s ++ 125 ∷ []))))
joined f o e m s = simp append_assoc

-- a file is put together
pub built : (f o e m s o1 o2 o3 o4 o5 o6 : List ℕ) → o1 ≡ f → o2 ≡ o1 ++ o → o3 ≡ o2 ++ e → o4 ≡ o3 ++ m → o5 ≡ o4 ++ s → o6 ≡ o5 ++ 125 ∷ []
    → o6 ≡ f ++ (o ++ (e ++ (m ++ (s ++ 125 ∷ []))))
built f o e m s o1 o2 o3 o4 o5 o6 e1 e2 e3 e4 e5 e6 =
    e6 ∙ ap (λ x. x ++ 125 ∷ []) (e5 ∙ ap (λ x. x ++ s) (e4 ∙ ap (λ x. x ++ m) (e3 ∙ ap (λ x. x ++ e) (e2 ∙ ap (λ x. x ++ o) e1)))) ∙ joined f o e m s
