-- Entries after those of another file, each id once, and their text.
use Rattle.std.proofs.Common.{◌≡◌, ◌≢◌, ℕ, List, [], ◌∷◌, ◌++◌, Bool, true, false, not, cond, ◌||◌, refl, sym, ap, ◌∙◌, arith, bytes_eq, append_assoc}
use Rattle.std.specs.List.{AllByRecursion}
use Rattle.std.proofs.lemmas.List.{append-nil}
use Rattle.std.proofs.lemmas.Slice.Eq.{bytes_eq-Decides}
use Rattle.keys_roles.specs.Plain.{Signature}
use Rattle.keys_roles.specs.Rules.{AreDistinct}
use Rattle.document_parts.specs.Parts.{ids_of}
use Rattle.signer.specs.Joining.{has_entry, joined, missing}
use Rattle.signer.specs.steps.Texts.{entries_text, entry_text, list_text}
use Rattle.signer.proofs.KeptEntries.{IsApart, all_or, apart_or, distinct_or}

-- ---- whether an entry is of the key

by_key : (e : Signature) (es : List Signature) (key : List ℕ) (b : Bool) → bytes_eq e.keyid key ≡ b → has_entry (e ∷ es) key ≡ (b || has_entry es key)
by_key e es key b is = ap (λ (t : Bool). t || has_entry es key) is

pub found_entry : (e : Signature) (es : List Signature) (key : List ℕ) → e.keyid ≡ key → has_entry (e ∷ es) key ≡ true
found_entry e es key same = by_key e es key true ((bytes_eq-Decides e.keyid key).1 same)

differs : (a b : List ℕ) → a ≢ b → (t : Bool) → bytes_eq a b ≡ t → bytes_eq a b ≡ false
differs a b n true h = absurd (n ((bytes_eq-Decides a b).0 h))
differs a b n false h = h

pub other_entry : (e : Signature) (es : List Signature) (key : List ℕ) → e.keyid ≢ key → has_entry (e ∷ es) key ≡ has_entry es key
other_entry e es key n = by_key e es key false (differs e.keyid key n (bytes_eq e.keyid key) refl)

-- an id that has no entry is another than each
no_entry : (es : List Signature) (key : List ℕ) → has_entry es key ≡ false → AllByRecursion (λ e. e.keyid ≢ key) es
no_entry [] key h = tt
no_entry (e ∷ es) key h = (
  (λ same. let t : has_entry (e ∷ es) key ≡ true = found_entry e es key same in absurd (cc)),
  (let step : bytes_eq e.keyid key ≡ false = or_left (bytes_eq e.keyid key) (has_entry es key) h in no_entry es key (sym (by_key e es key false step) ∙ h)),
)
  where
    or_left : (a b : Bool) → (a || b) ≡ false → a ≡ false
    or_left true b h = absurd (cc)
    or_left false b h = refl

-- ---- which are missing

-- of no entries all
pub missing_all : (fs : List Signature) → missing [] fs ≡ fs
missing_all [] = refl
missing_all (f ∷ fs) = ap (λ (xs : List Signature). f ∷ xs) (missing_all fs)

pub all_missing : (P : Signature → Type 0) (es fs : List Signature) → AllByRecursion P fs → AllByRecursion P (missing es fs)
all_missing P es [] all = tt
all_missing P es (f ∷ fs) all = all_or P (not (has_entry es f.keyid)) f (missing es fs) all.0 (all_missing P es fs all.1)

pub all_both : (P : Signature → Type 0) (es fs : List Signature) → AllByRecursion P es → AllByRecursion P fs → AllByRecursion P (es ++ fs)
all_both P [] fs a b = b
all_both P (e ∷ es) fs a b = (a.0, all_both P es fs a.1 b)

-- ---- no id twice

apart_missing : (k : List ℕ) (es fs : List Signature) → IsApart k fs → IsApart k (missing es fs)
apart_missing k es [] a = tt
apart_missing k es (f ∷ fs) a = apart_or k (not (has_entry es f.keyid)) f (missing es fs) a.0 (apart_missing k es fs a.1)

distinct_missing : (es fs : List Signature) → AreDistinct (ids_of fs) → AreDistinct (ids_of (missing es fs))
distinct_missing es [] d = tt
distinct_missing es (f ∷ fs) d = distinct_or (not (has_entry es f.keyid)) f (missing es fs) (apart_missing f.keyid es fs d.0) (distinct_missing es fs d.1)

-- each that is missing is apart from each entry
new_or : (es : List Signature) (f : Signature) (xs : List Signature) (b : Bool) → has_entry es f.keyid ≡ b → AllByRecursion (λ g. has_entry es g.keyid ≡ false) xs
    → AllByRecursion (λ g. has_entry es g.keyid ≡ false) (cond (not b) (f ∷ xs) xs)
new_or es f xs true h all = all
new_or es f xs false h all = (h, all)

are_new : (es fs : List Signature) → AllByRecursion (λ g. has_entry es g.keyid ≡ false) (missing es fs)
are_new es [] = tt
are_new es (f ∷ fs) = new_or es f (missing es fs) (has_entry es f.keyid) refl (are_new es fs)

later_new : (e : Signature) (es xs : List Signature) → AllByRecursion (λ g. has_entry (e ∷ es) g.keyid ≡ false) xs → IsApart e.keyid xs × AllByRecursion (λ g. has_entry es g.keyid ≡ false) xs
later_new e es [] all = (tt, tt)
later_new e es (x ∷ xs) all =
    let here = no_entry (e ∷ es) x.keyid all.0 in
    let rest = later_new e es xs all.1 in (
      (here.0, rest.0),
      (sym (other_entry e es x.keyid here.0) ∙ all.0, rest.1),
    )

apart_both : (k : List ℕ) (es fs : List Signature) → IsApart k es → IsApart k fs → IsApart k (es ++ fs)
apart_both k [] fs a b = b
apart_both k (e ∷ es) fs a b = (a.0, apart_both k es fs a.1 b)

distinct_both : (es xs : List Signature) → AreDistinct (ids_of es) → AreDistinct (ids_of xs) → AllByRecursion (λ g. has_entry es g.keyid ≡ false) xs → AreDistinct (ids_of (es ++ xs))
distinct_both [] xs d x new = x
distinct_both (e ∷ es) xs d x new =
    let later = later_new e es xs new in
    (apart_both e.keyid es xs d.0 later.0, distinct_both es xs d.1 x later.1)

pub distinct_joined : (es fs : List Signature) → AreDistinct (ids_of es) → AreDistinct (ids_of fs) → AreDistinct (ids_of (joined es fs))
distinct_joined es fs d f = distinct_both es (missing es fs) d (distinct_missing es fs f) (are_new es fs)

-- ---- their text

pub text_both : (es fs : List Signature) → entries_text (es ++ fs) ≡ entries_text es ++ entries_text fs
text_both [] fs = refl
text_both (e ∷ es) fs =
    ap (λ (t : List ℕ). entry_text e.keyid e.sig ++ (44 ∷ t)) (text_both es fs) ∙ sym (append_assoc (entry_text e.keyid e.sig) (44 ∷ entries_text es) (entries_text fs))

-- a comma after each is one between each two, and one more
with_comma : (e : Signature) (es : List Signature) → entries_text (e ∷ es) ≡ list_text (e ∷ es) ++ 44 ∷ []
with_comma e [] = refl
with_comma e (f ∷ es) =
    ap (λ (t : List ℕ). entry_text e.keyid e.sig ++ (44 ∷ t)) (with_comma f es) ∙ sym (append_assoc (entry_text e.keyid e.sig) (44 ∷ list_text (f ∷ es)) (44 ∷ []))

-- the last comma is cut
pub cut_list : (front : List ℕ) (es : List Signature) (old new : List ℕ) → old ≡ (front ++ 91 ∷ []) ++ entries_text es
    → ((before : List ℕ) → old ≡ before ++ 44 ∷ [] → new ≡ before) → ((before : List ℕ) (b : ℕ) → old ≡ before ++ b ∷ [] → b ≢ 44 → new ≡ old)
    → new ≡ (front ++ 91 ∷ []) ++ list_text es
cut_list front [] old new is comma other =
    other front 91 (is ∙ append-nil (front ++ 91 ∷ [])) (λ same. let no : 91 ≡ 44 = same in absurd (omega arith)) ∙ is
cut_list front (e ∷ es) old new is comma other =
    comma ((front ++ 91 ∷ []) ++ list_text (e ∷ es)) (
    is ∙ ap (λ (t : List ℕ). (front ++ 91 ∷ []) ++ t) (with_comma e es) ∙ sym (append_assoc (front ++ 91 ∷ []) (list_text (e ∷ es)) (44 ∷ [])))
