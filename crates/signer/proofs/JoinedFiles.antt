-- A file that is put together of a signed part and a list of entries.
use Rattle.std.proofs.Common.{◌≡◌, ◌≢◌, ◌⊎◌, inl, inr, ℕ, ◌+◌, ◌≤◌, ◌<◌, List, [], ◌∷◌, ◌++◌, Some, None, refl, sym, ap, ap₂, ◌∙◌, subst, arith, length, length-append, append_assoc, codes}
use Rattle.limits.specs.Limits.{file_limit, most_signatures}
use Rattle.std.specs.List.{AllByRecursion, join_with_byte}
use Rattle.canonical_json.specs.Json.{Json, array, object, Items, no_members, member}
use Rattle.canonical_json.specs.Spelling.{IsAllowed, item_spellings, spelling}
use Rattle.denials.specs.declared.denial.Denial.{Denial}
use Rattle.keys_roles.specs.Plain.{Signature}
use Rattle.keys_roles.specs.Rules.{AreDistinct}
use Rattle.document_parts.specs.Parts.{ids_of}
use Rattle.metadata.specs.Shape.{IsEnvelopeFault, IsSignedBy}
use Rattle.document_parts.specs.declared.documents.ShapeFault.{ShapeFault}
use Rattle.document_parts.specs.declared.documents.ShapeFault.TheVariants as shapes
use Rattle.std.proofs.lemmas.List.{length-map}
use Rattle.keys_roles.specs.Views.{entries_view, entry_view}
use Rattle.keys_roles.specs.declared.Signature.{Signature as Held}
use Rattle.signer.specs.Faults.{denial_of_shape}
use Rattle.signer.specs.Files.{file_text, items_of}
use Rattle.signer.specs.Joining.{IsEnvelopeDenial, HaveOnePart, IsUnjoined, JoinsFiles, joined, missing}
use Rattle.signer.specs.declared.faults.JoinFault.TheVariants.{Denied}
use Rattle.denials.specs.declared.denial.Denial.TheVariants as denials
use Rattle.signer.specs.steps.Texts.{entries_text, list_text, whole_text}
use Rattle.signer.proofs.Spelled.{IsPlainEntry, around, spelled_entry}
use Rattle.signer.proofs.KeptEntries.{IsEntryText, items_are}
use Rattle.signer.proofs.SignedFiles.{entries_in, plain_entries}
use Rattle.signer.proofs.Allowed.{allowed_with}
use Rattle.signer.proofs.JoinedEntries.{all_both, all_missing, cut_list, distinct_joined, missing_all, text_both}

-- ---- the text is that of the object

items_spelled : (es : List Signature) → AllByRecursion IsPlainEntry es → join_with_byte 44 (item_spellings (items_of es)) ≡ list_text es
items_spelled [] all = refl
items_spelled (e ∷ []) all = spelled_entry e.keyid e.sig all.0.keyid all.0.sig
items_spelled (e ∷ f ∷ es) all = ap₂ (λ a b. a ++ (44 ∷ b)) (spelled_entry e.keyid e.sig all.0.keyid all.0.sig) (items_spelled (f ∷ es) all.1)

whole_is : (es : List Signature) (part : Json) → AllByRecursion IsPlainEntry es → whole_text es (spelling part) ≡ file_text es part
whole_is es part all =
    ap (λ (rest : List ℕ). codes "{\"signatures\":[" ++ rest) (
    sym (around (list_text es) (spelling part))
    ∙ ap (λ (j : List ℕ). ((j ++ 93 ∷ []) ++ (44 ∷ (codes "\"signed\":" ++ spelling part))) ++ 125 ∷ []) (sym (items_spelled es all)))

-- ---- a file with other entries over the same part

pub text_of_part : (file : List ℕ) (entries : List Signature) (message : List ℕ) (es : List Signature) → (f : IsSignedBy file entries message) → AllByRecursion IsEntryText es
    → whole_text es message ≡ file_text es f.0
text_of_part file entries message es f all = ap (whole_text es) f.3 ∙ whole_is es f.0 (plain_entries es all)

pub with_entries : (file : List ℕ) (entries : List Signature) (message : List ℕ) (es : List Signature) (out : List ℕ) → IsSignedBy file entries message → AllByRecursion IsEntryText es
    → length es ≤ most_signatures → AreDistinct (ids_of es) → out ≡ whole_text es message → length out ≤ file_limit → IsSignedBy out es message
with_entries file entries message es out f all few distinct is short =
    let old = subst IsAllowed f.2.envelope.members f.2.file.canonical.allowed in (
      f.0,
      f.1,
      record {
        value = object (member (codes "signatures") (array (items_of es)) (member (codes "signed") f.0 no_members));
        file = record {
          short = short;
          canonical = record { allowed = allowed_with f.2.envelope.list f.0 es all old; spelled = is ∙ text_of_part file entries message es f all };
        };
        envelope = record {
          list = array (items_of es);
          members = refl;
          signatures = ((items_of es, refl, items_are es all), few, distinct);
          typed = f.2.envelope.typed;
        };
      },
      f.3,
    )

-- ---- none

-- the file has no fewer bytes
no_longer : (vs : Items) (part : Json) → length (whole_text [] (spelling part)) ≤ length (spelling (object (member (codes "signatures") (array vs) (member (codes "signed") part no_members))))
no_longer vs part =
    let j = join_with_byte 44 (item_spellings vs) in
    let p = spelling part in
    let whole : length (((j ++ 93 ∷ []) ++ (44 ∷ (codes "\"signed\":" ++ p))) ++ 125 ∷ []) ≡ length (j ++ (codes "],\"signed\":" ++ (p ++ codes "}"))) = ap (λ (l : List ℕ). length l) (around j p) in
    let parts = length-append j (codes "],\"signed\":" ++ (p ++ codes "}")) in
    omega (arith, whole, parts)

pub without_any : (file : List ℕ) (entries : List Signature) (message out : List ℕ) → IsSignedBy file entries message → out ≡ whole_text (joined [] []) message → IsSignedBy out [] message
without_any file entries message out f is =
    let list = f.2.envelope.signatures.0 in
    let value : f.2.value ≡ object (member (codes "signatures") (array list.0) (member (codes "signed") f.0 no_members))
    = f.2.envelope.members ∙ ap (λ (l : Json). object (member (codes "signatures") l (member (codes "signed") f.0 no_members))) list.1 in
    let text : length file ≡ length (spelling (object (member (codes "signatures") (array list.0) (member (codes "signed") f.0 no_members))))
    = ap (λ (t : List ℕ). length t) (f.2.file.canonical.spelled ∙ ap (λ (v : Json). spelling v) value) in
    let mine : length out ≡ length (whole_text [] (spelling f.0)) = ap (λ (t : List ℕ). length t) (is ∙ ap (λ (m : List ℕ). whole_text [] m) f.3) in
    let bound : length (whole_text [] (spelling f.0)) ≤ length (spelling (object (member (codes "signatures") (array list.0) (member (codes "signed") f.0 no_members)))) = no_longer list.0 f.0 in
    let was : length file ≤ file_limit = f.2.file.short in
    let fits : length out ≤ file_limit = short_by (length out) (length (whole_text [] (spelling f.0))) (length (spelling (object (member (codes "signatures") (array list.0) (member (codes "signed") f.0 no_members))))) (length file) file_limit mine bound text was in
    with_entries file entries message [] out f tt (omega arith) tt is fits
  where
    short_by : (a b c d m : ℕ) → a ≡ b → b ≤ c → d ≡ c → d ≤ m → a ≤ m
    short_by a b c d m e f g h = omega arith

-- ---- two files as one

all_joined : (file : List ℕ) (entries : List Signature) (message other : List ℕ) (further : List Signature) (n : List ℕ) → IsSignedBy file entries message → IsSignedBy other further n
    → AllByRecursion IsEntryText (joined entries further)
all_joined file entries message other further n f g =
    all_both IsEntryText entries (missing entries further) (entries_in file entries message f) (all_missing IsEntryText entries further (entries_in other further n g))

pub joins : (file other : List ℕ) (entries further : List Signature) (message out : List ℕ) → IsSignedBy file entries message → IsSignedBy other further message
    → length (joined entries further) ≤ most_signatures → out ≡ whole_text (joined entries further) message → length out ≤ file_limit → JoinsFiles file other out
joins file other entries further message out f g few is short = record {
  entries = entries;
  further = further;
  message = message;
  first = f;
  second = g;
  is = with_entries file entries message (joined entries further) out f (all_joined file entries message other further message f g) few
      (distinct_joined entries further f.2.envelope.signatures.2 g.2.envelope.signatures.2) is short;
}

one_part : (file other : List ℕ) (entries further : List Signature) (message : List ℕ) → (f : IsSignedBy file entries message) → IsSignedBy other further message → HaveOnePart file other entries further f.0
one_part file other entries further message f g = record { type_name = f.1; first = f.2; second = subst (λ (m : List ℕ). IsSignedBy other further m) f.3 g }

pub too_many : (file other : List ℕ) (entries further : List Signature) (message : List ℕ) → IsSignedBy file entries message → IsSignedBy other further message
    → most_signatures < length (joined entries further) → IsUnjoined file other (Denied denials.WrongShape)
too_many file other entries further message f g many = (entries, further, f.0, one_part file other entries further message f g, many)

pub too_long : (file other : List ℕ) (entries further : List Signature) (message out : List ℕ) → IsSignedBy file entries message → IsSignedBy other further message
    → length (joined entries further) ≤ most_signatures → out ≡ whole_text (joined entries further) message → file_limit < length out → IsUnjoined file other (Denied denials.TooLong)
too_long file other entries further message out f g few is long =
    let text = is ∙ text_of_part file entries message (joined entries further) f (all_joined file entries message other further message f g) in
    (entries, further, f.0, one_part file other entries further message f g, few, subst (λ (t : List ℕ). file_limit < length t) text long)

-- ---- why a file is not read

pub envelope_denied : (file : List ℕ) (fault : ShapeFault) (denial : Denial) → denial_of_shape fault ≡ Some denial → (fault ≡ shapes.OutOfMemory) ⊎ IsEnvelopeFault file fault → IsEnvelopeDenial file denial
envelope_denied file fault denial is (inl none) = let e : None ≡ Some denial = sym (ap (λ (g : ShapeFault). denial_of_shape g) none) ∙ is in absurd (cc)
envelope_denied file shapes.TooLong denial is (inr h) = let e : denials.TooLong ≡ denial = cc in subst (IsEnvelopeDenial file) e h
envelope_denied file shapes.NotCanonical denial is (inr h) = let e : denials.NotCanonical ≡ denial = cc in subst (IsEnvelopeDenial file) e h
envelope_denied file shapes.WrongShape denial is (inr h) = let e : denials.WrongShape ≡ denial = cc in subst (IsEnvelopeDenial file) e h
envelope_denied file shapes.WrongType denial is (inr h) = absurd h
envelope_denied file shapes.BadKeyId denial is (inr h) = absurd h
envelope_denied file shapes.OutOfMemory denial is (inr h) = absurd h

-- ---- the text that is put together

pub put_together : (es fs : List Signature) (signed o1 o2 o3 o4 o5 o6 o7 : List ℕ) → o1 ≡ codes "{\"signatures\":[" → o2 ≡ o1 ++ entries_text (missing [] es) → o3 ≡ o2 ++ entries_text (missing es fs)
    → ((before : List ℕ) → o3 ≡ before ++ 44 ∷ [] → o4 ≡ before) → ((before : List ℕ) (b : ℕ) → o3 ≡ before ++ b ∷ [] → b ≢ 44 → o4 ≡ o3)
    → o5 ≡ o4 ++ codes "],\"signed\":" → o6 ≡ o5 ++ signed → o7 ≡ o6 ++ codes "}" → o7 ≡ whole_text (joined es fs) signed
put_together es fs signed o1 o2 o3 o4 o5 o6 o7 e1 e2 e3 comma other e5 e6 e7 =
    let front = codes "{\"signatures\":[" in
    let all : o3 ≡ front ++ entries_text (joined es fs)
    = e3 ∙ ap (λ (x : List ℕ). x ++ entries_text (missing es fs)) (e2 ∙ ap (λ (x : List ℕ). x ++ entries_text (missing [] es)) e1 ∙ ap (λ (xs : List Signature). front ++ entries_text xs) (missing_all es))
    ∙ append_assoc front (entries_text es) (entries_text (missing es fs)) ∙ ap (λ (x : List ℕ). front ++ x) (sym (text_both es (missing es fs))) in
    let cut : o4 ≡ front ++ list_text (joined es fs) = cut_list (codes "{\"signatures\":") (joined es fs) o3 o4 all comma other in
    e7 ∙ ap (λ (x : List ℕ). x ++ codes "}") (e6 ∙ ap (λ (x : List ℕ). x ++ signed) (e5 ∙ ap (λ (x : List ℕ). x ++ codes "],\"signed\":") cut))
    ∙ regrouped front (list_text (joined es fs)) (codes "],\"signed\":") signed (codes "}")
  where
    regrouped : (f l m s e : List ℕ) → ((((f ++ l) ++ m) ++ s) ++ e) ≡ f ++ (l ++ (m ++ (s ++ e)))
    regrouped f l m s e = simp append_assoc

-- ---- how many, and which text

pub counted : (xs ys es fs : List Held) (n : ℕ) → xs ≡ es → ys ≡ fs → n ≡ length (missing (entries_view xs) (entries_view ys)) → length (joined (entries_view es) (entries_view fs)) ≡ length xs + n
counted xs ys es fs n x y is =
    let here : length (joined (entries_view xs) (entries_view ys)) ≡ length (entries_view xs) + length (missing (entries_view xs) (entries_view ys)) = length-append (entries_view xs) (missing (entries_view xs) (entries_view ys)) in
    let many : length (entries_view xs) ≡ length xs = length-map xs entry_view in
    let there : length (joined (entries_view es) (entries_view fs)) ≡ length (joined (entries_view xs) (entries_view ys)) = ap₂ (λ (us vs : List Held). length (joined (entries_view us) (entries_view vs))) (sym x) (sym y) in
    omega (arith, here, many, there, is)

pub same_text : (xs ys es fs : List Held) (message out : List ℕ) → xs ≡ es → ys ≡ fs → out ≡ whole_text (joined (entries_view xs) (entries_view ys)) message
    → out ≡ whole_text (joined (entries_view es) (entries_view fs)) message
same_text xs ys es fs message out x y is = is ∙ ap₂ (λ (us vs : List Held). whole_text (joined (entries_view us) (entries_view vs)) message) x y
