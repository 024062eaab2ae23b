-- The object of a file with signatures has a canonical text.
use Rattle.std.proofs.Common.{ℕ, zero, suc, max, ◌≤◌, ◌<◌, List, [], ◌∷◌, get_or, refl, arith, codes, IsUtf8}
use Rattle.std.proofs.Math.Nat.{le-max_right, max-le}
use Rattle.std.specs.List.{AllByRecursion}
use Rattle.std.proofs.lemmas.Str.{IsUtf8-from_ascii}
use Rattle.canonical_json.specs.Json.{Json, array, object, no_members, member, EachItem, Everywhere, depth, items_depth}
use Rattle.canonical_json.specs.Spelling.{IntegerFits, IsAllowed, IsSound}
use Rattle.keys_roles.specs.Plain.{Signature}
use Rattle.document_parts.specs.Parts.{signature_object}
use Rattle.signer.specs.Files.{items_of}
use Rattle.signer.proofs.KeptEntries.{IsEntryText}
use Rattle.signer.proofs.Plain.{hex_utf8}

ascii_at : (bytes : List ℕ) → AllByRecursion (λ b. b < 128) bytes → (k : ℕ) → get_or bytes k 0 < 128
ascii_at [] all k = omega arith
ascii_at (b ∷ bytes) all zero = all.0
ascii_at (b ∷ bytes) all (suc k) = ascii_at bytes all.1 k

keyid_utf8 : IsUtf8 (codes "keyid")
keyid_utf8 = IsUtf8-from_ascii (codes "keyid") (ascii_at (codes "keyid") (omega arith, (omega arith, (omega arith, (omega arith, (omega arith, tt))))))

sig_utf8 : IsUtf8 (codes "sig")
sig_utf8 = IsUtf8-from_ascii (codes "sig") (ascii_at (codes "sig") (omega arith, (omega arith, (omega arith, tt))))

entry_sound : (e : Signature) → IsEntryText e → Everywhere IsSound (signature_object e.keyid e.sig)
entry_sound e t = (((keyid_utf8, (sig_utf8, tt)), (refl, tt)), (hex_utf8 e.keyid t.keyid.1, (hex_utf8 e.sig t.sig.2, tt)))

entries_sound : (es : List Signature) → AllByRecursion IsEntryText es → EachItem IsSound (items_of es)
entries_sound [] t = tt
entries_sound (e ∷ es) t = (entry_sound e t.0, entries_sound es t.1)

entries_fit : (es : List Signature) → EachItem IntegerFits (items_of es)
entries_fit [] = tt
entries_fit (e ∷ es) = ((tt, (tt, (tt, tt))), entries_fit es)

entries_depth : (es : List Signature) → items_depth (items_of es) ≤ 1
entries_depth [] = omega arith
entries_depth (e ∷ es) = max-le (omega arith) (entries_depth es)

-- a file's object with other entries
pub allowed_with : (list part : Json) (es : List Signature) → AllByRecursion IsEntryText es
    → IsAllowed (object (member (codes "signatures") list (member (codes "signed") part no_members)))
    → IsAllowed (object (member (codes "signatures") (array (items_of es)) (member (codes "signed") part no_members)))
allowed_with list part es t was =
    let deep : suc (max (depth list) (max (depth part) 0)) ≤ 32 = was.nesting in
    let inner : max (depth part) 0 ≤ max (depth list) (max (depth part) 0) = le-max_right (depth list) (max (depth part) 0) in
    let flat = entries_depth es in
    let both : max (suc (items_depth (items_of es))) (max (depth part) 0) ≤ 31 = max-le (omega (arith, flat)) (omega (arith, deep, inner)) in
    record {
      proper = (was.proper.0, ((tt, entries_sound es t), (was.proper.1.1.0, tt)));
      integers = (tt, ((tt, entries_fit es), (was.integers.1.1.0, tt)));
      nesting = omega (arith, both);
    }
