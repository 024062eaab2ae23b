-- Consistent names and what they ask for undo each other.
use Rattle.std.proofs.Common.{◌≡◌, ◌≢◌, ℕ, ◌+◌, ◌<◌, List, [], ◌∷◌, ◌++◌, length, take, drop, get_or, Option, Some, None, refl, sym, ◌∙◌, ap, subst, arith, true, append_assoc}
use Rattle.std.proofs.Math.Seq.{take-append_seam, drop-append_seam}
use Rattle.std.proofs.lemmas.List.{length-append, get_or-drop, take-append-drop}
use Rattle.std.proofs.lemmas.Str.{IsCharBoundary-before_ascii}
use Rattle.std.proofs.lemmas.Bool.{and_parts, true≢false}
use Rattle.std.specs.Str.{IsCharBoundary}
use Rattle.std.specs.Prelude.{IfNone, IsSome}
use Rattle.std.specs.List.{list_all}
use Rattle.hex.specs.Hex.{encode_lower}
use Rattle.path_patterns.specs.Bytes.{is_hex}
use Rattle.path_patterns.specs.Grammar.{IsTargetPath}
use Rattle.path_patterns.specs.Names.{IsDigest, IsCutAtLast, IsConsistentName, IsNameOf}
use Rattle.path_patterns.proofs.Digits.{digits_of_digest, bytes_at, digits_one}
use Rattle.path_patterns.proofs.LastSegment.{NoSlash, no_slash_joined, no_slash_behind, one_cut, last_segment}

-- ---- what stands before the dot and behind it
pub front_of : (d name last : List ℕ) → IsDigest d → last ≡ encode_lower d ++ 46 ∷ name → take 64 last ≡ encode_lower d
front_of d name last is e =
    let len = (digits_of_digest d is).0 in
    ap (λ (x : List ℕ). take 64 x) e ∙ ap (λ (n : ℕ). take n (encode_lower d ++ 46 ∷ name)) (sym len) ∙ take-append_seam (encode_lower d) (46 ∷ name)

pub back_of : (d name last : List ℕ) → IsDigest d → last ≡ encode_lower d ++ 46 ∷ name → drop 64 last ≡ 46 ∷ name
back_of d name last is e =
    let len = (digits_of_digest d is).0 in
    ap (λ (x : List ℕ). drop 64 x) e ∙ ap (λ (n : ℕ). drop n (encode_lower d ++ 46 ∷ name)) (sym len) ∙ drop-append_seam (encode_lower d) (46 ∷ name)

-- a text may be cut before the dot
pub cut_before_dot : (d name last : List ℕ) → IsDigest d → last ≡ encode_lower d ++ 46 ∷ name → IsCharBoundary last 64
cut_before_dot d name last is e =
    let len = (digits_of_digest d is).0 in
    let more : length last ≡ 64 + (1 + length name) = omega (arith, ap length e, length-append (encode_lower d) (46 ∷ name), len) in
    let at : get_or last 64 0 ≡ 46 = sym (get_or-drop 64 last 0 0) ∙ ap (λ (x : List ℕ). get_or x 0 0) (back_of d name last is e) in
    IsCharBoundary-before_ascii last 64 (omega arith) (omega (arith, at))

slash_no_hex : (b : ℕ) → is_hex b ≡ true → b ≢ 47
slash_no_hex b h e = true≢false (sym (subst (λ (k : ℕ). is_hex k ≡ true) e h))

no_slash_hex : (s : List ℕ) → list_all is_hex s ≡ true → NoSlash s
no_slash_hex [] h = tt
no_slash_hex (b ∷ bs) h = let p = and_parts (is_hex b) (list_all is_hex bs) h in (slash_no_hex b p.0, no_slash_hex bs p.1)

-- the digits, the dot and the name are the last segment
cut_of : (text path d : List ℕ) (c : IsConsistentName text path d) → IsCutAtLast text c.folder (encode_lower d ++ 46 ∷ c.name)
cut_of text path d c = record {
  is_folder = c.is_folder;
  is_last = no_slash_joined (encode_lower d) (46 ∷ c.name) (no_slash_hex (encode_lower d) (digits_of_digest d c.is_digest).1) ((λ e. omega (arith, e)), c.is_last);
  whole = c.with_digest;
}

path_cut : (text path d : List ℕ) (c : IsConsistentName text path d) → IsCutAtLast path c.folder c.name
path_cut text path d c = record { is_folder = c.is_folder; is_last = c.is_last; whole = c.without }

-- a text with its cut is a consistent name just where its last segment is one
pub named : (text folder last name d : List ℕ) → IsCutAtLast text folder last → IsDigest d → last ≡ encode_lower d ++ 46 ∷ name → 0 < length name
    → IsConsistentName text (folder ++ name) d
named text folder last name d cut is e some = record {
  folder = folder;
  name = name;
  is_folder = cut.is_folder;
  is_last = (no_slash_behind (encode_lower d) (46 ∷ name) (subst NoSlash e cut.is_last)).1;
  not_empty = some;
  is_digest = is;
  with_digest = cut.whole ∙ ap (λ (x : List ℕ). folder ++ x) e;
  without = refl;
}

pub last_is : (text folder last path d : List ℕ) → IsCutAtLast text folder last → (c : IsConsistentName text path d) → last ≡ encode_lower d ++ 46 ∷ c.name
last_is text folder last path d cut c = (one_cut text folder last c.folder (encode_lower d ++ 46 ∷ c.name) cut (cut_of text path d c)).1

-- ---- the law
asks_same : (text p q d e : List ℕ) → IsConsistentName text p d → IsConsistentName text q e → (p ≡ q) × (d ≡ e)
asks_same text p q d e a b =
    let cut = one_cut text a.folder (encode_lower d ++ 46 ∷ a.name) b.folder (encode_lower e ++ 46 ∷ b.name) (cut_of text p d a) (cut_of text q e b) in
    let front = sym (front_of d a.name (encode_lower d ++ 46 ∷ a.name) a.is_digest refl) ∙ front_of e b.name (encode_lower d ++ 46 ∷ a.name) b.is_digest cut.1 in
    let back = sym (back_of d a.name (encode_lower d ++ 46 ∷ a.name) a.is_digest refl) ∙ back_of e b.name (encode_lower d ++ 46 ∷ a.name) b.is_digest cut.1 in
    let name : a.name ≡ b.name = cc in (
      a.without ∙ ap (λ (x : List ℕ). x ++ a.name) cut.0 ∙ ap (λ (x : List ℕ). b.folder ++ x) name ∙ sym b.without,
      digits_one d e (bytes_at d a.is_digest.1) (bytes_at e b.is_digest.1) front,
    )

pub asks_once : (text p q : List ℕ) (d e : Option (List ℕ)) → IsNameOf text p d → IsNameOf text q e → (p ≡ q) × (d ≡ e)
asks_once text p q (Some d) (Some e) a b = let same = asks_same text p q d e a b in (same.0, ap (λ (x : List ℕ). Some x) same.1)
asks_once text p q (Some d) None a b = absurd (b.1 p d a)
asks_once text p q None (Some e) a b = absurd (a.1 q e b)
asks_once text p q None None a b = (a.0 ∙ sym b.0, refl)

pub asked_by_one : (s t path digest : List ℕ) → IsNameOf s path (Some digest) → IsNameOf t path (Some digest) → s ≡ t
asked_by_one s t path d a b =
    let cut = one_cut path a.folder a.name b.folder b.name (path_cut s path d a) (path_cut t path d b) in
    a.with_digest
    ∙ ap (λ (x : List ℕ). x ++ (encode_lower d ++ 46 ∷ a.name)) cut.0
    ∙ ap (λ (x : List ℕ). b.folder ++ (encode_lower d ++ 46 ∷ x)) cut.1
    ∙ sym b.with_digest

-- the consistent name of a target path that is cut before its last segment
pub names : (path folder name d : List ℕ) → IsTargetPath path → IsCutAtLast path folder name → IsDigest d
    → IsConsistentName (folder ++ (encode_lower d ++ 46 ∷ name)) path d
names path folder name d is cut digest =
    let l = last_segment path is in
    let same = one_cut path l.folder l.name folder name l.cut cut in
    record {
      folder = folder;
      name = name;
      is_folder = cut.is_folder;
      is_last = cut.is_last;
      not_empty = subst (λ (x : List ℕ). 0 < length x) same.1 l.not_empty;
      is_digest = digest;
      with_digest = refl;
      without = cut.whole;
    }

pub asked_by_some : (path digest : List ℕ) → IsTargetPath path → IsDigest digest → (text : List ℕ) × IsNameOf text path (Some digest)
asked_by_some path d is digest =
    let l = last_segment path is in
    (l.folder ++ (encode_lower d ++ 46 ∷ l.name), names path l.folder l.name d is l.cut digest)

pub if_none : {A : Type 0} (o : Option A) (P : Type 0) → P → IfNone o P
if_none (Some x) P p = tt
if_none None P p = p

pub never_some : {A : Type 0} (o : Option A) → o ≡ None → IsSome o → ⊥
never_some o none some = let is = rw none at some in cc

pub one_behind : (x y : List ℕ) → ◌≡◌ {A = List ℕ} (46 ∷ x) (46 ∷ y) → x ≡ y
one_behind x y e = cc

pub put_together : (last digits name : List ℕ) → take 64 last ≡ digits → drop 64 last ≡ 46 ∷ name → last ≡ digits ++ 46 ∷ name
put_together last digits name e f =
    sym (take-append-drop 64 last) ∙ ap (λ (x : List ℕ). x ++ drop 64 last) e ∙ ap (λ (x : List ℕ). digits ++ x) f

-- a text that is written part by part
pub four_parts : (a b c d folder digits name : List ℕ) → a ≡ folder → b ≡ a ++ digits → c ≡ b ++ 46 ∷ [] → d ≡ c ++ name → d ≡ folder ++ (digits ++ 46 ∷ name)
four_parts a b c d folder digits name e f g h =
    h
    ∙ ap (λ (x : List ℕ). x ++ name) (g ∙ ap (λ (x : List ℕ). x ++ 46 ∷ []) (f ∙ ap (λ (x : List ℕ). x ++ digits) e))
    ∙ append_assoc (folder ++ digits) (46 ∷ []) name
    ∙ append_assoc folder digits (46 ∷ name)
