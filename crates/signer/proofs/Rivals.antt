-- Which messages are rivals, by their two members.
use Rattle.std.proofs.Common.{◌≡◌, ◌≢◌, ℕ, List, Bool, true, false, MatchBool, inl, inr, refl, sym, ap, subst, ◌∙◌, codes}
use Rattle.canonical_json.specs.Json.{Json, HasMember, object, no_members, member}
use Rattle.canonical_json.specs.Spelling.{IsAllowed, IsCanonical, spelling}
use Rattle.keys_roles.specs.Plain.{Signature}
use Rattle.metadata.specs.Shape.{IsSignedBy}
use Rattle.document_parts.proofs.Once.{member_once}
use Rattle.signer.specs.Versions.{AreRivals}
use Rattle.signer.proofs.Members.{member_allowed}

-- a text has one value
abbrev pub OneValue : Type 0
OneValue = (v w : Json) (bytes : List ℕ) → IsCanonical v bytes → IsCanonical w bytes → v ≡ w

abbrev pub IsShared : Json → Json → List ℕ → Type 0
IsShared v w name = (x : Json) × HasMember v name x × HasMember w name x

abbrev pub IsUnshared : Json → Json → List ℕ → Type 0
IsUnshared v w name = (x : Json) → HasMember v name x → HasMember w name x → ⊥

-- what is lent of both is compared
pub compared : OneValue → (v w : Json) (a b name s t : List ℕ) (r : Bool) → IsCanonical v a → IsCanonical w b
    → (x : Json) × HasMember v name x × (s ≡ spelling x) → (y : Json) × HasMember w name y × (t ≡ spelling y)
    → MatchBool r (s ≡ t) (s ≢ t) → MatchBool r (IsShared v w name) (IsUnshared v w name)
compared one v w a b name s t true cv cw (x, hx, ex) (y, hy, ey) same =
    let ax = member_allowed v name x cv.allowed hx in
    let ay = member_allowed w name y cw.allowed hy in
    let e : y ≡ x = one y x (spelling x) (record { allowed = ay; spelled = sym ex ∙ same ∙ ey }) (record { allowed = ax; spelled = refl }) in
    (x, hx, subst (λ (z : Json). HasMember w name z) e hy)
compared one v w a b name s t false cv cw (x, hx, ex) (y, hy, ey) differ = λ z hz kz.
    let e : x ≡ z = member_once v name x z cv.allowed.proper hx hz in
    let f : y ≡ z = member_once w name y z cw.allowed.proper hy kz in
    differ (ex ∙ ap (λ (j : Json). spelling j) (e ∙ sym f) ∙ sym ey)

-- the messages have the member with one value, or they do not, where both are canonical
abbrev pub Compares : List ℕ → List ℕ → List ℕ → Bool → Type 0
Compares m n name r = (v w : Json) → IsCanonical v m → IsCanonical w n → MatchBool r (IsShared v w name) (IsUnshared v w name)

pub other_kind : (m n : List ℕ) → Compares m n (codes "_type") false → AreRivals m n → ⊥
other_kind m n differs r = differs r.first.value r.second.value r.first.canonical r.second.canonical r.kind r.first.has_kind r.second.has_kind

pub other_version : (m n : List ℕ) → Compares m n (codes "version") false → AreRivals m n → ⊥
other_version m n differs r = differs r.first.value r.second.value r.first.canonical r.second.canonical r.version r.first.has_version r.second.has_version

pub rivals_are : (m n : List ℕ) (v : Json) → IsCanonical v m → m ≢ n → Compares m n (codes "_type") true → Compares m n (codes "version") true
    → (r : Bool) → MatchBool r ((w : Json) × IsCanonical w n) ((w : Json) → IsCanonical w n → ⊥) → MatchBool r (AreRivals m n) (AreRivals m n → ⊥)
rivals_are m n v c differ kinds versions true (w, d) =
    let k = kinds v w c d in
    let l = versions v w c d in
    record {
      differ = differ;
      kind = k.0;
      version = l.0;
      first = record { value = v; canonical = c; has_kind = k.1; has_version = l.1 };
      second = record { value = w; canonical = d; has_kind = k.2; has_version = l.2 };
    }
rivals_are m n v c differ kinds versions false none = λ r. none r.second.value r.second.canonical

pub rivals_sym : (m n : List ℕ) → AreRivals m n → AreRivals n m
rivals_sym m n r = record { differ = λ e. r.differ (sym e); kind = r.kind; version = r.version; first = r.second; second = r.first }

-- ---- what is signed of a file

-- it has a canonical text
pub signed_canonical : (file : List ℕ) (entries : List Signature) (message : List ℕ) → IsSignedBy file entries message → (v : Json) × IsCanonical v message
signed_canonical file entries message f =
    let whole = subst IsAllowed f.2.envelope.members f.2.file.canonical.allowed in (
      f.0,
      record {
        allowed = member_allowed (object (member (codes "signatures") f.2.envelope.list (member (codes "signed") f.0 no_members))) (codes "signed") f.0 whole (inr (inl (refl, refl)));
        spelled = f.3;
      },
    )

-- a file has one signed part
pub one_message : OneValue → (file : List ℕ) (es fs : List Signature) (m n : List ℕ) → IsSignedBy file es m → IsSignedBy file fs n → m ≡ n
one_message one file es fs m n f g =
    let v : f.2.value ≡ g.2.value = one f.2.value g.2.value file f.2.file.canonical g.2.file.canonical in
    let o : object (member (codes "signatures") f.2.envelope.list (member (codes "signed") f.0 no_members)) ≡ object (member (codes "signatures") g.2.envelope.list (member (codes "signed") g.0 no_members))
    = sym f.2.envelope.members ∙ v ∙ g.2.envelope.members in
    let p : f.0 ≡ g.0 = cc in
    f.3 ∙ ap (λ (j : Json). spelling j) p ∙ sym g.3
