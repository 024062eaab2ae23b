-- The parts of documents give one thing only: moments, digests, keys, tables, rules.
use Rattle.std.proofs.Common.{◌≡◌, ℕ, ◌+◌, ◌/◌, ◌%◌, ◌<◌, ◌≤◌, ℤ, pos, List, codes, slice_index, Bool, true, false, ◌==◌, ◌||◌, if◌then◌else◌, Option, sym, ap, ◌∙◌, subst, arith}
use Rattle.jiff.specs.Types.{Date}
use Rattle.jiff.specs.Words.{epoch_day, days_in_month, is_leap_year}
use Rattle.hex.specs.Hex.{encode_lower}
use Rattle.canonical_json.specs.Json.{Json}
use Rattle.canonical_json.specs.Spelling.{IsProper}
use Rattle.keys_roles.specs.Plain.{lms, hss, Table, RoleRule, Signature}
use Rattle.document_parts.proofs.KeyObjects.{schemes_differ}
use Rattle.document_parts.specs.Documents.{MetaFile}
use Rattle.document_parts.specs.Members.{Has, IsArray, IsText, IsNumber}
use Rattle.document_parts.specs.Dates.{IsDateTime}
use Rattle.document_parts.specs.Parts.{HasExpires, IsHashes, IsKey, IsTable, HasRule, IsRuleOver, IsMetaFile, IsVersion, IsLength, IsEntry, last_number}
use Rattle.document_parts.proofs.Congruence.{same2, same3}
use Rattle.document_parts.proofs.Once.{IsOnce, has-once, may-once, array-once, object-once, text-once, number-once, hex-once}

if-le : (b : Bool) (x y n : ℕ) → x ≤ n → y ≤ n → (if b then x else y) ≤ n
if-le true x y n h k = h
if-le false x y n h k = k

month-le : (y : ℤ) (m : ℕ) → days_in_month y m ≤ 31
month-le y m =
    if-le (m == 2) (if is_leap_year y then 29 else 28) (if (m == 4) || (m == 6) || (m == 9) || (m == 11) then 30 else 31) 31
    (if-le (is_leap_year y) 29 28 31 (omega arith) (omega arith))
    (if-le ((m == 4) || (m == 6) || (m == 9) || (m == 11)) 30 31 31 (omega arith) (omega arith))

two-once : (a b : ℕ) → a < 100 → b < 100 → 48 + a / 10 % 10 ≡ 48 + b / 10 % 10 → 48 + a % 10 ≡ 48 + b % 10 → a ≡ b
two-once a b h k p q = omega (arith, h, k, p, q)

date-once : (y z : ℕ) (m n : ℕ) (a b : ℕ) (d e : Date) → d.year ≡ pos y → e.year ≡ pos z → y ≡ z → d.month ≡ e.month → d.day ≡ e.day → epoch_day d ≡ epoch_day e
date-once y z m n a b d e p q r s t =
    let year : d.year ≡ e.year = p ∙ (ap pos r ∙ sym q) in
    cc

pub moment-once : (bytes : List ℕ) (s t : ℕ) → IsDateTime bytes s → IsDateTime bytes t → s ≡ t
moment-once bytes s t d e =
    let same = sym d.spelled ∙ e.spelled in
    let at : (i : ℕ) → _ = λ i. ap (λ (xs : List ℕ). slice_index xs i) same in
    let y0 : 48 + d.year / 100 / 10 % 10 ≡ 48 + e.year / 100 / 10 % 10 = at 0 in
    let y1 : 48 + d.year / 100 % 10 ≡ 48 + e.year / 100 % 10 = at 1 in
    let y2 : 48 + d.year % 100 / 10 % 10 ≡ 48 + e.year % 100 / 10 % 10 = at 2 in
    let y3 : 48 + d.year % 100 % 10 ≡ 48 + e.year % 100 % 10 = at 3 in
    let dy = d.last_year in
    let ey = e.last_year in
    let high : d.year / 100 ≡ e.year / 100 = two-once (d.year / 100) (e.year / 100) (omega (arith, dy)) (omega (arith, ey)) y0 y1 in
    let low : d.year % 100 ≡ e.year % 100 = two-once (d.year % 100) (e.year % 100) (omega arith) (omega arith) y2 y3 in
    let year : d.year ≡ e.year = omega (arith, high, low) in
    let dm = d.date.month_in.1 in
    let em = e.date.month_in.1 in
    let month : d.date.month ≡ e.date.month = two-once d.date.month e.date.month (omega (arith, dm)) (omega (arith, em)) (at 5) (at 6) in
    let dd = d.date.day_in.1 in
    let ed = e.date.day_in.1 in
    let dl = month-le d.date.year d.date.month in
    let el = month-le e.date.year e.date.month in
    let day : d.date.day ≡ e.date.day = two-once d.date.day e.date.day (omega (arith, dd, dl)) (omega (arith, ed, el)) (at 8) (at 9) in
    let dh = d.hours in
    let eh = e.hours in
    let hour : d.hour ≡ e.hour = two-once d.hour e.hour (omega (arith, dh)) (omega (arith, eh)) (at 11) (at 12) in
    let dn = d.minutes in
    let en = e.minutes in
    let minute : d.minute ≡ e.minute = two-once d.minute e.minute (omega (arith, dn)) (omega (arith, en)) (at 14) (at 15) in
    let ds = d.whole_seconds in
    let es = e.whole_seconds in
    let second : d.second ≡ e.second = two-once d.second e.second (omega (arith, ds)) (omega (arith, es)) (at 17) (at 18) in
    let date : epoch_day d.date ≡ epoch_day e.date = date-once d.year e.year 0 0 0 0 d.date e.date d.is_year e.is_year year month day in
    let dc = d.counted in
    let ec = e.counted in
    let both : pos s ≡ pos t = cc in
    cc

pub expires-once : IsOnce HasExpires
expires-once = has-once (codes "expires") (λ x s. (bytes : List ℕ) × IsText x bytes × IsDateTime bytes s)
    (λ v a b p h k.
    let bytes : h.0 ≡ k.0 = text-once v h.0 k.0 p h.1 k.1 in
    moment-once h.0 a b h.2 (subst (λ (z : List ℕ). IsDateTime z b) (sym bytes) k.2))

pub version-once : (name : List ℕ) → IsOnce (λ v n. Has v name (λ x. IsVersion x n))
version-once name = has-once name IsVersion (number-once 1 last_number)

pub hashes-once : IsOnce IsHashes
hashes-once v a b p h k =
    let both = sym h.1 ∙ k.1 in
    let digits : encode_lower a ≡ encode_lower b = cc in
    hex-once a b h.0.1 k.0.1 digits

entry-is : (d e : MetaFile) → d.version ≡ e.version → d.len ≡ e.len → d.digest ≡ e.digest → d ≡ e
entry-is d e p q r = same3 make p q r
  where
    make : ℕ → Option ℕ → Option (List ℕ) → MetaFile
    make version len digest = record { version = version; len = len; digest = digest }

pub meta-once : IsOnce IsMetaFile
meta-once v a b p h k = entry-is a b
    (version-once (codes "version") v a.version b.version p h.0 k.0)
    (may-once (codes "length") IsLength (number-once 0 last_number) v a.len b.len p h.1 k.1)
    (may-once (codes "hashes") IsHashes hashes-once v a.digest b.digest p h.2 k.2)

pub signature-once : IsOnce IsEntry
signature-once v a b p h k =
    let both = sym h.0 ∙ k.0 in
    let ids : a.keyid ≡ b.keyid = cc in
    let digits : a.sig ≡ b.sig = cc in
    same2 make ids digits
  where
    make : List ℕ → List ℕ → Signature
    make id digits = record { keyid = id; sig = digits }

pub key-once : IsOnce IsKey
key-once v (lms a) (lms b) p h k =
    let both = sym h.0 ∙ k.0 in
    let digits : encode_lower a ≡ encode_lower b = cc in
    ap lms (hex-once a b h.1.1 k.1.1 digits)
key-once v (hss a) (hss b) p h k =
    let both = sym h.0 ∙ k.0 in
    let digits : encode_lower a ≡ encode_lower b = cc in
    ap hss (hex-once a b h.1.1 k.1.1 digits)
key-once v (lms a) (hss b) p h k = absurd (schemes_differ a b (sym h.0 ∙ k.0))
key-once v (hss a) (lms b) p h k = absurd (schemes_differ b a (sym k.0 ∙ h.0))

pub pair-is : {A : Type 0} (d e : List ℕ × A) → d.0 ≡ e.0 → d.1 ≡ e.1 → d ≡ e
pair-is d e p q = ap (λ z. (z, d.1)) p ∙ ap (λ z. (e.0, z)) q

pub table-once : IsOnce IsTable
table-once v a b p h k =
    object-once (λ name x e. (e.0 ≡ name) × IsKey x e.1) (λ n w c d q f g. pair-is c d (f.0 ∙ sym g.0) (key-once w c.1 d.1 q f.1 g.1)) v a b p h.0 k.0

rule-is : (d e : RoleRule) → d.keyids ≡ e.keyids → d.threshold ≡ e.threshold → d ≡ e
rule-is d e p q = same2 make p q
  where
    make : List (List ℕ) → ℕ → RoleRule
    make ids threshold = record { keyids = ids; threshold = threshold }

-- whatever the table
abbrev pub HasSomeRule : List ℕ → Json → RoleRule → Type 0
HasSomeRule ids v rule = (table : Table) × HasRule ids v table rule

pub rule-once : (ids : List ℕ) → IsOnce (HasSomeRule ids)
rule-once ids v a b p h k = rule-is a b
    (has-once ids (λ x xs. IsArray IsText x xs) (array-once IsText text-once) v a.keyids b.keyids p h.1.0 k.1.0)
    (has-once (codes "threshold") (IsNumber 1 16) (number-once 1 16) v a.threshold b.threshold p h.1.1 k.1.1)

-- a rule that the object has is the one of its ids and its threshold
pub over_same : (ids : List ℕ) (v : Json) (table : Table) (s r : RoleRule) → IsProper v → Has v ids (λ x. IsArray IsText x s.keyids)
    → Has v (codes "threshold") (λ x. IsNumber 1 16 x s.threshold) → HasRule ids v table r → IsRuleOver table s
over_same ids v table s r p h t k =
    let keyids : r.keyids ≡ s.keyids = has-once ids (λ x xs. IsArray IsText x xs) (array-once IsText text-once) v r.keyids s.keyids p k.0 h in
    let threshold : r.threshold ≡ s.threshold = has-once (codes "threshold") (IsNumber 1 16) (number-once 1 16) v r.threshold s.threshold p k.1 t in
    subst (λ (z : RoleRule). IsRuleOver table z) (rule-is r s keyids threshold) k.2
