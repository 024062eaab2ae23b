-- A request for a target ends with bytes or with a denial, and what is replied says which.
use Rattle.std.proofs.Common.{◌≡◌, ℕ, List, [], ◌∷◌, Option, Some, None, Ok, Err, refl, sym, ap, ◌∙◌, subst}
use Rattle.std.specs.Prelude.{take, cond, nat_lt, length}
use Rattle.metadata.specs.File.{Bytes, File, Form, Name, layout_form, link_form}
use Rattle.document_parts.specs.Documents.{Layout, LayoutReference, Listing, Root, Step}
use Rattle.document_parts.specs.Links.{Link}
use Rattle.document_parts.specs.Rules.{ArtifactRule, Side, materials, products}
use Rattle.layouts.specs.Layouts.{all, layout_holds, rules_and_product, ruled, step_rules}
use Rattle.std.specs.List.{zip}
use Rattle.denials.specs.Numbers as no
use Rattle.denials.specs.Orders.{Denial, Plain, RoleMissing, BlobMissing, Denied, Same, Judged, Order, pass, decide, judges, ◌>>=◌, give, check, each, need_or, stop}
use Rattle.delegations.specs.Delegation.{Edge}
use Rattle.delegations.specs.Search.{Found, Shelf, search, find_in, found_or, visit, listing_of, visited, most_visits, shelf_of}
use Rattle.trust_rules.specs.State.{State}
use Rattle.trust_rules.specs.Grants.{blob_of, layout_answer, read_as, reference_allows, searched, support, support_answer, supporting, grants, listed}
use Rattle.trust_rules.specs.Offers.{live_snapshot}
use Rattle.trust_rules.specs.Runs.{Command, Init, Batch, OfferOne, PutBlob, Prune, Metadata, Target, Reply, FileBytes, Absent, Refused, IsGranted, Steps, leads, Leads, settled, batch_outcome, Outcome}

-- ---- an order that never ends without a denial and without a value

abbrev pub NeverSame : {A : Type 0} → Order A → Type 0
NeverSame m = m (Err Same) → ⊥

pub then-never : {A B : Type 0} (m : Order A) (f : A → Order B) → NeverSame m → ((a : A) → NeverSame (f a)) → NeverSame (m >>= f)
then-never m f first rest (pass {a} h k) = rest a k
then-never m f first rest (decide h) = first h

pub check-never : (n : ℕ) (P : Type 0) → NeverSame (check n P)
check-never n P h = elim h [ ]

give-never : {A : Type 0} (a : A) → NeverSame (give a)
give-never a h = elim h [ ]

stop-never : {A : Type 0} (d : Denial) → NeverSame (stop {A = A} (Denied d))
stop-never d h = elim h [ ]

pub need-never : {A : Type 0} (d : Denial) (o : Option A) → NeverSame (need_or d o)
need-never d (Some a) h = give-never a h
need-never {A} d None h = stop-never {A = A} d h

visit-never : (V : Shelf) (e : Edge) (now : ℕ) → NeverSame (visit V e now)
visit-never V e now =
    then-never _ _ (need-never _ _) (λ entry. then-never _ _ (need-never _ _) (λ file.
    then-never _ _ (check-never _ _) (λ _. then-never _ _ (check-never _ _) (λ _. then-never _ _ (check-never _ _) (λ _.
    then-never _ _ (check-never _ _) (λ _. give-never file))))))

found-never : (V : Shelf) (role : Name) (o : Option Listing) (rest : Order Found) → NeverSame rest → NeverSame (found_or V role o rest)
found-never V role (Some l) rest never h = give-never _ h
found-never V role None rest never h = never h

find-never : (V : Shelf) (es : List Edge) (path : Bytes) (now : ℕ) (none : Order Found) → NeverSame none → NeverSame (find_in V es path now none)
find-never V [] path now none never h = never h
find-never V (e ∷ es) path now none never h =
    then-never (visit V e now) _ (visit-never V e now) (λ file. found-never V e.role (listing_of file.body path) (find_in V es path now none) (find-never V es path now none never)) h

search-never : (V : Shelf) (path : Bytes) (now : ℕ) → NeverSame (search V path now)
search-never V path now h =
    let why : Denial = Plain (cond (nat_lt most_visits (length (visited V path))) no.too_many_roles no.not_found) in
    find-never V (take most_visits (visited V path)) path now (stop {A = Found} (Denied why)) (stop-never {A = Found} why) h

searched-never : (root : Root) (V : Shelf) (path : Bytes) (now : ℕ) → NeverSame (searched root V path now)
searched-never root V path now = then-never _ _ (search-never V path now) (λ found. then-never _ _ (check-never _ _) (λ _. give-never found))

pub live-never : (S : State) (root : _) (now : ℕ) → NeverSame (live_snapshot S.trusted.timestamp S.trusted.snapshot root now)
live-never S root now =
    then-never _ _ (then-never _ _ (check-never _ _) (λ _. then-never _ _ (need-never _ _) (λ stamp. then-never _ _ (check-never _ _) (λ _. give-never _))))
    (λ stamp. then-never _ _ (need-never _ _) (λ snap. then-never _ _ (check-never _ _) (λ _. then-never _ _ (check-never _ _) (λ _. give-never _))))

listed-never : (S : State) (path : Bytes) (now : ℕ) → NeverSame (listed S.trusted path now)
listed-never S path now =
    then-never _ _ (check-never _ _) (λ _. then-never _ _ (need-never _ _) (λ root. then-never _ _ (live-never S root now)
    (λ snap. then-never _ _ (searched-never root.body (shelf_of root snap S.trusted.shelf) path now) (λ found. give-never _))))

blob-never : (S : State) (path : Bytes) (l : Listing) → NeverSame (blob_of S path l)
blob-never S path l = then-never _ _ (need-never _ _) (λ blob. then-never _ _ (check-never _ _) (λ _. give-never _))

-- ---- what a layout needs and says

answer-never : {A : Type 0} (j : Judged A) → ¬ (j ≡ Err Same) → NeverSame (support_answer j)
answer-never (Ok a) other h = give-never a h
answer-never {A} (Err (Denied (Plain n))) other h = stop-never {A = A} (Plain no.support_denied) h
answer-never {A} (Err (Denied (RoleMissing role version))) other h = stop-never {A = A} (RoleMissing role version) h
answer-never {A} (Err (Denied (BlobMissing path digest len))) other h = stop-never {A = A} (BlobMissing path digest len) h
answer-never (Err Same) other h = other refl

supporting-never : {A : Type 0} (m : Order A) → NeverSame m → NeverSame (supporting m)
supporting-never m never (judges {j} h k) = answer-never j (λ e. never (subst m e h)) k

shape-never : {A : Type 0} (j : Judged A) → NeverSame (layout_answer j)
shape-never (Ok a) h = give-never a h
shape-never {A} (Err s) h = stop-never {A = A} (Plain no.layout_shape) h

read-never : {A : Type 0} (form : Form A) (b : Bytes) → NeverSame (read_as form b)
read-never form b (judges {j} h k) = shape-never j k

each-never : {A B : Type 0} (f : A → Order B) (xs : List A) → ((a : A) → NeverSame (f a)) → NeverSame (each f xs)
each-never f [] never = give-never []
each-never f (x ∷ xs) never = then-never _ _ (never x) (λ y. then-never _ _ (each-never f xs never) (λ ys. give-never _))

all-never : {A : Type 0} (f : A → Order (Unit {0})) (xs : List A) → ((a : A) → NeverSame (f a)) → NeverSame (all f xs)
all-never f [] never = give-never tt
all-never f (x ∷ xs) never = then-never _ _ (never x) (λ u. all-never f xs never)

ruled-never : (chosen : List Link) (side : Side) (link : Link) (rules : List ArtifactRule) → NeverSame (ruled chosen side link rules)
ruled-never chosen side link rules h = elim h [ ]

rules-never : (chosen : List Link) (steps : List Step) (step product digest : Bytes) → NeverSame (rules_and_product chosen steps step product digest)
rules-never chosen steps step product digest =
    then-never _ _ (all-never (step_rules chosen) (zip steps chosen) (λ e. then-never _ _ (ruled-never chosen materials e.1 e.0.materials) (λ _. ruled-never chosen products e.1 e.0.products)))
    (λ _. check-never _ _)

holds-never : (layout : File Layout) (r : LayoutReference) (links : List (File Link)) (digest : Bytes) (now : ℕ)
    → NeverSame (layout_holds layout r.owners r.keys links r.step r.product digest now)
holds-never layout r links digest now =
    then-never _ _ (check-never _ _) (λ _. then-never _ _ (check-never _ _)
    (λ _. then-never _ _ (all-never _ layout.body.steps (λ s. check-never _ _)) (λ _. then-never _ _ (all-never _ layout.body.steps (λ s. check-never _ _))
    (λ _ h. rules-never h.chosen layout.body.steps r.step r.product digest h.judged))))

support-never : (S : State) (root : Root) (V : Shelf) (now : ℕ) (path : Bytes) → NeverSame (support S root V now path)
support-never S root V now path =
    then-never _ _ (supporting-never _ (searched-never root V path now)) (λ found. then-never _ _ (supporting-never _ (blob-never S path found.listing))
    (λ blob. then-never _ _ (check-never _ _) (λ _. give-never blob)))

allows-never : (S : State) (root : Root) (V : Shelf) (now : ℕ) (l : Listing) (o : Option LayoutReference) → NeverSame (reference_allows S root V now l o)
allows-never S root V now l None = give-never tt
allows-never S root V now l (Some r) =
    then-never _ _ (support-never S root V now r.path) (λ b. then-never _ _ (each-never _ r.links (support-never S root V now))
    (λ bs. then-never _ _ (check-never _ _) (λ _. then-never _ _ (read-never layout_form b)
    (λ layout. then-never _ _ (each-never _ bs (read-never link_form)) (λ links. holds-never layout r links l.digest now)))))

grants-never : (S : State) (path : Bytes) (asked : Option Bytes) (now : ℕ) → NeverSame (grants S path asked now)
grants-never S path asked now =
    then-never _ _ (listed-never S path now) (λ at. then-never _ _ (blob-never S path at.listing) (λ blob. then-never _ _ (allows-never S at.root at.shelf now at.listing at.listing.layout)
    (λ _. then-never _ _ (check-never _ _) (λ _. give-never blob))))

-- ---- the reply

invert : {A : Type 0} {m : A → Type 0} {out : A → Outcome} {o : Outcome} → Leads m out o → (j : A) × m j × (o ≡ out j)
invert (leads j h) = (j, h, refl)

abbrev settle : State → Judged Bytes → Outcome
settle S j = settled S (λ b. (S, FileBytes b)) Absent j

settle_keeps : (S : State) (j : Judged Bytes) → (settle S j).0 ≡ S
settle_keeps S (Ok b) = refl
settle_keeps S (Err Same) = refl
settle_keeps S (Err (Denied d)) = refl

settle_grants : (S : State) (path : Bytes) (asked : Option Bytes) (now : ℕ) (j : Judged Bytes) → grants S path asked now j → IsGranted S path asked now (settle S j).1
settle_grants S path asked now (Ok b) m = m
settle_grants S path asked now (Err Same) m = absurd (grants-never S path asked now m)
settle_grants S path asked now (Err (Denied d)) m = m

pub target_replies : (S T : State) (path : Bytes) (asked : Option Bytes) (now : ℕ) (reply : Reply) → Steps S (Target path asked) now (T, reply)
    → (T ≡ S) × IsGranted S path asked now reply
target_replies S T path asked now reply h =
    let (j, m, e) = invert h in
    (ap (λ (o : Outcome). o.0) e ∙ settle_keeps S j, subst (IsGranted S path asked now) (sym (ap (λ (o : Outcome). o.1) e)) (settle_grants S path asked now j m))

-- ---- a refusal

abbrev IsRefusal : Reply → Type 0
IsRefusal (Refused d index) = Unit {0}
IsRefusal reply = ⊥

settled_keeps : {A : Type 0} (S T : State) (done : A → Outcome) (same reply : Reply) (j : Judged A) → (T, reply) ≡ settled S done same j → IsRefusal reply
    → ((a : A) → IsRefusal (done a).1 → ⊥) → T ≡ S
settled_keeps S T done same reply (Ok a) e is none = absurd (none a (subst IsRefusal (ap (λ (o : Outcome). o.1) e) is))
settled_keeps S T done same reply (Err Same) e is none = ap (λ (o : Outcome). o.0) e
settled_keeps S T done same reply (Err (Denied d)) e is none = ap (λ (o : Outcome). o.0) e

batch_keeps : (S T : State) (reply : Reply) (r : _) → (T, reply) ≡ batch_outcome S r → IsRefusal reply → T ≡ S
batch_keeps S T reply (Ok B) e is = absurd (subst IsRefusal (ap (λ (o : Outcome). o.1) e) is)
batch_keeps S T reply (Err d) e is = ap (λ (o : Outcome). o.0) e

refusal_keeps : (S T : State) (c : Command) (now : ℕ) (reply : Reply) → Steps S c now (T, reply) → IsRefusal reply → T ≡ S
refusal_keeps S T (Init b) now reply h is = let (j, m, e) = invert h in settled_keeps S T _ _ reply j e is (λ a k. k)
refusal_keeps S T (Batch os) now reply h is = let (j, m, e) = invert h in batch_keeps S T reply j e is
refusal_keeps S T (OfferOne o b) now reply h is = let (j, m, e) = invert h in settled_keeps S T _ _ reply j e is (λ a k. k)
refusal_keeps S T (PutBlob digest b) now reply h is = let (j, m, e) = invert h in settled_keeps S T _ _ reply j e is (λ a k. k)
refusal_keeps S T Prune now reply h is = let (j, m, e) = invert h in settled_keeps S T _ _ reply j e is (λ a k. k)
refusal_keeps S T (Metadata name) now reply h is = ap (λ (o : Outcome). o.0) h
refusal_keeps S T (Target path asked) now reply h is = (target_replies S T path asked now reply h).0

pub refusals_keep : (S T : State) (c : Command) (now : ℕ) (d : Denial) (index : Option ℕ) → Steps S c now (T, Refused d index) → T ≡ S
refusals_keep S T c now d index h = refusal_keeps S T c now (Refused d index) h tt
