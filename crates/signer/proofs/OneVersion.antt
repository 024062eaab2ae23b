-- What becomes of a book in which no key has two rivals.
use Rattle.std.proofs.Common.{◌≡◌, ◌⊎◌, ◌∷◌, [], ℕ, List, Result, Ok, Err, inl, inr, refl, sym, ap, subst, ◌∙◌, arith}
use Rattle.sqlite_rules.specs.Lists.{Has}
use Rattle.sqlite_rules.proofs.ListLemmas.{has_either}
use Rattle.lms.specs.declared.Params.{Params}
use Rattle.lms.specs.declared.Seed.{Seed}
use Rattle.keys_roles.specs.Plain.{Signature}
use Rattle.canonical_json.specs.Json.{Json}
use Rattle.document_parts.specs.Parts.{IsEnvelope}
use Rattle.metadata.specs.Shape.{IsEnvelopeFault, IsSignedBy}
use Rattle.document_parts.specs.declared.documents.ShapeFault.{ShapeFault}
use Rattle.document_parts.specs.declared.documents.ShapeFault.TheVariants as shapes
use Rattle.leaf_plans.specs.Book.{Book, LeafRow, key_of, with_leaf}
use Rattle.leaf_book.specs.Calls.{Registers, Reserved, Reserves}
use Rattle.leaf_book.specs.declared.faults.BookFault.{BookFault}
use Rattle.leaf_book.specs.declared.faults.BookFault.TheVariants.{LeavesSpent, UnknownKey, Damaged, OtherTree, Database, OutOfMemory}
use Rattle.signer.specs.Faults.{of_shape}
use Rattle.signer.specs.Files.{IsUnsignedFile}
use Rattle.signer.specs.Messages.{IsBegun, IsUnsigned}
use Rattle.signer.specs.Once.{Event, Happens, Runs, SignsOnce, crash, crash_in_register, crash_in_sign_once, register, reopen, sign_once}
use Rattle.signer.specs.Versions.{AreRivals, HasNoRivals, IsRivalLeaf, LacksRivals, LacksRivalsOf}
use Rattle.signer.specs.declared.faults.SignFileFault.{SignFileFault}
use Rattle.signer.specs.declared.faults.SignFileFault.TheVariants as files
use Rattle.signer.specs.declared.faults.SignOnceFault.{SignOnceFault}
use Rattle.signer.specs.declared.faults.SignOnceFault.TheVariants.{Other, Unsigned}
use Rattle.signer.proofs.Rivals.{OneValue, one_message, rivals_sym}

-- ---- one call of the book

abbrev entry : List ℕ → ℕ → List ℕ → LeafRow
entry key leaf message = record { key = key; leaf = leaf; message = message }

stays : (b c : Book) → c ≡ b → HasNoRivals b → HasNoRivals c
stays b c same none = subst HasNoRivals (sym same) none

same_leaves : (b c : Book) → c.leaves ≡ b.leaves → HasNoRivals b → HasNoRivals c
same_leaves b c same none = λ key m n k l hm hn. none key m n k l (subst (λ (es : List LeafRow). Has es (entry key k m)) same hm) (subst (λ (es : List LeafRow). Has es (entry key l n)) same hn)

leaves_of : (b c : Book) → c ≡ b → c.leaves ≡ b.leaves
leaves_of b c same = ap (λ (d : Book). d.leaves) same

-- a registration leaves the leaf history
pub registers_leaves : (b c : Book) (seed : Seed) (params : Params) (r : Result (List ℕ) BookFault) → Registers b seed params r c → c.leaves ≡ b.leaves
registers_leaves b c seed params (Ok key) (id, lacks, inl held) = leaves_of b c held.1
registers_leaves b c seed params (Ok key) (id, lacks, inr new) = ap (λ (d : Book). d.leaves) new.1
registers_leaves b c seed params (Err Damaged) r = leaves_of b c r.1
registers_leaves b c seed params (Err OtherTree) r = leaves_of b c r.1
registers_leaves b c seed params (Err LeavesSpent) r = absurd r
registers_leaves b c seed params (Err UnknownKey) r = absurd r
registers_leaves b c seed params (Err Database) r = leaves_of b c r
registers_leaves b c seed params (Err OutOfMemory) r = leaves_of b c r

lacks_still : (b c : Book) (key message : List ℕ) → c.leaves ≡ b.leaves → LacksRivals b key message → LacksRivals c key message
lacks_still b c key message same lacks = λ leaf h. lacks leaf (subst (λ (es : List LeafRow). IsRivalLeaf es key message leaf) same h)

-- the entry that is new is no rival of one that was there
new_old : (b : Book) (key message n : List ℕ) (leaf l : ℕ) (k : List ℕ) (m : List ℕ) (i : ℕ) → LacksRivals b key message
    → entry k i m ≡ entry key leaf message → Has b.leaves (entry k l n) → AreRivals m n → ⊥
new_old b key message n leaf l k m i lacks is h r =
    let same_key : k ≡ key = ap (λ (e : LeafRow). e.key) is in
    let same_message : m ≡ message = ap (λ (e : LeafRow). e.message) is in
    lacks l (n, subst (λ (j : List ℕ). Has b.leaves (entry j l n)) same_key h, subst (λ (j : List ℕ). AreRivals j n) same_message r)

new_new : (message m n key k : List ℕ) (leaf i l : ℕ) → entry k i m ≡ entry key leaf message
    → entry k l n ≡ entry key leaf message → AreRivals m n → ⊥
new_new message m n key k leaf i l one two r = r.differ (ap (λ (e : LeafRow). e.message) one ∙ sym (ap (λ (e : LeafRow). e.message) two))

one_leaf_more : (b : Book) (key : List ℕ) (leaf : ℕ) (message : List ℕ) → LacksRivals b key message → HasNoRivals b → HasNoRivals (with_leaf key leaf message b)
one_leaf_more b key leaf message lacks none = λ k m n i l hm hn r.
    let new = entry key leaf message in
    elim (has_either b.leaves (new ∷ []) (entry k i m) hm) [
      | inl om ↦
          elim (has_either b.leaves (new ∷ []) (entry k l n) hn) [
            | inl on ↦ none k m n i l om on r
            | inr an ↦ elim an [ inl is ↦ new_old b key message m leaf i k n l lacks is om (rivals_sym m n r) | inr never ↦ absurd never ]
          ]
      | inr am ↦
          elim am [
            | inl is ↦
                elim (has_either b.leaves (new ∷ []) (entry k l n) hn) [
                  | inl on ↦ new_old b key message n leaf l k m i lacks is on r
                  | inr an ↦ elim an [ inl too ↦ new_new message m n key k leaf i l is too r | inr never ↦ absurd never ]
                ]
            | inr never ↦ absurd never
          ]
    ]

reserves_safe : (b c : Book) (key message : List ℕ) (r : Result Reserved BookFault) → LacksRivals b key message → HasNoRivals b → Reserves b key message r c → HasNoRivals c
reserves_safe b c key message (Ok r) lacks none (k, m, registered, below, inl held) = stays b c held.1 none
reserves_safe b c key message (Ok r) lacks none (k, m, registered, below, inr new) = stays (with_leaf key r.leaf message b) c new.2 (one_leaf_more b key r.leaf message lacks none)
reserves_safe b c key message (Err LeavesSpent) lacks none r = stays b c r.2 none
reserves_safe b c key message (Err UnknownKey) lacks none r = stays b c r.1 none
reserves_safe b c key message (Err Damaged) lacks none r = absurd r
reserves_safe b c key message (Err OtherTree) lacks none r = absurd r
reserves_safe b c key message (Err Database) lacks none r = stays b c r none
reserves_safe b c key message (Err OutOfMemory) lacks none r = stays b c r none

-- ---- one signing

both_safe : (b c d : Book) (seed : Seed) (params : Params) (key message : List ℕ) (q : Result (List ℕ) BookFault) (r : Result Reserved BookFault) → LacksRivals b key message → HasNoRivals b
    → Registers b seed params q c → Reserves c key message r d → HasNoRivals d
both_safe b c d seed params key message q r lacks none was then =
    let same = registers_leaves b c seed params q was in
    reserves_safe c d key message r (lacks_still b c key message same lacks) (same_leaves b c same none) then

begun_safe : (b d : Book) (seed : Seed) (params : Params) (message : List ℕ) → LacksRivals b (key_of seed params) message → HasNoRivals b → IsBegun b seed params message d → HasNoRivals d
begun_safe b d seed params message lacks none (inl same) = stays b d same none
begun_safe b d seed params message lacks none (inr (c, was, inl same)) = stays c d same (same_leaves b c (registers_leaves b c seed params (Ok (key_of seed params)) was) none)
begun_safe b d seed params message lacks none (inr (c, was, inr (leaf, then))) =
    both_safe b c d seed params (key_of seed params) message (Ok (key_of seed params)) (Ok leaf) lacks none was then

unsigned_safe : (b d : Book) (seed : Seed) (params : Params) (message : List ℕ) (fault : BookFault) → LacksRivals b (key_of seed params) message → HasNoRivals b
    → IsUnsigned b seed params message fault d → HasNoRivals d
unsigned_safe b d seed params message Damaged lacks none u = same_leaves b d (registers_leaves b d seed params (Err Damaged) u) none
unsigned_safe b d seed params message OtherTree lacks none u = same_leaves b d (registers_leaves b d seed params (Err OtherTree) u) none
unsigned_safe b d seed params message LeavesSpent lacks none (c, was, then) =
    both_safe b c d seed params (key_of seed params) message (Ok (key_of seed params)) (Err LeavesSpent) lacks none was then
unsigned_safe b d seed params message UnknownKey lacks none u = absurd u
unsigned_safe b d seed params message Database lacks none u = begun_safe b d seed params message lacks none u
unsigned_safe b d seed params message OutOfMemory lacks none u = begun_safe b d seed params message lacks none u

unsigned_file_safe : (b d : Book) (seed : Seed) (params : Params) (file : List ℕ) (fault : SignFileFault) → LacksRivalsOf b (key_of seed params) file → HasNoRivals b
    → IsUnsignedFile b seed params file fault d → HasNoRivals d
unsigned_file_safe b d seed params file (files.Denied denial) lacks none u = stays b d u.1 none
unsigned_file_safe b d seed params file (files.Book fault) lacks none (entries, message, f, u) = unsigned_safe b d seed params message fault (lacks entries message f) none u
unsigned_file_safe b d seed params file files.OutOfMemory lacks none (inl same) = stays b d same none
unsigned_file_safe b d seed params file files.OutOfMemory lacks none (inr (entries, message, f, u)) = begun_safe b d seed params message (lacks entries message f) none u

once_safe : (b d : Book) (seed : Seed) (params : Params) (file : List ℕ) (r : Result (List ℕ) SignOnceFault) → HasNoRivals b → SignsOnce b seed params file r d → HasNoRivals d
once_safe b d seed params file (Ok out) none (s, lacks) =
    both_safe b s.signs.registered d seed params (key_of seed params) s.message (Ok (key_of seed params)) (Ok s.signs.leaf) (lacks s.entries s.message s.was) none s.signs.registers s.signs.reserves
once_safe b d seed params file (Err (Other leaf)) none (it, same) = stays b d same none
once_safe b d seed params file (Err (Unsigned fault)) none (u, inl lacks) = unsigned_file_safe b d seed params file fault lacks none u
once_safe b d seed params file (Err (Unsigned fault)) none (u, inr (is, same)) = stays b d same none

-- ---- lists of calls

happens_safe : (b c : Book) (e : Event) → HasNoRivals b → Happens b e c → HasNoRivals c
happens_safe b c (register seed params) none (r, does) = same_leaves b c (registers_leaves b c seed params r does) none
happens_safe b c (sign_once seed params file) none (r, does) = once_safe b c seed params file r none does
happens_safe b c (crash_in_register seed params) none (inl same) = stays b c same none
happens_safe b c (crash_in_register seed params) none (inr (r, does)) = same_leaves b c (registers_leaves b c seed params r does) none
happens_safe b c (crash_in_sign_once seed params file) none (inl same) = stays b c same none
happens_safe b c (crash_in_sign_once seed params file) none (inr (r, does)) = once_safe b c seed params file r none does
happens_safe b c crash none same = stays b c same none
happens_safe b c reopen none (same, right) = λ key m n k l hm hn. none key m n k l ((same.leaves (entry key k m)).1 hm) ((same.leaves (entry key l n)).1 hn)

pub runs_safe : (b d : Book) (es : List Event) → HasNoRivals b → Runs b es d → HasNoRivals d
runs_safe b d [] none same = stays b d same none
runs_safe b d (e ∷ es) none (c, first, rest) = runs_safe c d es (happens_safe b c e none first) rest

-- ---- why none is signed

pub ill : (file : List ℕ) (fault : ShapeFault) → OneValue → IsEnvelopeFault file fault → (entries : List Signature) (message : List ℕ) → IsSignedBy file entries message → ⊥
ill file shapes.TooLong one h entries message f = absurd (omega (arith, h, f.2.file.short))
ill file shapes.NotCanonical one h entries message f = h.1 f.2.value f.2.file.canonical
ill file shapes.WrongShape one (v, is, none) entries message f =
    none entries f.0 f.1 (subst (λ (j : Json). IsEnvelope j entries f.0 f.1) (one f.2.value v file f.2.file.canonical is.canonical) f.2.envelope)
ill file shapes.WrongType one h entries message f = absurd h
ill file shapes.BadKeyId one h entries message f = absurd h
ill file shapes.OutOfMemory one h entries message f = absurd h

-- an envelope that is not in order
pub unread : OneValue → (b : Book) (seed : Seed) (params : Params) (file : List ℕ) (fault : ShapeFault) → (fault ≡ shapes.OutOfMemory) ⊎ IsEnvelopeFault file fault
    → SignsOnce b seed params file (Err (Unsigned (of_shape fault))) b
unread one b seed params file fault (inl is) =
    subst (λ (f : ShapeFault). SignsOnce b seed params file (Err (Unsigned (of_shape f))) b) (sym is) (inl refl, inr (refl, refl))
unread one b seed params file shapes.TooLong (inr h) = ((inl h, refl), inl (λ entries message f. absurd (ill file shapes.TooLong one h entries message f)))
unread one b seed params file shapes.NotCanonical (inr h) = ((h, refl), inl (λ entries message f. absurd (ill file shapes.NotCanonical one h entries message f)))
unread one b seed params file shapes.WrongShape (inr h) = ((inl h, refl), inl (λ entries message f. absurd (ill file shapes.WrongShape one h entries message f)))
unread one b seed params file shapes.WrongType (inr h) = absurd h
unread one b seed params file shapes.BadKeyId (inr h) = absurd h
unread one b seed params file shapes.OutOfMemory (inr h) = absurd h

-- no rival is kept of what is signed of the file
pub lacks_of : OneValue → (b : Book) (key file : List ℕ) (entries : List Signature) (message : List ℕ) → IsSignedBy file entries message → LacksRivals b key message → LacksRivalsOf b key file
lacks_of one b key file entries message f lacks = λ es m g. subst (LacksRivals b key) (one_message one file entries es message m f g) lacks
