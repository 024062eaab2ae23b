-- Rows of `blob` that are held until they are tested.
use Rattle.std.proofs.Common.{◌≡◌, ℕ, Bool, Vec, Global, List, [], ◌∷◌, ◌++◌, length, get_or, arith, refl, sym, ap, subst, ◌∙◌, append_assoc}
use Rattle.std.proofs.lemmas.List.{append-nil}
use Rattle.sha2.specs.Sha256.{sha256}
use Rattle.sqlite.specs.Order.{Row}
use Rattle.table_rows.specs.Tables.{IsDigest}
use Rattle.table_rows.specs.steps.Loading.{AreHeld, FitsLength, HasFiles, HaveCome, IsBlobRow, IsHeld, IsLengthRow}
use Rattle.table_rows.proofs.ItemLemmas.{blob_one}

-- the item of a row whose bytes have the digest that it names
pub right_item : (row : Row) (named bytes own : List ℕ) (len : ℕ) → IsBlobRow row (named, bytes) → IsDigest named → length bytes ≡ len → own ≡ sha256 bytes → own ≡ named
    → IsLengthRow row (named, len) × FitsLength (named, len)
right_item row named bytes own len reads fits long is same = ((bytes, reads, long, sym is ∙ same), fits)

-- a row whose bytes have another is that of none
pub no_item : (row : Row) (named bytes own : List ℕ) → IsBlobRow row (named, bytes) → IsDigest named → own ≡ sha256 bytes → (own ≡ named → ⊥)
    → (x : List ℕ × ℕ) → FitsLength x → IsLengthRow row x → ⊥
no_item row named bytes own reads fits is other x fx held =
    let one = blob_one row (x.0, held.0) (named, bytes) fx fits held.1 reads in
    other (is ∙ ap sha256 (sym (ap (λ (y : List ℕ × List ℕ). y.1) one)) ∙ held.3 ∙ ap (λ (y : List ℕ × List ℕ). y.0) one)

abbrev pub Held : Type 0
Held = List ℕ × Vec ℕ Global

-- one more row is held
pub held_more : (late : List Row) (held : List Held) (r : Row) (h : Held) → AreHeld late held → IsHeld r h → AreHeld (late ++ r ∷ []) (held ++ h ∷ [])
held_more [] [] r h are is = (is, tt)
held_more [] (g ∷ held) r h are is = absurd are
held_more (s ∷ late) [] r h are is = absurd are
held_more (s ∷ late) (g ∷ held) r h are is = (are.0, held_more late held r h are.1 is)

-- the rows of three that are held
three_late : (late : List Row) (a b c : Held) → AreHeld late (a ∷ b ∷ c ∷ []) → (p : Row) × (q : Row) × (r : Row) × (late ≡ p ∷ q ∷ r ∷ []) × IsHeld p a × IsHeld q b × IsHeld r c
three_late [] a b c are = absurd are
three_late (p ∷ []) a b c are = absurd are.1
three_late (p ∷ q ∷ []) a b c are = absurd are.1.1
three_late (p ∷ q ∷ r ∷ []) a b c are = (p, q, r, refl, are.0, are.1.0, are.1.1.0)
three_late (p ∷ q ∷ r ∷ s ∷ late) a b c are = absurd are.1.1.1

-- the first row that is held, and those behind it
pub first_late : (late : List Row) (h : Held) (held : List Held) → AreHeld late (h ∷ held) → (r : Row) × (left : List Row) × (late ≡ r ∷ left) × IsHeld r h × AreHeld left held
first_late [] h held are = absurd are
first_late (r ∷ late) h held are = (r, late, refl, are.0, are.1)

pub none_late : (late : List Row) → AreHeld late [] → late ≡ []
none_late [] are = refl
none_late (r ∷ late) are = absurd are

-- all rows were gathered
pub all_came : (rows : List Row) (items : List (List ℕ × ℕ)) (is_spoiled : Bool) (held : List Held) → HasFiles rows items is_spoiled → held ≡ [] → HaveCome rows items is_spoiled held
all_came rows items is_spoiled held files none = record { before = rows; late = []; all = sym (append-nil rows); files = files; are = subst (AreHeld []) (sym none) tt }

-- those that were held are gathered
pub settled : (rows : List Row) (items next : List (List ℕ × ℕ)) (was is_spoiled : Bool) (held : List Held)
    → ((before late : List Row) → AreHeld late held → HasFiles before items was → HasFiles (before ++ late) next is_spoiled)
    → HaveCome rows items was held → HasFiles rows next is_spoiled
settled rows items next was is_spoiled held took come = subst (λ rs. HasFiles rs next is_spoiled) (sym come.all) (took come.before come.late come.are come.files)

-- one more row is held
pub one_held : (rows : List Row) (items : List (List ℕ × ℕ)) (is_spoiled : Bool) (held next : List Held) (row : Row) (h : Held) → IsHeld row h → next ≡ held ++ h ∷ []
    → HaveCome rows items is_spoiled held → HaveCome (rows ++ row ∷ []) items is_spoiled next
one_held rows items is_spoiled held next row h is e come = record {
  before = come.before;
  late = come.late ++ row ∷ [];
  all = ap (λ rs. rs ++ row ∷ []) come.all ∙ append_assoc come.before come.late (row ∷ []);
  files = come.files;
  are = subst (AreHeld (come.late ++ row ∷ [])) (sym e) (held_more come.late held row h come.are is);
}

-- a list of three by its elements
pub three_of : {A : Type 0} → (xs : List A) (a b c : A) → length xs ≡ 3 → a ≡ get_or xs 0 a → b ≡ get_or xs 1 b → c ≡ get_or xs 2 c → xs ≡ a ∷ b ∷ c ∷ []
three_of [] a b c len ea eb ec = absurd (omega arith)
three_of (x ∷ []) a b c len ea eb ec = absurd (omega arith)
three_of (x ∷ y ∷ []) a b c len ea eb ec = absurd (omega arith)
three_of (x ∷ y ∷ z ∷ []) a b c len ea eb ec = λ i. sym ea i ∷ sym eb i ∷ sym ec i ∷ []
three_of (x ∷ y ∷ z ∷ w ∷ xs) a b c len ea eb ec = absurd (omega arith)

-- three rows that were held are gathered with a fourth
pub four_came : (rows : List Row) (items next : List (List ℕ × ℕ)) (was is_spoiled : Bool) (held : List Held) (a b c : Held) (row : Row) → held ≡ a ∷ b ∷ c ∷ []
    → ((before : List Row) (p q r : Row) → IsHeld p a → IsHeld q b → IsHeld r c → HasFiles before items was → HasFiles (before ++ p ∷ q ∷ r ∷ row ∷ []) next is_spoiled)
    → HaveCome rows items was held → HasFiles (rows ++ row ∷ []) next is_spoiled
four_came rows items next was is_spoiled held a b c row e took come =
    let it = three_late come.late a b c (subst (AreHeld come.late) e come.are) in
    let all : rows ++ row ∷ [] ≡ come.before ++ it.0 ∷ it.1 ∷ it.2 ∷ row ∷ []
    = ap (λ rs. rs ++ row ∷ []) (come.all ∙ ap (λ rs. come.before ++ rs) it.3) ∙ append_assoc come.before (it.0 ∷ it.1 ∷ it.2 ∷ []) (row ∷ []) in
    subst (λ rs. HasFiles rs next is_spoiled) (sym all) (took come.before it.0 it.1 it.2 it.4 it.5 it.6 come.files)

-- four rows, one behind the other
pub four_rows : (rows : List Row) (p q r s : Row) → (((rows ++ p ∷ []) ++ q ∷ []) ++ r ∷ []) ++ s ∷ [] ≡ rows ++ p ∷ q ∷ r ∷ s ∷ []
four_rows rows p q r s = append_assoc ((rows ++ p ∷ []) ++ q ∷ []) (r ∷ []) (s ∷ []) ∙ append_assoc (rows ++ p ∷ []) (q ∷ []) (r ∷ s ∷ []) ∙ append_assoc rows (p ∷ []) (q ∷ r ∷ s ∷ [])

-- a row that is held, by the bytes of its slice
pub held_by : (r : Row) (h : Held) (bytes : List ℕ) → bytes ≡ h.1.items → IsHeld r h → IsBlobRow r (h.0, bytes)
held_by r h bytes e is = subst (λ b. IsBlobRow r (h.0, b)) (sym e) is.0

-- some of the rows that were held were gathered behind others
abbrev pub HaveMoved : List Row → List Row → List (List ℕ × ℕ) → Bool → List Held → Type 0
HaveMoved rows late items is_spoiled rest = (done : List Row) × (left : List Row) × (late ≡ done ++ left) × AreHeld left rest × HasFiles (rows ++ done) items is_spoiled

pub none_moved : (rows late : List Row) (items : List (List ℕ × ℕ)) (is_spoiled : Bool) (held : List Held) → AreHeld late held → HasFiles rows items is_spoiled → HaveMoved rows late items is_spoiled held
none_moved rows late items is_spoiled held are files = ([], late, refl, are, subst (λ rs. HasFiles rs items is_spoiled) (sym (append-nil rows)) files)

pub one_moved : (rows late : List Row) (items next : List (List ℕ × ℕ)) (was is_spoiled : Bool) (rest later : List Held) (h : Held) → rest ≡ h ∷ later
    → ((before : List Row) (r : Row) → IsHeld r h → HasFiles before items was → HasFiles (before ++ r ∷ []) next is_spoiled)
    → HaveMoved rows late items was rest → HaveMoved rows late next is_spoiled later
one_moved rows late items next was is_spoiled rest later h e took moved =
    let f = first_late moved.1 h later (subst (AreHeld moved.1) e moved.3) in (
      moved.0 ++ f.0 ∷ [],
      f.1,
      moved.2 ∙ ap (λ rs. moved.0 ++ rs) f.2 ∙ sym (append_assoc moved.0 (f.0 ∷ []) f.1),
      f.4,
      subst (λ rs. HasFiles rs next is_spoiled) (append_assoc rows moved.0 (f.0 ∷ [])) (took (rows ++ moved.0) f.0 f.3 moved.4),
    )

empty : {A : Type 0} → (xs : List A) → length xs ≡ 0 → xs ≡ []
empty [] len = refl
empty (x ∷ xs) len = absurd (omega arith)

pub all_moved : (rows late : List Row) (items : List (List ℕ × ℕ)) (is_spoiled : Bool) (rest : List Held) → length rest ≡ 0 → HaveMoved rows late items is_spoiled rest → HasFiles (rows ++ late) items is_spoiled
all_moved rows late items is_spoiled rest none moved =
    let left = none_late moved.1 (subst (AreHeld moved.1) (empty rest none) moved.3) in
    subst (λ rs. HasFiles (rows ++ rs) items is_spoiled) (sym (moved.2 ∙ ap (λ rs. moved.0 ++ rs) left ∙ append-nil moved.0)) moved.4
