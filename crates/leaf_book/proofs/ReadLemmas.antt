-- What rows say of a book.
use Rattle.std.proofs.Common.{◌≡◌, ◌≢◌, ◌⊎◌, ◌<◌, ◌≤◌, ◌^◌, ◌+◌, ℕ, pos, inl, inr, List, [], ◌∷◌, ◌++◌, take, drop, refl, sym, ap, subst, ◌∙◌, arith}
use Rattle.std.proofs.lemmas.Bool.{cases_eq}
use Rattle.std.proofs.lemmas.List.{take-append-drop}
use Rattle.sqlite.specs.declared.types.Value.{Value}
use Rattle.sqlite.specs.declared.types.Value.TheVariants.{Int, Text, Blob}
use Rattle.sqlite.specs.Order.{Row}
use Rattle.sqlite_rules.specs.Lists.{Has}
use Rattle.sqlite_rules.proofs.ListLemmas.{has_left, has_right, has_either}
use Rattle.lms.specs.declared.OtsType.{OtsType}
use Rattle.lms.specs.declared.OtsType.TheVariants.{W1, W2, W4, W8}
use Rattle.lms.specs.declared.SigningHeight.{SigningHeight}
use Rattle.lms.specs.declared.SigningHeight.TheVariants as signing
use Rattle.lms.specs.declared.Params.{Params}
use Rattle.lms.specs.Parameters.{height, ots_code, signing_type}
use Rattle.lms.specs.Keys.{leaf_count}
use Rattle.leaf_book.specs.declared.reading.Place.TheVariants.{New}
use Rattle.leaf_plans.specs.Book.{Book, IsBook, IsKeyId, LeafRow, Signer}
use Rattle.leaf_book.specs.Rows.{AreRowsOf, IsLeafFrom, IsSignerFrom}
use Rattle.leaf_book.specs.steps.Loading.{AreLeaves, AreSigners, Clashes, IsAddedLeaf, IsAddedSigner, IsPlace}

-- ---- a row stands for one value at most

ots_one : (a b : OtsType) → ots_code a ≡ ots_code b → a ≡ b
ots_one W1 W1 e = refl
ots_one W1 W2 e = absurd (omega (arith, e))
ots_one W1 W4 e = absurd (omega (arith, e))
ots_one W1 W8 e = absurd (omega (arith, e))
ots_one W2 W1 e = absurd (omega (arith, e))
ots_one W2 W2 e = refl
ots_one W2 W4 e = absurd (omega (arith, e))
ots_one W2 W8 e = absurd (omega (arith, e))
ots_one W4 W1 e = absurd (omega (arith, e))
ots_one W4 W2 e = absurd (omega (arith, e))
ots_one W4 W4 e = refl
ots_one W4 W8 e = absurd (omega (arith, e))
ots_one W8 W1 e = absurd (omega (arith, e))
ots_one W8 W2 e = absurd (omega (arith, e))
ots_one W8 W4 e = absurd (omega (arith, e))
ots_one W8 W8 e = refl

height_one : (a b : SigningHeight) → height (signing_type a) ≡ height (signing_type b) → a ≡ b
height_one signing.H5 signing.H5 e = refl
height_one signing.H5 signing.H10 e = absurd (omega (arith, e))
height_one signing.H10 signing.H5 e = absurd (omega (arith, e))
height_one signing.H10 signing.H10 e = refl

params_one : (p q : Params) → ots_code p.ots ≡ ots_code q.ots → height (signing_type p.height) ≡ height (signing_type q.height) → p ≡ q
params_one p q a b = ap (λ o. record { ots = o; height = p.height }) (ots_one p.ots q.ots a) ∙ ap (λ h. record { ots = q.ots; height = h }) (height_one p.height q.height b)

-- parameters are the same or not
ots_decided : (a b : OtsType) → (a ≡ b) ⊎ (a ≢ b)
ots_decided a b = elim (cases_eq (ots_code a) (ots_code b)) [ inl same ↦ inl (ots_one a b same) | inr differs ↦ inr (λ is. differs (ap ots_code is)) ]

height_decided : (a b : SigningHeight) → (a ≡ b) ⊎ (a ≢ b)
height_decided a b =
    elim (cases_eq (height (signing_type a)) (height (signing_type b))) [ inl same ↦ inl (height_one a b same) | inr differs ↦ inr (λ is. differs (ap (λ h. height (signing_type h)) is)) ]

pub same_or_not : (p q : Params) → (p ≡ q) ⊎ (p ≢ q)
same_or_not p q = elim (ots_decided p.ots q.ots) [
  | inl ots ↦ elim (height_decided p.height q.height) [
    | inl high ↦ inl (params_one p q (ap ots_code ots) (ap (λ h. height (signing_type h)) high))
    | inr differs ↦ inr (λ is. differs (ap (λ (r : Params). r.height) is))
  ]
  | inr differs ↦ inr (λ is. differs (ap (λ (r : Params). r.ots) is))
]

same_text : (a b : List ℕ) → ◌≡◌ {A = Value} (Text a) (Text b) → a ≡ b
same_text a b e = cc

same_number : (a b : ℕ) → ◌≡◌ {A = Value} (Int (pos a)) (Int (pos b)) → a ≡ b
same_number a b e = cc

same_blob : (a b : List ℕ) → ◌≡◌ {A = Value} (Blob a) (Blob b) → a ≡ b
same_blob a b e = cc

pub signer_is : (n : ℕ) (x : Row) (s t : Signer) → IsSignerFrom n x s → IsSignerFrom n x t → s ≡ t
signer_is n x s t a b =
    let key : s.key ≡ t.key = same_text s.key t.key (sym a.0 ∙ b.0) in
    let params : s.params ≡ t.params = params_one s.params t.params (same_number _ _ (sym a.1 ∙ b.1)) (same_number _ _ (sym a.2 ∙ b.2)) in
    ap (λ k. record { key = k; params = s.params }) key ∙ ap (λ p. record { key = t.key; params = p }) params

pub leaf_is : (n : ℕ) (x : Row) (e f : LeafRow) → IsLeafFrom n x e → IsLeafFrom n x f → e ≡ f
leaf_is n x e f a b =
    let key : e.key ≡ f.key = same_text e.key f.key (sym a.0 ∙ b.0) in
    let leaf : e.leaf ≡ f.leaf = same_number _ _ (sym a.1 ∙ b.1) in
    let message : e.message ≡ f.message = same_blob _ _ (sym a.2 ∙ b.2) in
    ap (λ k. record { key = k; leaf = e.leaf; message = e.message }) key ∙ ap (λ l. record { key = f.key; leaf = l; message = e.message }) leaf ∙ ap (λ m. record { key = f.key; leaf = f.leaf; message = m }) message

-- ---- one row after another

pub row_in : (rows done : List Row) (row : Row) (at : ℕ) → take (at + 1) rows ≡ done ++ row ∷ [] → Has rows row
row_in rows done row at more =
    let split : (done ++ row ∷ []) ++ drop (at + 1) rows ≡ rows = ap (λ d. d ++ drop (at + 1) rows) (sym more) ∙ take-append-drop (at + 1) rows in
    subst (λ rs. Has rs row) split (has_left _ _ row (has_right done _ row (inl refl)))

pub row_before : (rows done : List Row) (row x : Row) (at : ℕ) → take (at + 1) rows ≡ done ++ row ∷ [] → Has done x → Has rows x
row_before rows done row x at more h =
    let split : (done ++ row ∷ []) ++ drop (at + 1) rows ≡ rows = ap (λ d. d ++ drop (at + 1) rows) (sym more) ∙ take-append-drop (at + 1) rows in
    subst (λ rs. Has rs x) split (has_left _ _ x (has_left done _ x h))

module _ {V : Type 0} (IsRow : Row → V → Type 0) where
  pub no_rows_of : AreRowsOf IsRow [] []
  no_rows_of = record { each = λ x none. absurd none; all = λ v none. absurd none }

  pub rows_more : (rows : List Row) (vs : List V) (x : Row) (v : V) → AreRowsOf IsRow rows vs → IsRow x v → AreRowsOf IsRow (rows ++ x ∷ []) (vs ++ v ∷ [])
  rows_more rows vs x v are is = record {
    each = λ y h. elim (has_either rows (x ∷ []) y h) [
      | inl was ↦ let it = are.each y was in (it.0, has_left vs _ it.0 it.1, it.2)
      | inr (inl here) ↦ (v, has_right vs _ v (inl refl), subst (λ z. IsRow z v) (sym here) is)
      | inr (inr none) ↦ absurd none
    ];
    all = λ w h. elim (has_either vs (v ∷ []) w h) [
      | inl was ↦ let it = are.all w was in (it.0, has_left rows _ it.0 it.1, it.2)
      | inr (inl here) ↦ (x, has_right rows _ x (inl refl), subst (IsRow x) (sym here) is)
      | inr (inr none) ↦ absurd none
    ];
  }

  pub rows_again : (rows : List Row) (vs : List V) (x : Row) (v : V) → AreRowsOf IsRow rows vs → IsRow x v → Has vs v → AreRowsOf IsRow (rows ++ x ∷ []) vs
  rows_again rows vs x v are is has = record {
    each = λ y h. elim (has_either rows (x ∷ []) y h) [
      | inl was ↦ are.each y was
      | inr (inl here) ↦ (v, has, subst (λ z. IsRow z v) (sym here) is)
      | inr (inr none) ↦ absurd none
    ];
    all = λ w h. let it = are.all w h in (it.0, has_left rows _ it.0 it.1, it.2);
  }

  -- what was read of some of the rows is among the values of them all
  pub among : ((x : Row) (v w : V) → IsRow x v → IsRow x w → v ≡ w) → (rows done : List Row) (vs read : List V) → AreRowsOf IsRow rows vs → AreRowsOf IsRow done read → ((x : Row) → Has done x → Has rows x)
      → (v : V) → Has read v → Has vs v
  among one rows done vs read are were within v h =
      let it = were.all v h in
      let same = are.each it.0 (within it.0 it.1) in
      subst (Has vs) (one it.0 same.0 v same.2 it.2) same.1

-- ---- signers

pub no_signers : AreSigners []
no_signers = record { ids = λ s none. absurd none; one = λ s t none. absurd none }

pub signers_more : (ss : List Signer) (s : Signer) → AreSigners ss → IsKeyId s.key → ((t : Signer) → Has ss t → t.key ≡ s.key → ⊥) → AreSigners (ss ++ s ∷ [])
signers_more ss s are id new = record {
  ids = λ t h. elim (has_either ss (s ∷ []) t h) [ inl was ↦ are.ids t was | inr (inl here) ↦ subst (λ (u : Signer). IsKeyId u.key) (sym here) id | inr (inr none) ↦ absurd none ];
  one = λ t u h k same. elim (has_either ss (s ∷ []) t h) [
    | inl was ↦ elim (has_either ss (s ∷ []) u k) [
      | inl too ↦ are.one t u was too same
      | inr (inl here) ↦ absurd (new t was (same ∙ ap (λ (v : Signer). v.key) here))
      | inr (inr none) ↦ absurd none
    ]
    | inr (inl here) ↦ elim (has_either ss (s ∷ []) u k) [
      | inl too ↦ absurd (new u too (sym same ∙ ap (λ (v : Signer). v.key) here))
      | inr (inl there) ↦ here ∙ sym there
      | inr (inr none) ↦ absurd none
    ]
    | inr (inr none) ↦ absurd none
  ];
}

pub signer_read : (rows : List Row) (row : Row) (s : Signer) (was now : List Signer) → AreRowsOf (IsSignerFrom 0) rows was × AreSigners was → IsSignerFrom 0 row s → IsKeyId s.key → IsAddedSigner was s now
    → AreRowsOf (IsSignerFrom 0) (rows ++ row ∷ []) now × AreSigners now
signer_read rows row s was now are is id (inl same) = (
  subst (AreRowsOf (IsSignerFrom 0) (rows ++ row ∷ [])) (sym same.1) (rows_again (IsSignerFrom 0) rows was row s are.0 is same.0),
  subst AreSigners (sym same.1) are.1,
)
signer_read rows row s was now are is id (inr new) = (
  subst (AreRowsOf (IsSignerFrom 0) (rows ++ row ∷ [])) (sym new.1) (rows_more (IsSignerFrom 0) rows was row s are.0 is),
  subst AreSigners (sym new.1) (signers_more was s are.1 id new.0),
)

-- ---- leaves

pub no_leaves : (ss : List Signer) → AreLeaves ss []
no_leaves ss = record { known = λ e none. absurd none; one_message = λ e f none. absurd none; one_leaf = λ e f none. absurd none }

pub leaves_more : (ss : List Signer) (es : List LeafRow) (e : LeafRow) → AreLeaves ss es → ((params : Params) × Has ss (record { key = e.key; params = params }) × (e.leaf < leaf_count params)) → IsPlace es e New → AreLeaves ss (es ++ e ∷ [])
leaves_more ss es e are known new = record {
  known = λ f h. elim (has_either es (e ∷ []) f h) [
    | inl was ↦ are.known f was
    | inr (inl here) ↦ subst (λ (g : LeafRow). (params : Params) × Has ss (record { key = g.key; params = params }) × (g.leaf < leaf_count params)) (sym here) known
    | inr (inr none) ↦ absurd none
  ];
  one_message = λ f g h k key leaf. elim (has_either es (e ∷ []) f h) [
    | inl was ↦ elim (has_either es (e ∷ []) g k) [
      | inl too ↦ are.one_message f g was too key leaf
      | inr (inl here) ↦ absurd ((new f was (key ∙ ap (λ (v : LeafRow). v.key) here)).0 (leaf ∙ ap (λ (v : LeafRow). v.leaf) here))
      | inr (inr none) ↦ absurd none
    ]
    | inr (inl here) ↦ elim (has_either es (e ∷ []) g k) [
      | inl too ↦ absurd ((new g too (sym key ∙ ap (λ (v : LeafRow). v.key) here)).0 (sym leaf ∙ ap (λ (v : LeafRow). v.leaf) here))
      | inr (inl there) ↦ here ∙ sym there
      | inr (inr none) ↦ absurd none
    ]
    | inr (inr none) ↦ absurd none
  ];
  one_leaf = λ f g h k key message. elim (has_either es (e ∷ []) f h) [
    | inl was ↦ elim (has_either es (e ∷ []) g k) [
      | inl too ↦ are.one_leaf f g was too key message
      | inr (inl here) ↦ absurd ((new f was (key ∙ ap (λ (v : LeafRow). v.key) here)).1 (message ∙ ap (λ (v : LeafRow). v.message) here))
      | inr (inr none) ↦ absurd none
    ]
    | inr (inl here) ↦ elim (has_either es (e ∷ []) g k) [
      | inl too ↦ absurd ((new g too (sym key ∙ ap (λ (v : LeafRow). v.key) here)).1 (sym message ∙ ap (λ (v : LeafRow). v.message) here))
      | inr (inl there) ↦ here ∙ sym there
      | inr (inr none) ↦ absurd none
    ]
    | inr (inr none) ↦ absurd none
  ];
}

pub leaf_read : (ss : List Signer) (rows : List Row) (row : Row) (e : LeafRow) (was now : List LeafRow) → AreRowsOf (IsLeafFrom 0) rows was × AreLeaves ss was → IsLeafFrom 0 row e
    → ((params : Params) × Has ss (record { key = e.key; params = params }) × (e.leaf < leaf_count params)) → IsAddedLeaf was e now → AreRowsOf (IsLeafFrom 0) (rows ++ row ∷ []) now × AreLeaves ss now
leaf_read ss rows row e was now are is known (inl same) = (
  subst (AreRowsOf (IsLeafFrom 0) (rows ++ row ∷ [])) (sym same.1) (rows_again (IsLeafFrom 0) rows was row e are.0 is same.0),
  subst (AreLeaves ss) (sym same.1) are.1,
)
leaf_read ss rows row e was now are is known (inr new) = (
  subst (AreRowsOf (IsLeafFrom 0) (rows ++ row ∷ [])) (sym new.1) (rows_more (IsLeafFrom 0) rows was row e are.0 is),
  subst (AreLeaves ss) (sym new.1) (leaves_more ss was e are.1 known new.0),
)

few_leaves : (h : SigningHeight) → 2 ^ height (signing_type h) ≤ 1024
few_leaves signing.H5 = omega arith
few_leaves signing.H10 = omega arith

-- no row of a book in order is one that is not read
pub leaf_fits : (b : Book) (e : LeafRow) → IsBook b → Has b.leaves e → IsKeyId e.key × (e.leaf < 2 ^ 32)
leaf_fits b e is h =
    let known = is.known e h in
    (is.ids (record { key = e.key; params = known.0 }) known.1, omega (arith, known.2, few_leaves known.0.height))

-- no book in order has two entries that clash
pub no_clash : (b : Book) (e f : LeafRow) → IsBook b → Has b.leaves f → Has b.leaves e → Clashes f e → ⊥
no_clash b e f is there here (key, inl clash) = clash.1 (ap (λ (g : LeafRow). g.message) (is.one_message f e there here key clash.0))
no_clash b e f is there here (key, inr clash) = clash.0 (ap (λ (g : LeafRow). g.leaf) (is.one_leaf f e there here key clash.1))
