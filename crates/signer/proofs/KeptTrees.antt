-- Trees below a top tree, by what a book keeps.
use Rattle.std.proofs.Common.{◌≡◌, ◌≢◌, ◌<◌, ℕ, List, Bool, true, false, MatchBool, MatchOption, Option, Some, None, take, drop, length, length-drop, take-append-drop, append_assoc, ◌++◌, inl, inr, refl, sym, ap, subst, ◌∙◌, arith}
use Rattle.std.proofs.lemmas.List.{drop-drop, take_at}
use Rattle.sqlite_rules.specs.Lists.{Has}
use Rattle.lms.specs.declared.Params.{Params}
use Rattle.lms.specs.Keys.{leaf_count}
use Rattle.lms.specs.Text.{IsHash, u32}
use Rattle.lms.specs.HssKeys.{HssPair}
use Rattle.leaf_plans.specs.Book.{Book, IsBook, IsLeastUnused, IsRegistered, Keeps, LeafRow, Signer}
use Rattle.leaf_plans.specs.Planning.{AreUsed, HasNoLeaf, IsNextLeaf}
use Rattle.signer.specs.Below.{HasLeafBelow, HasNoTreeFor, IsHeldBelow, IsKeyBelow, IsNever, IsOfParams, IsTreeFor, IsTreeOf, KeepsBelow, NamesParams, lms_key_of, top_of}
use Rattle.signer.specs.Levels.{IsLeafFor, key_by}
use Rattle.signer.proofs.LevelLeaves.{one_leaf_of}

abbrev pub entry : List ℕ → ℕ → List ℕ → LeafRow
entry key leaf message = record { key = key; leaf = leaf; message = message }

-- entries that are those of a book, of a key by another name
pub kept_as : (b : Book) (rows : List LeafRow) (id key : List ℕ) (leaf : ℕ) (message : List ℕ) → rows ≡ b.leaves → id ≡ key → Has rows (entry id leaf message) → Keeps b key leaf message
kept_as b rows id key leaf message all same h =
    subst (λ (k : List ℕ). Keeps b k leaf message) same (subst (λ (es : List LeafRow). Has es (entry id leaf message)) all h)

pub kept_in : (b : Book) (rows : List LeafRow) (id key : List ℕ) (leaf : ℕ) (message : List ℕ) → rows ≡ b.leaves → id ≡ key → Keeps b key leaf message → Has rows (entry id leaf message)
kept_in b rows id key leaf message all same h =
    subst (λ (es : List LeafRow). Has es (entry id leaf message)) (sym all) (subst (λ (k : List ℕ). Keeps b k leaf message) (sym same) h)

one_message : (b : Book) (key : List ℕ) (leaf : ℕ) (m n : List ℕ) → IsBook b → Keeps b key leaf m → Keeps b key leaf n → m ≡ n
one_message b key leaf m n right h k = ap (λ (e : LeafRow). e.message) (right.one_message (entry key leaf m) (entry key leaf n) h k refl refl)

module _ (b : Book) (right : IsBook b) (p : HssPair) (q : ℕ) where
  -- leaf q has one tree
  pub one_tree : (m n : List ℕ) → IsTreeOf b p q m → IsTreeOf b p q n → m ≡ n
  one_tree m n s t = one_message b (key_by (top_of p)) q m n right s.0 t.0

  -- what it is kept for is no key
  pub no_tree : (message : List ℕ) → Keeps b (key_by (top_of p)) q message → (IsKeyBelow p q message → ⊥) → (public : List ℕ) → IsTreeOf b p q public → ⊥
  no_tree message kept lacks public t = lacks (subst (IsKeyBelow p q) (one_message b (key_by (top_of p)) q public message right t.0 kept) t.1)

  -- the tree with this id
  abbrev IsAt : List ℕ → Type 0
  IsAt id = (public : List ℕ) × IsTreeOf b p q public × (id ≡ lms_key_of public)

  pub below_leaf : (rows : List LeafRow) (id message : List ℕ) (found : Option ℕ) → rows ≡ b.leaves → IsAt id
      → MatchOption found ((leaf : ℕ) → Has rows (entry id leaf message) → ⊥) (λ leaf. Has rows (entry id leaf message))
      → MatchOption found ((leaf : ℕ) → KeepsBelow b p message q leaf → ⊥) (λ leaf. KeepsBelow b p message q leaf)
  below_leaf rows id message None all (public, t, same) none = λ leaf k.
      none leaf (kept_in b rows id (lms_key_of k.0) leaf message all (same ∙ ap lms_key_of (one_tree public k.0 t k.1)) k.2)
  below_leaf rows id message (Some leaf) all (public, t, same) h = (public, t, kept_as b rows id (lms_key_of public) leaf message all same h)

  pub open_by : (id : List ℕ) (r : Bool) → IsAt id → MatchBool r (AreUsed b id → ⊥) (AreUsed b id) → MatchBool r (HasLeafBelow b p q) (HasLeafBelow b p q → ⊥)
  open_by id true (public, t, same) h = (public, t, λ used. h (subst (AreUsed b) (sym same) used))
  open_by id false (public, t, same) used = λ k. k.2 (subst (AreUsed b) (same ∙ ap lms_key_of (one_tree public k.0 t k.1)) used)

-- the next leaf of a key that is registered
pub next_is : (b : Book) (key : List ℕ) (params : Params) (found : Option ℕ) → IsBook b → IsRegistered b key params
    → MatchOption found (HasNoLeaf b key) (λ leaf. IsNextLeaf b key leaf)
    → MatchOption found (AreUsed b key) (λ leaf. (AreUsed b key → ⊥) × IsLeastUnused b key leaf)
next_is b key params None right is (inl lacks) = absurd (lacks params is)
next_is b key params None right is (inr used) = used
next_is b key params (Some leaf) right is ((held, registered, within), least) = (
  λ used.
      let same = ap (λ (s : Signer). s.params) (right.one_signer (record { key = key; params = held }) (record { key = key; params = used.0 }) registered used.1 refl) in
      let message = used.2 leaf (subst (λ (ps : Params). leaf < leaf_count ps) same within) in
      least.unused message.0 message.1,
  least,
)

-- the tree of a message, where none keeps it and none has a leaf left
pub tree_by : (b : Book) (p : HssPair) (message id : List ℕ) (found : Option ℕ) → id ≡ key_by (top_of p) → IsNever (IsHeldBelow b p message) → IsNever (HasLeafBelow b p)
    → MatchOption found (AreUsed b id) (λ leaf. (AreUsed b id → ⊥) × IsLeastUnused b id leaf)
    → MatchOption found (HasNoTreeFor b p message) (λ q. IsTreeFor b p message q)
tree_by b p message id None same never none used = (never, none, subst (AreUsed b) same used)
tree_by b p message id (Some q) same never none h =
    let there = subst (λ (k : List ℕ). (AreUsed b k → ⊥) × IsLeastUnused b k q) same h in
    inr (never, inr (none, there.0, there.1))

-- whether a leaf is the one for a message
pub leaf_is : (b : Book) (key message : List ℕ) (found leaf : ℕ) (r : Bool) → IsBook b → IsLeafFor b key message found → MatchBool r (found ≡ leaf) (found ≢ leaf)
    → MatchBool r (IsLeafFor b key message leaf) (IsLeafFor b key message leaf → ⊥)
leaf_is b key message found leaf true right is same = subst (IsLeafFor b key message) same is
leaf_is b key message found leaf false right is differ = λ other. differ (one_leaf_of b key message found leaf right is other)

-- the parameters that the message of a leaf names
pub named_at : (b : Book) → IsBook b → (top : List ℕ) (q : ℕ) (message : List ℕ) (found : Option Params) → Keeps b top q message
    → MatchOption found ((params : Params) → IsOfParams message params → ⊥) (λ params. IsOfParams message params)
    → MatchOption found ((params : Params) → NamesParams b top params q → ⊥) (λ params. NamesParams b top params q)
named_at b right top q message None kept none = λ params h. none params (subst (λ (m : List ℕ). IsOfParams m params) (one_message b top q h.0 message right h.1 kept) h.2)
named_at b right top q message (Some params) kept h = (message, kept, h)

-- ---- the bytes of a key below

abbrev spelled : ℕ → ℕ → List ℕ → List ℕ → List ℕ
spelled a b i root = u32 a ++ u32 b ++ i ++ root

spelled_is : (a b : ℕ) (i root : List ℕ) → spelled a b i root ≡ u32 a ++ (u32 b ++ (i ++ root))
spelled_is a b i root = simp append_assoc

middle : (a b : ℕ) (i root : List ℕ) → length i ≡ 16 → take 16 (drop 8 (spelled a b i root)) ≡ i
middle a b i root size = ap (λ (xs : List ℕ). take 16 (drop 8 xs)) (spelled_is a b i root) ∙ take_at i root 16 size

-- bytes that begin so are such a key
parts : (bytes i : List ℕ) (a b : ℕ) → take 4 bytes ≡ u32 a → take 4 (drop 4 bytes) ≡ u32 b → take 16 (drop 8 bytes) ≡ i → bytes ≡ spelled a b i (drop 24 bytes)
parts bytes i a b p q r =
    let last : i ++ drop 24 bytes ≡ drop 8 bytes =
    ap (λ (xs : List ℕ). xs ++ drop 24 bytes) (sym r) ∙ ap (λ (xs : List ℕ). take 16 (drop 8 bytes) ++ xs) (sym (drop-drop 16 8 bytes)) ∙ take-append-drop 16 (drop 8 bytes) in
    let more : u32 b ++ (i ++ drop 24 bytes) ≡ drop 4 bytes =
    ap (λ (xs : List ℕ). xs ++ (i ++ drop 24 bytes)) (sym q) ∙ ap (λ (xs : List ℕ). take 4 (drop 4 bytes) ++ xs) (last ∙ sym (drop-drop 4 4 bytes)) ∙ take-append-drop 4 (drop 4 bytes) in
    let all : u32 a ++ (u32 b ++ (i ++ drop 24 bytes)) ≡ bytes =
    ap (λ (xs : List ℕ). xs ++ (u32 b ++ (i ++ drop 24 bytes))) (sym p) ∙ ap (λ (xs : List ℕ). take 4 bytes ++ xs) more ∙ take-append-drop 4 bytes in
    sym (spelled_is a b i (drop 24 bytes) ∙ all)

pub key_is : (bytes i : List ℕ) (a b : ℕ) (r : Bool) → length bytes ≡ 56 → length i ≡ 16 → take 4 bytes ≡ u32 a → take 4 (drop 4 bytes) ≡ u32 b
    → MatchBool r (take 16 (drop 8 bytes) ≡ i) (take 16 (drop 8 bytes) ≢ i)
    → MatchBool r ((root : List ℕ) × IsHash root × (bytes ≡ u32 a ++ u32 b ++ i ++ root)) ((root : List ℕ) × IsHash root × (bytes ≡ u32 a ++ u32 b ++ i ++ root) → ⊥)
key_is bytes i a b true long size p q same =
    let d = length-drop 24 bytes in
    (drop 24 bytes, omega (arith, d, long), parts bytes i a b p q same)
key_is bytes i a b false long size p q differ = λ k. differ (ap (λ (xs : List ℕ). take 16 (drop 8 xs)) k.2 ∙ middle a b i k.0 size)
