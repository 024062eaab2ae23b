-- Which tree below a top tree signs a message, by what a book keeps (RFC 8554, section 6.2). Each leaf of the top tree is kept for the public
-- key of one tree below it, and that tree is a key of the same book, with leaves of its own.
use Rattle.std.specs.Prelude.{◌≡◌, ◌⊎◌, ◌<◌, ℕ, List, length}
use Rattle.lms.specs.declared.Params.{Params}
use Rattle.lms.specs.Keys.{Pair, pair}
use Rattle.lms.specs.HssKeys.{HssPair, child_of, hss_public_of}
use Rattle.lms.specs.Parameters.{signing_type}
use Rattle.lms.specs.Text.{HasTypes, IsHash, public_text}
use Rattle.keys_roles.specs.Keys.{id_of}
use Rattle.keys_roles.specs.Plain.{Signature, hss, lms}
use Rattle.metadata.specs.Shape.{IsSignedBy}
use Rattle.leaf_plans.specs.Book.{Book, IsLeastUnused, Keeps}
use Rattle.leaf_plans.specs.Planning.{AreUsed}
use Rattle.signer.specs.Levels.{key_by}
use Rattle.signer.specs.Versions.{IsRivalLeaf}

-- the top tree of a pair of two levels, and the tree that leaf q of it signs
abbrev pub top_of : HssPair → Pair
top_of p = pair p.seed p.levels.top

abbrev pub below_of : HssPair → ℕ → Pair
below_of p q = pair (child_of p.seed q) p.levels.bottom

-- the id of its key, and that of the LMS key of these bytes
abbrev pub hss_key_of : HssPair → List ℕ
hss_key_of p = id_of (hss (hss_public_of p.seed p.levels))

abbrev pub lms_key_of : List ℕ → List ℕ
lms_key_of public = id_of (lms public)

-- ---- the trees that a book has

-- A public key of the types and with the I of the tree below leaf q: its root aside, which is told by no less than all leaves of the tree.
-- Any other message is no key of that tree.
abbrev pub IsKeyBelow : HssPair → ℕ → List ℕ → Type 0
IsKeyBelow p q public =
    (root : List ℕ) × IsHash root × (public ≡ public_text (signing_type p.levels.bottom.height) p.levels.bottom.ots (child_of p.seed q).identifier root)

-- leaf q of the top tree is kept for such a key
abbrev pub IsTreeOf : Book → HssPair → ℕ → List ℕ → Type 0
IsTreeOf b p q public = Keeps b (key_by (top_of p)) q public × IsKeyBelow p q public

-- the tree below leaf q keeps the message with this leaf
abbrev pub KeepsBelow : Book → HssPair → List ℕ → ℕ → ℕ → Type 0
KeepsBelow b p message q leaf = (public : List ℕ) × IsTreeOf b p q public × Keeps b (lms_key_of public) leaf message

abbrev pub IsHeldBelow : Book → HssPair → List ℕ → ℕ → Type 0
IsHeldBelow b p message q = (leaf : ℕ) × KeepsBelow b p message q leaf

-- the tree below leaf q has a leaf left
abbrev pub HasLeafBelow : Book → HssPair → ℕ → Type 0
HasLeafBelow b p q = (public : List ℕ) × IsTreeOf b p q public × (AreUsed b (lms_key_of public) → ⊥)

-- the bytes have the length of an LMS public key and begin with the types of these parameters, and leaf q of a key is kept for such bytes
abbrev pub IsOfParams : List ℕ → Params → Type 0
IsOfParams public params = (length public ≡ 56) × HasTypes public (signing_type params.height) params.ots

abbrev pub NamesParams : Book → List ℕ → Params → ℕ → Type 0
NamesParams b top params q = (public : List ℕ) × Keeps b top q public × IsOfParams public params

-- ---- the tree that a message gets

-- the least number that is so
abbrev pub IsFirst : (ℕ → Type 0) → ℕ → Type 0
IsFirst P q = P q × ((n : ℕ) → n < q → P n → ⊥)

-- no number is so
abbrev pub IsNever : (ℕ → Type 0) → Type 0
IsNever P = (n : ℕ) → P n → ⊥

-- The first tree that keeps the message; where none does, the first that has a leaf left; where none has, a new one, below the least leaf of
-- the top tree that is not used.
abbrev pub IsTreeFor : Book → HssPair → List ℕ → ℕ → Type 0
IsTreeFor b p message q =
    IsFirst (IsHeldBelow b p message) q
    ⊎ (IsNever (IsHeldBelow b p message)
    × (IsFirst (HasLeafBelow b p) q
    ⊎ (IsNever (HasLeafBelow b p) × (AreUsed b (key_by (top_of p)) → ⊥) × IsLeastUnused b (key_by (top_of p)) q)))

-- no tree keeps the message, none has a leaf left, and all leaves of the top tree are used
abbrev pub HasNoTreeFor : Book → HssPair → List ℕ → Type 0
HasNoTreeFor b p message = IsNever (IsHeldBelow b p message) × IsNever (HasLeafBelow b p) × AreUsed b (key_by (top_of p))

-- ---- rivals in any tree

-- The key is that of the top tree, or of a tree that one of its leaves is kept for. It is asked of the length alone which message is a key, so
-- that no tree is left out.
abbrev pub IsUnder : Book → List ℕ → List ℕ → Type 0
IsUnder b top key = (key ≡ top) ⊎ ((q : ℕ) × (public : List ℕ) × Keeps b top q public × (length public ≡ 56) × (key ≡ lms_key_of public))

-- this leaf of such a key is kept for a rival of the message
abbrev pub IsRivalBelow : Book → List ℕ → List ℕ → ℕ → Type 0
IsRivalBelow b top message leaf = (key : List ℕ) × IsUnder b top key × IsRivalLeaf b.leaves key message leaf

-- none is, of what is signed of a file
abbrev pub LacksRivalsBelow : Book → List ℕ → List ℕ → Type 0
LacksRivalsBelow b top file = (entries : List Signature) (message : List ℕ) → IsSignedBy file entries message → (leaf : ℕ) → IsRivalBelow b top message leaf → ⊥
