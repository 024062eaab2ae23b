-- The leaf that a signature begins with, and what two signatures make.
use Rattle.std.proofs.Common.{◌≡◌, ◌≢◌, ◌⊎◌, ◌<◌, ◌≤◌, ◌^◌, ◌++◌, ℕ, List, Ok, take, length, length-take, inl, inr, refl, sym, ap, subst, ◌∙◌, arith}
use Rattle.std.specs.Int.{w32, from_be_bytes}
use Rattle.std.proofs.lemmas.Bool.{cases_order}
use Rattle.std.proofs.lemmas.Nat.{from_be_bytes-to_be_bytes_4}
use Rattle.lms.specs.declared.Params.{Params}
use Rattle.lms.specs.declared.SigningHeight.{SigningHeight}
use Rattle.lms.specs.declared.SigningHeight.TheVariants as signing
use Rattle.lms.specs.declared.Seed.{Seed}
use Rattle.lms.specs.Parameters.{height, signing_type}
use Rattle.lms.specs.Text.{u32}
use Rattle.lms.specs.Verifies.{Verifies}
use Rattle.lms.specs.Hss.{VerifiesHss}
use Rattle.sqlite_rules.specs.Lists.{Has}
use Rattle.leaf_plans.specs.Book.{Book, IsBook, IsLeastUnused, Keeps, LacksMessage, LeafRow, key_of}
use Rattle.leaf_book.specs.Calls.{Registers, Reserved, Reserves}
use Rattle.signer.specs.Levels.{IsLeafFor}
use Rattle.signer.specs.Messages.{Signs}

few_leaves : (h : SigningHeight) → 2 ^ height (signing_type h) ≤ 1024
few_leaves signing.H5 = omega arith
few_leaves signing.H10 = omega arith

word_one : (m n : ℕ) → m < 2 ^ 32 → n < 2 ^ 32 → u32 m ≡ u32 n → m ≡ n
word_one m n p q e = sym (from_be_bytes-to_be_bytes_4 m p) ∙ ap (from_be_bytes w32) e ∙ from_be_bytes-to_be_bytes_4 n q

pub by_its_leaf : (b c : Book) (seed : Seed) (params : Params) (message signature : List ℕ) (q : ℕ) → q < 2 ^ 32
    → (s : Signs b seed params message signature c) → take 4 signature ≡ u32 q → s.leaf.leaf ≡ q
by_its_leaf b c seed params message signature q fits s e =
    let within = s.reserves.3 in
    let few = few_leaves s.leaf.params.height in
    let begins : u32 s.leaf.leaf ≡ take 4 signature = ap (take 4) (sym s.signs) in
    word_one s.leaf.leaf q (omega (arith, within, few)) fits (begins ∙ e)

-- and where it begins with another leaf
pub by_another : (b c : Book) (seed : Seed) (params : Params) (message signature : List ℕ) (q : ℕ)
    → (s : Signs b seed params message signature c) → take 4 signature ≢ u32 q → s.leaf.leaf ≢ q
by_another b c seed params message signature q s differ same =
    let begins : take 4 signature ≡ u32 s.leaf.leaf = ap (take 4) s.signs in
    differ (begins ∙ ap u32 same)

pub too_short : (signature : List ℕ) (q : ℕ) → length signature < 4 → take 4 signature ≢ u32 q
too_short signature q short e =
    let a = length-take 4 signature in
    let b : length (take 4 signature) ≡ 4 = ap length e in
    omega (arith, a, b, short)

-- ---- the leaf that the top tree's key gets for the key below

abbrev entry : List ℕ → ℕ → List ℕ → LeafRow
entry key leaf message = record { key = key; leaf = leaf; message = message }

-- a registration keeps the leaf history
registers_leaves : (b c : Book) (seed : Seed) (params : Params) (key : List ℕ) → Registers b seed params (Ok key) c → c.leaves ≡ b.leaves
registers_leaves b c seed params key (same, lacks, inl held) = ap (λ (x : Book). x.leaves) held.1
registers_leaves b c seed params key (same, lacks, inr new) = ap (λ (x : Book). x.leaves) new.1

one_least : (b : Book) (key : List ℕ) (k l : ℕ) → IsLeastUnused b key k → IsLeastUnused b key l → k ≡ l
one_least b key k l p q = elim (cases_order k l) [
  | inl same ↦ same
  | inr (inl less) ↦ let used = q.least k less in absurd (p.unused used.0 used.1)
  | inr (inr more) ↦ let used = p.least l more in absurd (q.unused used.0 used.1)
]

-- the same, without asking whether the tree has a leaf left
abbrev IsSomeLeafFor : Book → List ℕ → List ℕ → ℕ → Type 0
IsSomeLeafFor b key message leaf = Keeps b key leaf message ⊎ (LacksMessage b key message × IsLeastUnused b key leaf)

some_leaf : (b : Book) (key message : List ℕ) (leaf : ℕ) → IsLeafFor b key message leaf → IsSomeLeafFor b key message leaf
some_leaf b key message leaf (inl held) = inl held
some_leaf b key message leaf (inr new) = inr (new.0, new.2)

one_leaf_for : (b : Book) (key message : List ℕ) (k l : ℕ) → IsBook b → IsSomeLeafFor b key message k → IsSomeLeafFor b key message l → k ≡ l
one_leaf_for b key message k l right (inl held) (inl too) = ap (λ (e : LeafRow). e.leaf) (right.one_leaf (entry key k message) (entry key l message) held too refl refl)
one_leaf_for b key message k l right (inl held) (inr new) = absurd (new.0 k held)
one_leaf_for b key message k l right (inr new) (inl held) = absurd (new.0 l held)
one_leaf_for b key message k l right (inr new) (inr too) = one_least b key k l new.1 too.1

-- what a reservation answers is such a leaf, of the book before the registration too
leaf_reserved : (b c d : Book) (key message : List ℕ) (r : Reserved) → c.leaves ≡ b.leaves → Reserves c key message (Ok r) d → IsSomeLeafFor b key message r.leaf
leaf_reserved b c d key message r same (k, m, registered, below, inl held) = inl (subst (λ (es : List LeafRow). Has es (entry key r.leaf message)) same held.0)
leaf_reserved b c d key message r same (k, m, registered, below, inr new) =
    inr (
      λ leaf has. new.0 leaf (subst (λ (es : List LeafRow). Has es (entry key leaf message)) (sym same) has),
      record {
        unused = λ other has. new.1.unused other (subst (λ (es : List LeafRow). Has es (entry key r.leaf other)) (sym same) has);
        least = λ n less. let used = new.1.least n less in (used.0, subst (λ (es : List LeafRow). Has es (entry key n used.0)) same used.1);
      },
    )

pub right_leaf : (b c : Book) (seed : Seed) (params : Params) (q : ℕ) (message signature : List ℕ) → IsBook b → IsLeafFor b (key_of seed params) message q
    → (s : Signs b seed params message signature c) → s.leaf.leaf ≡ q
right_leaf b c seed params q message signature right at s =
    let key = key_of seed params in
    let same = registers_leaves b s.registered seed params key s.registers in
    one_leaf_for b key message s.leaf.leaf q right (leaf_reserved b s.registered c key message s.leaf same s.reserves) (some_leaf b key message q at)

-- and there is one such leaf
pub one_leaf_of : (b : Book) (key message : List ℕ) (k l : ℕ) → IsBook b → IsLeafFor b key message k → IsLeafFor b key message l → k ≡ l
one_leaf_of b key message k l right p q = one_leaf_for b key message k l right (some_leaf b key message k p) (some_leaf b key message l q)

pub two_verify : (top key message first last signature : List ℕ) → signature ≡ u32 1 ++ (first ++ (key ++ last)) → Verifies top key first → Verifies key message last
    → VerifiesHss (u32 2 ++ top) message signature
two_verify top key message first last signature joined v w = record {
  signed_keys = 1;
  top = top;
  rest = first ++ (key ++ last);
  levels = record { few = omega arith; key = refl; spelled = joined };
  down = (first, key, last, refl, v, w);
}
