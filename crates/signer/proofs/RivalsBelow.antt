-- Rivals in all trees of a key of two levels.
use Rattle.std.proofs.Common.{◌≡◌, ℕ, List, length, Option, Some, None, MatchOption, inl, inr, refl, sym, ap, subst, ◌∙◌}
use Rattle.sqlite_rules.specs.Lists.{Has}
use Rattle.leaf_plans.specs.Book.{Book, LeafRow}
use Rattle.signer.specs.Below.{IsRivalBelow, lms_key_of}
use Rattle.signer.specs.Versions.{IsRivalLeaf}
use Rattle.signer.proofs.KeptTrees.{entry}

-- among these entries this leaf of a tree that a leaf of the top tree is kept for
abbrev pub IsUnderIn : List LeafRow → List ℕ → List ℕ → ℕ → Type 0
IsUnderIn rows top message leaf =
    (q : ℕ) × (public : List ℕ) × Has rows (record { key = top; leaf = q; message = public }) × (length public ≡ 56) × IsRivalLeaf rows (lms_key_of public) message leaf

abbrev pub LacksUnder : List LeafRow → List ℕ → List ℕ → Type 0
LacksUnder rows top message =
    (q : ℕ) (public : List ℕ) → Has rows (record { key = top; leaf = q; message = public }) → length public ≡ 56
    → (leaf : ℕ) → IsRivalLeaf rows (lms_key_of public) message leaf → ⊥

pub in_top : (b : Book) (rows : List LeafRow) (top message : List ℕ) (leaf : ℕ) → rows ≡ b.leaves → IsRivalLeaf rows top message leaf → IsRivalBelow b top message leaf
in_top b rows top message leaf all r = (top, inl refl, subst (λ (es : List LeafRow). IsRivalLeaf es top message leaf) all r)

none_under : (b : Book) (rows : List LeafRow) (top message : List ℕ) → rows ≡ b.leaves → ((leaf : ℕ) → IsRivalLeaf rows top message leaf → ⊥)
    → LacksUnder rows top message → (leaf : ℕ) → IsRivalBelow b top message leaf → ⊥
none_under b rows top message all lacks none leaf (key, inl same, r) =
    lacks leaf (subst (λ (k : List ℕ). IsRivalLeaf rows k message leaf) same (subst (λ (es : List LeafRow). IsRivalLeaf es key message leaf) (sym all) r))
none_under b rows top message all lacks none leaf (key, inr (q, public, kept, long, same), r) =
    none q public (subst (λ (es : List LeafRow). Has es (entry top q public)) (sym all) kept) long leaf
    (subst (λ (k : List ℕ). IsRivalLeaf rows k message leaf) same (subst (λ (es : List LeafRow). IsRivalLeaf es key message leaf) (sym all) r))

pub under : (b : Book) (rows : List LeafRow) (top message : List ℕ) (found : Option ℕ) → rows ≡ b.leaves → ((leaf : ℕ) → IsRivalLeaf rows top message leaf → ⊥)
    → MatchOption found (LacksUnder rows top message) (λ leaf. IsUnderIn rows top message leaf)
    → MatchOption found ((leaf : ℕ) → IsRivalBelow b top message leaf → ⊥) (λ leaf. IsRivalBelow b top message leaf)
under b rows top message None all lacks none = none_under b rows top message all lacks none
under b rows top message (Some leaf) all lacks (q, public, kept, long, r) = (
  lms_key_of public,
  inr (q, public, subst (λ (es : List LeafRow). Has es (entry top q public)) all kept, long, refl),
  subst (λ (es : List LeafRow). IsRivalLeaf es (lms_key_of public) message leaf) all r,
)

-- ---- one entry

abbrev pub IsUnderBy : List LeafRow → LeafRow → List ℕ → List ℕ → ℕ → Type 0
IsUnderBy rows kept top message leaf =
    (q : ℕ) × (public : List ℕ) × (kept ≡ record { key = top; leaf = q; message = public }) × (length public ≡ 56) × IsRivalLeaf rows (lms_key_of public) message leaf

abbrev pub LacksUnderBy : List LeafRow → LeafRow → List ℕ → List ℕ → Type 0
LacksUnderBy rows kept top message =
    (q : ℕ) (public : List ℕ) → kept ≡ record { key = top; leaf = q; message = public } → length public ≡ 56
    → (leaf : ℕ) → IsRivalLeaf rows (lms_key_of public) message leaf → ⊥

-- it is one of the top tree
pub by_entry : (rows : List LeafRow) (kept : LeafRow) (top id message : List ℕ) (found : Option ℕ) → kept.key ≡ top → length kept.message ≡ 56 → id ≡ lms_key_of kept.message
    → MatchOption found ((leaf : ℕ) → IsRivalLeaf rows id message leaf → ⊥) (λ leaf. IsRivalLeaf rows id message leaf)
    → MatchOption found (LacksUnderBy rows kept top message) (λ leaf. IsUnderBy rows kept top message leaf)
by_entry rows kept top id message None own long same none = λ q public is size leaf r.
    none leaf (subst (λ (k : List ℕ). IsRivalLeaf rows k message leaf) (sym (same ∙ ap (λ (e : LeafRow). lms_key_of e.message) is)) r)
by_entry rows kept top id message (Some leaf) own long same r = (
  kept.leaf,
  kept.message,
  ap (λ (k : List ℕ). entry k kept.leaf kept.message) own,
  long,
  subst (λ (k : List ℕ). IsRivalLeaf rows k message leaf) same r,
)
