-- What a crash inside a signing leaves.
use Rattle.std.proofs.Common.{◌⊎◌, ℕ, List, Result, Ok, Err, inl, inr, refl, subst}
use Rattle.sqlite_trees.specs.Tree.{Trees}
use Rattle.lms.specs.declared.Params.{Params}
use Rattle.lms.specs.declared.Seed.{Seed}
use Rattle.leaf_plans.specs.Book.{Book, key_of}
use Rattle.leaf_book.specs.Calls.{Registers, Reserved, Reserves}
use Rattle.leaf_book.specs.Rows.{HoldsWhole}
use Rattle.leaf_book.specs.declared.faults.BookFault.{BookFault}
use Rattle.leaf_book.specs.declared.faults.BookFault.TheVariants.{LeavesSpent, UnknownKey, Damaged, OtherTree, Database, OutOfMemory}
use Rattle.signer.specs.Messages.{IsBegun}

pub registers_begun : (b c : Book) (seed : Seed) (params : Params) (message : List ℕ) (r : Result (List ℕ) BookFault) → Registers b seed params r c → IsBegun b seed params message c
registers_begun b c seed params message (Ok key) does = inr (c, subst (λ (k : List ℕ). Registers b seed params (Ok k) c) does.0 does, inl refl)
registers_begun b c seed params message (Err Damaged) does = inl does.1
registers_begun b c seed params message (Err OtherTree) does = inl does.1
registers_begun b c seed params message (Err LeavesSpent) does = absurd does
registers_begun b c seed params message (Err UnknownKey) does = absurd does
registers_begun b c seed params message (Err Database) does = inl does
registers_begun b c seed params message (Err OutOfMemory) does = inl does

pub reserves_begun : (b c d : Book) (seed : Seed) (params : Params) (message : List ℕ) (r : Result Reserved BookFault) → Registers b seed params (Ok (key_of seed params)) c
    → Reserves c (key_of seed params) message r d → IsBegun b seed params message d
reserves_begun b c d seed params message (Ok leaf) was does = inr (c, was, inr (leaf, does))
reserves_begun b c d seed params message (Err LeavesSpent) was does = inr (c, was, inl does.2)
reserves_begun b c d seed params message (Err UnknownKey) was does = inr (c, was, inl does.1)
reserves_begun b c d seed params message (Err Damaged) was does = absurd does
reserves_begun b c d seed params message (Err OtherTree) was does = absurd does
reserves_begun b c d seed params message (Err Database) was does = inr (c, was, inl does)
reserves_begun b c d seed params message (Err OutOfMemory) was does = inr (c, was, inl does)

-- what is left of the registration alone
pub left_early : (trees : Trees) (b : Book) (seed : Seed) (params : Params) (message : List ℕ)
    → HoldsWhole trees b ⊎ ((r : Result (List ℕ) BookFault) × (c : Book) × Registers b seed params r c × HoldsWhole trees c)
    → (c : Book) × IsBegun b seed params message c × HoldsWhole trees c
left_early trees b seed params message (inl before) = (b, inl refl, before)
left_early trees b seed params message (inr (r, c, does, whole)) = (c, registers_begun b c seed params message r does, whole)

-- and of the reservation after it
pub left_late : (trees : Trees) (b c : Book) (seed : Seed) (params : Params) (key message : List ℕ) → Registers b seed params (Ok key) c
    → HoldsWhole trees c ⊎ ((r : Result Reserved BookFault) × (d : Book) × Reserves c key message r d × HoldsWhole trees d)
    → (d : Book) × IsBegun b seed params message d × HoldsWhole trees d
left_late trees b c seed params key message was left =
    let known = subst (λ (k : List ℕ). Registers b seed params (Ok k) c) was.0 was in
    elim left [
      | inl before ↦ (c, inr (c, known, inl refl), before)
      | inr after ↦ (after.1, reserves_begun b c after.1 seed params message after.0 known (subst (λ (k : List ℕ). Reserves c k message after.0 after.1) was.0 after.2), after.3)
    ]
