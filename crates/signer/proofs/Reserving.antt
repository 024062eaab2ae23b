-- The leaf that is reserved for a key that was just registered.
use Rattle.std.proofs.Common.{◌≡◌, ◌++◌, ◌∷◌, [], ℕ, List, Ok, Err, inl, inr, refl, sym, ap, subst}
use Rattle.sqlite_rules.specs.Lists.{Has}
use Rattle.lms.specs.declared.Params.{Params}
use Rattle.lms.specs.declared.Seed.{Seed}
use Rattle.leaf_plans.specs.Book.{Book, IsBook, IsRegistered, Signer}
use Rattle.leaf_book.specs.Calls.{Registers, Reserved, Reserves}
use Rattle.leaf_book.specs.declared.faults.BookFault.{BookFault}
use Rattle.leaf_book.specs.declared.faults.BookFault.TheVariants.{LeavesSpent, UnknownKey, Damaged, OtherTree, Database, OutOfMemory}
use Rattle.leaf_plans.specs.Book.{key_of}
use Rattle.signer.specs.Messages.{IsUnsigned}

last_has : (xs : List Signer) (x : Signer) → Has (xs ++ x ∷ []) x
last_has [] x = inl refl
last_has (y ∷ ys) x = inr (last_has ys x)

registered : (b c : Book) (seed : Seed) (params : Params) (key : List ℕ) → Registers b seed params (Ok key) c → IsRegistered c key params
registered b c seed params key (same, lacks, inl h) = subst (λ (d : Book). IsRegistered d key params) (sym h.1) h.0
registered b c seed params key (same, lacks, inr h) = subst (λ (d : Book). IsRegistered d key params) (sym h.1) (last_has b.signers (record { key = key; params = params }))

-- it is one of the seed's key, under the same parameters
pub same_params : (b c d : Book) (seed : Seed) (params : Params) (key message : List ℕ) (r : Reserved) → IsBook c → Registers b seed params (Ok key) c
    → Reserves c key message (Ok r) d → params ≡ r.params
same_params b c d seed params key message r right was then =
    ap (λ (s : Signer). s.params) (right.one_signer (record { key = key; params = params }) (record { key = key; params = r.params }) (registered b c seed params key was) then.2 refl)

-- why none is reserved for it
pub unreserved : (b c d : Book) (seed : Seed) (params : Params) (message : List ℕ) (fault : BookFault) → Registers b seed params (Ok (key_of seed params)) c
    → Reserves c (key_of seed params) message (Err fault) d → IsUnsigned b seed params message fault d
unreserved b c d seed params message LeavesSpent was then = (c, was, then)
unreserved b c d seed params message UnknownKey was then = absurd (then.0 params (registered b c seed params (key_of seed params) was))
unreserved b c d seed params message Damaged was then = absurd then
unreserved b c d seed params message OtherTree was then = absurd then
unreserved b c d seed params message Database was then = inr (c, was, inl then)
unreserved b c d seed params message OutOfMemory was then = inr (c, was, inl then)

-- the leaf stays reserved where the signature has no memory
pub unspent : (b c d : Book) (seed : Seed) (params : Params) (message : List ℕ) (r : Reserved) → Registers b seed params (Ok (key_of seed params)) c
    → Reserves c (key_of seed params) message (Ok r) d → IsUnsigned b seed params message OutOfMemory d
unspent b c d seed params message r was then = inr (c, was, inr (r, then))
