-- What becomes of a book where a signature of two levels is made, or is not.
use Rattle.std.proofs.Common.{◌≡◌, ◌≢◌, ◌+◌, ◌++◌, ℕ, List, take, length, length-append, inl, inr, refl, ap, subst, ◌∙◌, arith, ◌<◌, ◌^◌}
use Rattle.sqlite_trees.specs.Tree.{Trees}
use Rattle.lms.specs.Keys.{Pair, public_of}
use Rattle.lms.specs.Parameters.{signature_len, signing_type}
use Rattle.lms.specs.Text.{u32}
use Rattle.lms.specs.Verifies.{Verifies}
use Rattle.leaf_plans.specs.Book.{Book}
use Rattle.leaf_book.specs.Rows.{HoldsWhole}
use Rattle.leaf_book.specs.declared.faults.BookFault.{BookFault}
use Rattle.leaf_book.specs.declared.faults.BookFault.TheVariants.{Damaged, OutOfMemory}
use Rattle.signer.specs.Levels.{IsBegunBelow, IsUnsignedBelow, SignsBelow, public_by}
use Rattle.signer.specs.Messages.{IsBegun, IsUnsigned, Signs}
use Rattle.signer.proofs.LevelLeaves.{by_another, by_its_leaf}
use Rattle.signer.proofs.SignedFiles.{signature_is}

pub join_as : (key first last xs ys bytes : List ℕ) → xs ≡ first → ys ≡ last → bytes ≡ u32 1 ++ (xs ++ (key ++ ys)) → bytes ≡ u32 1 ++ (first ++ (key ++ last))
join_as key first last xs ys bytes p q e = e ∙ ap (λ (x : List ℕ). u32 1 ++ (x ++ (key ++ ys))) p ∙ ap (λ (y : List ℕ). u32 1 ++ (first ++ (key ++ y))) q

module _ (b c : Book) (top below : Pair) (q : ℕ) (key message first : List ℕ) (same : key ≡ public_by below) where
  abbrev SignsKey : Type 0
  SignsKey = Signs b top.seed top.params key first c

  by_key : SignsKey → Signs b top.seed top.params (public_by below) first c
  by_key s = subst (λ (k : List ℕ). Signs b top.seed top.params k first c) same s

  pub crash_early : (trees : Trees) → (x : Book) × IsBegun b top.seed top.params key x × HoldsWhole trees x
      → (x : Book) × IsBegunBelow b top below message x × HoldsWhole trees x
  crash_early trees (x, begun, whole) = (x, inl (subst (λ (k : List ℕ). IsBegun b top.seed top.params k x) same begun), whole)

  pub crash_late : (trees : Trees) → SignsKey → (x : Book) × IsBegun c below.seed below.params message x × HoldsWhole trees x
      → (x : Book) × IsBegunBelow b top below message x × HoldsWhole trees x
  crash_late trees s (x, begun, whole) = (x, inr (c, first, by_key s, begun), whole)

  pub other_leaf : SignsKey → take 4 first ≢ u32 q → IsUnsignedBelow b top q below message Damaged c
  other_leaf s differ = inr (c, first, by_key s, inl (refl, refl, by_another b c top.seed top.params (public_by below) first q (by_key s) differ))

  pub unsigned_after : (d : Book) (fault : BookFault) → q < 2 ^ 32 → SignsKey → take 4 first ≡ u32 q → IsUnsigned c below.seed below.params message fault d
      → IsUnsignedBelow b top q below message fault d
  unsigned_after d fault fits s begins it = inr (c, first, by_key s, inr (by_its_leaf b c top.seed top.params (public_by below) first q fits (by_key s) begins, inl it))

  pub unjoined : (d : Book) (last : List ℕ) → q < 2 ^ 32 → SignsKey → take 4 first ≡ u32 q → Signs c below.seed below.params message last d
      → IsUnsignedBelow b top q below message OutOfMemory d
  unjoined d last fits s begins t =
      inr (c, first, by_key s, inr (by_its_leaf b c top.seed top.params (public_by below) first q fits (by_key s) begins, inr (refl, (last, t))))

  pub both_signed : (d : Book) (last signature : List ℕ) → q < 2 ^ 32 → SignsKey → take 4 first ≡ u32 q → Signs c below.seed below.params message last d
      → signature ≡ u32 1 ++ (first ++ (key ++ last)) → SignsBelow b top q below message signature d
  both_signed d last signature fits s begins t joined = record {
    between = c;
    first = first;
    last = last;
    signs_key = by_key s;
    by_leaf = by_its_leaf b c top.seed top.params (public_by below) first q fits (by_key s) begins;
    signs_message = t;
    joined = joined ∙ ap (λ (k : List ℕ). u32 1 ++ (first ++ (k ++ last))) same;
  }

  -- how long both are with the key between them
  pub both_length : (last signature : List ℕ) → length key ≡ 56 → Verifies (public_of top.seed top.params) key first
      → Verifies (public_of below.seed below.params) message last → signature ≡ u32 1 ++ (first ++ (key ++ last))
      → length signature ≡ 4 + (signature_len top.params.ots (signing_type top.params.height) + (56 + signature_len below.params.ots (signing_type below.params.height)))
  both_length last signature long v w joined =
      let a = signature_is top.seed top.params key first v in
      let z = signature_is below.seed below.params message last w in
      let e = ap (λ (xs : List ℕ). length xs) joined in
      let l = length-append (u32 1) (first ++ (key ++ last)) in
      let m = length-append first (key ++ last) in
      let n = length-append key last in
      omega (arith, a, z, e, l, m, n, long)
