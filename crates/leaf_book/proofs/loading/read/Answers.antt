use Rattle.std.proofs.Common.{◌≡◌, Err, map, ap, subst, sym}
use Rattle.sqlite_rules.specs.Lists.{Has}
use Rattle.leaf_book.specs.declared.faults.BookFault.TheVariants.{Damaged}
use Rattle.leaf_book.specs.Rows.{AreRowsOf, IsLeafFrom, IsSignerFrom}
use Rattle.leaf_plans.specs.Views.{kept_view, signer_view}
use Rattle.leaf_book.specs.steps.Loading.{AreLeaves}
use Rattle.leaf_book.proofs.BookLemmas.{as_answered, as_stored, book_right, goes_over, signers_right}
use Rattle.leaf_book.proofs.ReadLemmas.{signer_is}
use Rattle.leaf_book.proofs.loading.read.Goals as goal

pub returns-in-Err-clause-damaged : goal.returns-in-Err-clause-damaged
returns-in-Err-clause-damaged c is trees answers b right holds =
    let fault : c.in-Err.fault ≡ Damaged = cc in
    let told = c.in-Err.ensures.damaged (ap Err fault) b.signers (signers_right b right) in
    told (subst (λ rs. AreRowsOf (IsSignerFrom 0) rs b.signers) (sym c.as_slice.ensures.value)
    (as_answered (IsSignerFrom 0) (IsSignerFrom 1) (λ r v h. h) (λ r v h. h) (trees 0) c.args.answers.now.signers.items answers.signers b.signers holds.signers))

pub returns-in-Ok-leaves_of-clause-right : goal.returns-in-Ok-leaves_of-clause-right
returns-in-Ok-leaves_of-clause-right c =
    book_right (map signer_view c.in-Ok.signers.items) (map kept_view c.in-Ok-leaves_of.leaves.items) c.in-Ok.ensures.right
    (subst (λ ss. AreLeaves (map signer_view ss) (map kept_view c.in-Ok-leaves_of.leaves.items)) c.as_slice-2.ensures.value c.in-Ok-leaves_of.ensures.right)

pub returns-in-Ok-leaves_of-clause-held : goal.returns-in-Ok-leaves_of-clause-held
returns-in-Ok-leaves_of-clause-held c trees answers = record {
  signers = as_stored (IsSignerFrom 0) (IsSignerFrom 1) (λ r v h. h) (λ r v h. h) (trees 0) c.args.answers.now.signers.items answers.signers (map signer_view c.in-Ok.signers.items)
      (subst (λ rs. AreRowsOf (IsSignerFrom 0) rs (map signer_view c.in-Ok.signers.items)) c.as_slice.ensures.value c.in-Ok.ensures.read);
  leaves = as_stored (IsLeafFrom 0) (IsLeafFrom 1) (λ r v h. h) (λ r v h. h) (trees 2) c.args.answers.now.leaves.items answers.leaves (map kept_view c.in-Ok-leaves_of.leaves.items)
      (subst (λ rs. AreRowsOf (IsLeafFrom 0) rs (map kept_view c.in-Ok-leaves_of.leaves.items)) c.as_slice-3.ensures.value c.in-Ok-leaves_of.ensures.read);
}

pub returns-in-Err-leaves_of-clause-damaged : goal.returns-in-Err-leaves_of-clause-damaged
returns-in-Err-leaves_of-clause-damaged c is trees answers b right holds =
    let fault : c.in-Err-leaves_of.fault ≡ Damaged = cc in
    let asked = as_answered (IsSignerFrom 0) (IsSignerFrom 1) (λ r v h. h) (λ r v h. h) (trees 0) c.args.answers.now.signers.items answers.signers b.signers holds.signers in
    let read = subst (λ rs. AreRowsOf (IsSignerFrom 0) rs (map signer_view c.in-Ok.signers.items)) c.as_slice.ensures.value c.in-Ok.ensures.read in
    c.in-Err-leaves_of.ensures.damaged (ap Err fault) b right
    (λ s h. subst (λ ss. Has (map signer_view ss) s) (sym c.as_slice-2.ensures.value) (goes_over (IsSignerFrom 0) (λ x. signer_is 0 x) c.args.answers.now.signers.items b.signers (map signer_view c.in-Ok.signers.items) asked read s h))
    (subst (λ rs. AreRowsOf (IsLeafFrom 0) rs b.leaves) (sym c.as_slice-3.ensures.value)
    (as_answered (IsLeafFrom 0) (IsLeafFrom 1) (λ r v h. h) (λ r v h. h) (trees 2) c.args.answers.now.leaves.items answers.leaves b.leaves holds.leaves))
