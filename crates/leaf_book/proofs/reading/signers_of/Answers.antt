use Rattle.std.proofs.Common.{◌≡◌, ◌+◌, ◌++◌, [], ◌∷◌, Err, take, map, arith, sym, ap, subst, ◌∙◌}
use Rattle.std.proofs.lemmas.List.{take_more}
use Rattle.leaf_book.specs.declared.faults.BookFault.TheVariants.{Damaged}
use Rattle.leaf_plans.specs.Book.{Signer}
use Rattle.leaf_book.specs.Rows.{AreRowsOf, IsSignerFrom}
use Rattle.leaf_plans.specs.Views.{signer_view}
use Rattle.leaf_book.specs.steps.Loading.{AreSigners}
use Rattle.leaf_book.proofs.ReadLemmas.{among, row_before, row_in, signer_is, signer_read}
use Rattle.leaf_book.proofs.reading.signers_of.Goals as goal

pub returns-in_default-clause-damaged : goal.returns-in_default-clause-damaged
returns-in_default-clause-damaged c is ss right are =
    let at = c.rows.row-index in
    let row = c.row-item.result in
    let more : take (at + 1) c.args.rows.now ≡ take at c.args.rows.now ++ row ∷ [] = take_more c.args.rows.now at row (omega arith) ∙ ap (λ r. take at c.args.rows.now ++ r ∷ []) (sym c.row-item.is) in
    let s = are.each row (row_in c.args.rows.now (take at c.args.rows.now) row at more) in
    c.in_default.ensures.value s.0 (right.ids s.0 s.1) s.2

pub returns-in-Err-clause-damaged : goal.returns-in-Err-clause-damaged
returns-in-Err-clause-damaged c is ss right are =
    let at = c.rows.row-index in
    let row = c.row-item.result in
    let done = take at c.args.rows.now in
    let more : take (at + 1) c.args.rows.now ≡ done ++ row ∷ [] = take_more c.args.rows.now at row (omega arith) ∙ ap (λ r. done ++ r ∷ []) (sym c.row-item.is) in
    let fault : c.in-Err.fault ≡ Damaged = cc in
    let other = c.in-Err.ensures.damaged (ap Err fault) in
    let new = signer_view c.in-Some.signer in
    let there = among (IsSignerFrom 0) (λ x. signer_is 0 x) c.args.rows.now done ss (map signer_view c.rows.signers.items) are c.rows.invariant.0 (λ x. row_before c.args.rows.now done row x at more) other.0 other.1 in
    let here = are.each row (row_in c.args.rows.now done row at more) in
    let same : here.0 ≡ new = signer_is 0 row here.0 new here.2 c.in-Some.ensures.value in
    other.3 (right.one other.0 here.0 there here.1 (other.2 ∙ ap (λ (s : Signer). s.key) (sym same)) ∙ same)

pub rows-preserved : goal.rows-preserved
rows-preserved c =
    let at = c.rows.row-index in
    let row = c.row-item.result in
    let done = take at c.args.rows.now in
    let more : take (at + 1) c.args.rows.now ≡ done ++ row ∷ [] = take_more c.args.rows.now at row (omega arith) ∙ ap (λ r. done ++ r ∷ []) (sym c.row-item.is) in
    let now = map signer_view c.add_signer.new.signers.items in
    subst (λ rows. AreRowsOf (IsSignerFrom 0) rows now × AreSigners now) (sym more)
    (signer_read done row (signer_view c.in-Some.signer) (map signer_view c.rows.signers.items) now c.rows.invariant c.in-Some.ensures.value c.in-Some.ensures.fits c.in-Ok.ensures.added)
