use Rattle.std.proofs.Common.{◌≡◌, ◌+◌, ◌++◌, [], ◌∷◌, Err, take, map, arith, sym, ap, subst, ◌∙◌}
use Rattle.std.proofs.lemmas.List.{take_more}
use Rattle.leaf_book.specs.declared.faults.BookFault.TheVariants.{Damaged}
use Rattle.sqlite_rules.specs.Lists.{Has}
use Rattle.leaf_book.specs.Rows.{AreRowsOf, IsLeafFrom}
use Rattle.leaf_plans.specs.Views.{kept_view, signer_view}
use Rattle.leaf_book.specs.steps.Loading.{AreLeaves}
use Rattle.leaf_book.proofs.ReadLemmas.{among, leaf_fits, leaf_is, leaf_read, no_clash, row_before, row_in}
use Rattle.leaf_book.proofs.reading.leaves_of.Goals as goal

pub returns-in-Err-clause-damaged : goal.returns-in-Err-clause-damaged
returns-in-Err-clause-damaged c is b right known are =
    let at = c.rows.row-index in
    let row = c.row-item.result in
    let done = take at c.args.rows.now in
    let more : take (at + 1) c.args.rows.now ≡ done ++ row ∷ [] = take_more c.args.rows.now at row (omega arith) ∙ ap (λ r. done ++ r ∷ []) (sym c.row-item.is) in
    let fault : c.in-Err.fault ≡ Damaged = cc in
    let e = are.each row (row_in c.args.rows.now done row at more) in
    let fits = leaf_fits b e.0 right e.1 in
    c.in-Err.ensures.damaged (ap Err fault) e.0 fits.0 fits.1 e.2

pub returns-then-not-is_known-clause-damaged : goal.returns-then-not-is_known-clause-damaged
returns-then-not-is_known-clause-damaged c is b right known are =
    let at = c.rows.row-index in
    let row = c.row-item.result in
    let done = take at c.args.rows.now in
    let more : take (at + 1) c.args.rows.now ≡ done ++ row ∷ [] = take_more c.args.rows.now at row (omega arith) ∙ ap (λ r. done ++ r ∷ []) (sym c.row-item.is) in
    let new = kept_view c.in-Ok.kept in
    let e = are.each row (row_in c.args.rows.now done row at more) in
    let same : e.0 ≡ new = leaf_is 0 row e.0 new e.2 c.in-Ok.ensures.read in
    let its = right.known new (subst (λ f. Has b.leaves f) same e.1) in
    c.if-not-is_known.ensures c.requires its.0 (known (record { key = new.key; params = its.0 }) its.1) its.2

pub returns-in-Err-add_leaf-clause-damaged : goal.returns-in-Err-add_leaf-clause-damaged
returns-in-Err-add_leaf-clause-damaged c is b right known are =
    let at = c.rows.row-index in
    let row = c.row-item.result in
    let done = take at c.args.rows.now in
    let more : take (at + 1) c.args.rows.now ≡ done ++ row ∷ [] = take_more c.args.rows.now at row (omega arith) ∙ ap (λ r. done ++ r ∷ []) (sym c.row-item.is) in
    let fault : c.in-Err-add_leaf.fault ≡ Damaged = cc in
    let new = kept_view c.in-Ok.kept in
    let other = c.in-Err-add_leaf.ensures.damaged (ap Err fault) in
    let there = among (IsLeafFrom 0) (λ x. leaf_is 0 x) c.args.rows.now done b.leaves (map kept_view c.rows.leaves.items) are c.rows.invariant.0 (λ x. row_before c.args.rows.now done row x at more) other.0 other.1 in
    let e = are.each row (row_in c.args.rows.now done row at more) in
    let same : e.0 ≡ new = leaf_is 0 row e.0 new e.2 c.in-Ok.ensures.read in
    no_clash b new other.0 right there (subst (λ f. Has b.leaves f) same e.1) other.2

pub rows-preserved : goal.rows-preserved
rows-preserved c =
    let at = c.rows.row-index in
    let row = c.row-item.result in
    let done = take at c.args.rows.now in
    let more : take (at + 1) c.args.rows.now ≡ done ++ row ∷ [] = take_more c.args.rows.now at row (omega arith) ∙ ap (λ r. done ++ r ∷ []) (sym c.row-item.is) in
    let now = map kept_view c.add_leaf.new.leaves.items in
    let ss = map signer_view c.args.signers.now in
    subst (λ rows. AreRowsOf (IsLeafFrom 0) rows now × AreLeaves ss now) (sym more)
    (leaf_read ss done row (kept_view c.in-Ok.kept) (map kept_view c.rows.leaves.items) now c.rows.invariant c.in-Ok.ensures.read c.if-not-is_known.ensures c.in-Ok-add_leaf.ensures.added)
