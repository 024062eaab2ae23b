use Rattle.std.proofs.Common.{refl, inr, sym}
use Rattle.std.proofs.lemmas.Result.{err_from_is_err_and}
use Rattle.document_parts.proofs.Ill.{ill_again}
use Rattle.metadata.proofs.listings.read_listing.Goals as goal

pub returns-in_default-clause-err : goal.returns-in_default-clause-err
returns-in_default-clause-err c = inr (refl, λ l. c.in_default.ensures l.0.len l.1.2)

pub returns-in_default-hashes_of-clause-err : goal.returns-in_default-hashes_of-clause-err
returns-in_default-hashes_of-clause-err c = inr (refl, λ l. c.in_default-hashes_of.ensures l.0.digest l.1.3)

pub returns-in_err-layout-clause-err : goal.returns-in_err-layout-clause-err
returns-in_err-layout-clause-err c =
    let p = err_from_is_err_and c.from_residual.result c.from_residual.ensures.1 in
    rw (p.1, p.2) (ill_again _ c.in_err-layout.ensures.err (λ l. (l.0.layout, l.1.4)))

pub returns-clause-ok : goal.returns-clause-ok
returns-clause-ok c =
    let some = rw c.in-Some-2.is at c.in_ok-path.ensures.some in
    (sym some.0, some.1, c.in-Some.ensures, c.in-Some-hashes_of.ensures, c.in_ok-layout.ensures.ok)
