use Rattle.sign_books.proofs.Leading.{below_signed, below_unsigned, by_answer, file_signed, file_unsigned}
use Rattle.sign_books.proofs.pairs.Pair.sign.Goals as goal

pub returns-in-One-clause-leads : goal.returns-in-One-clause-leads
returns-in-One-clause-leads g c = by_answer c.sign_file_with.result _ _ _ c.sign_file_with.ensures.signed c.sign_file_with.ensures.unsigned
    (λ out s. file_signed _ _ _ _ _ out.items s)
    (λ fault h. file_unsigned _ _ c.in-One.pair.seed c.in-One.pair.params c.args.file.now fault h)

pub returns-in-Two-clause-leads : goal.returns-in-Two-clause-leads
returns-in-Two-clause-leads g c = by_answer c.sign_file_below.result _ _ _ c.sign_file_below.ensures.signed c.sign_file_below.ensures.unsigned
    (λ out s. below_signed _ _ _ _ out.items s)
    (λ fault h. below_unsigned _ _ c.in-Two.signer c.args.file.now fault h)
