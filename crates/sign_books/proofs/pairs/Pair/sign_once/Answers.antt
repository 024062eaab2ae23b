use Rattle.std.proofs.Common.{Ok, Err}
use Rattle.sign_books.proofs.Leading.{below_once_leads, by_answer, once_leads}
use Rattle.sign_books.proofs.pairs.Pair.sign_once.Goals as goal

pub returns-in-One-clause-leads : goal.returns-in-One-clause-leads
returns-in-One-clause-leads g c = by_answer c.sign_file_once.result _ _ _ c.sign_file_once.ensures.signed c.sign_file_once.ensures.unsigned
    (λ out s. once_leads _ _ c.in-One.pair.seed c.in-One.pair.params c.args.file.now (Ok out.items) s)
    (λ fault h. once_leads _ _ c.in-One.pair.seed c.in-One.pair.params c.args.file.now (Err fault) h)

pub returns-in-Two-clause-leads : goal.returns-in-Two-clause-leads
returns-in-Two-clause-leads g c = by_answer c.sign_file_below_once.result _ _ _ c.sign_file_below_once.ensures.signed c.sign_file_below_once.ensures.unsigned
    (λ out s. below_once_leads _ _ c.in-Two.signer c.args.file.now (Ok out.items) s)
    (λ fault h. below_once_leads _ _ c.in-Two.signer c.args.file.now (Err fault) h)
