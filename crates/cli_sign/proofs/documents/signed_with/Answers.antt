use Rattle.sign_books.proofs.Leading.{by_answer, file_signed, file_unsigned, rests}
use Rattle.cli_sign.proofs.documents.signed_with.Goals as goal

pub returns-in_err-pair-clause-leads : goal.returns-in_err-pair-clause-leads
returns-in_err-pair-clause-leads g c =
    rests _

pub returns-then-not-was_known-clause-leads : goal.returns-then-not-was_known-clause-leads
returns-then-not-was_known-clause-leads g c =
    rests _

pub returns-in-Ok-clause-leads : goal.returns-in-Ok-clause-leads
returns-in-Ok-clause-leads g c =
    by_answer c.sign_file_with-signed.result _ _ _ c.sign_file_with-signed.ensures.signed c.sign_file_with-signed.ensures.unsigned
    (λ out s. file_signed _ _ _ _ _ out.items s) (λ fault h. file_unsigned _ _ _ _ _ fault h)

pub returns-in_err-tell_of_other_tree-in-Err-Book-OtherTree-clause-leads : goal.returns-in_err-tell_of_other_tree-in-Err-Book-OtherTree-clause-leads
returns-in_err-tell_of_other_tree-in-Err-Book-OtherTree-clause-leads g c =
    by_answer c.sign_file_with-signed.result _ _ _ c.sign_file_with-signed.ensures.signed c.sign_file_with-signed.ensures.unsigned
    (λ out s. file_signed _ _ _ _ _ out.items s) (λ fault h. file_unsigned _ _ _ _ _ fault h)

pub returns-in-Err-Book-OtherTree-clause-leads : goal.returns-in-Err-Book-OtherTree-clause-leads
returns-in-Err-Book-OtherTree-clause-leads g c =
    by_answer c.sign_file_with-signed.result _ _ _ c.sign_file_with-signed.ensures.signed c.sign_file_with-signed.ensures.unsigned
    (λ out s. file_signed _ _ _ _ _ out.items s) (λ fault h. file_unsigned _ _ _ _ _ fault h)

pub returns-clause-leads : goal.returns-clause-leads
returns-clause-leads g c =
    by_answer c.sign_file_with-signed.result _ _ _ c.sign_file_with-signed.ensures.signed c.sign_file_with-signed.ensures.unsigned
    (λ out s. file_signed _ _ _ _ _ out.items s) (λ fault h. file_unsigned _ _ _ _ _ fault h)
