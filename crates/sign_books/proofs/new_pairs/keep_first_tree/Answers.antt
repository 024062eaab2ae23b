use Rattle.sign_books.proofs.Leading.{by_answer, message_signed, message_unsigned}
use Rattle.sign_books.proofs.new_pairs.keep_first_tree.Goals as goal

pub returns : goal.returns
returns g c = by_answer c.sign_message.result _ _ _ c.sign_message.ensures.signs c.sign_message.ensures.unsigned
    (λ both s. message_signed _ _ c.args.top.now.seed c.args.top.now.params _ _ s)
    (λ fault h. message_unsigned _ _ c.args.top.now.seed c.args.top.now.params _ fault h)
